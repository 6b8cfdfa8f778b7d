-- Document 01, "What the library offers": the lists, full, lean and up to a position, and how a list is packed.
use Rattle.std.specs.Prelude.{ℕ, zero, suc, ◌+◌, ◌*◌, ◌/◌, ◌%◌, List, [], ◌∷◌, ◌++◌, Bool, true, false, not, cond, ◌||◌, length, get_or, drop, ltb, eqb}
use Rattle.rules.specs.Kinds.{Whitespace, Comment}
use Rattle.rules.specs.Limits.{token_bytes}
use Rattle.rules.specs.Tokens.{Token, token, tokens}

-- "listing mode .. 0 (full) .. 1 (lean)"
abbrev pub full : ℕ
full = 0

abbrev pub lean : ℕ
lean = 1

-- The tokens that pass a test.
unfoldable pub only : (Token → Bool) → List Token → List Token
only p [] = []
only p (t ∷ ts) = elim (p t) [ true ↦ t ∷ only p ts | false ↦ only p ts ]

-- "Lean drops exactly Whitespace and Comment."
abbrev pub lean_keeps : Token → Bool
lean_keeps t = not (eqb t.kind Whitespace || eqb t.kind Comment)

-- "Lean here drops Whitespace only and keeps Comment".
abbrev pub lean_up_to_keeps : Token → Bool
lean_up_to_keeps t = not (eqb t.kind Whitespace)

-- "the tokens that start before it"
abbrev pub starts_before : ℕ → Token → Bool
starts_before position t = ltb t.start position

-- "Whole listing, full or lean."
unfoldable pub whole_list : ℕ → List ℕ → List Token
whole_list mode s = cond (eqb mode lean) (only lean_keeps (tokens s)) (tokens s)

-- "Listing up to a position: the tokens that start before it; the last may run past it." "A position may be any number and needn't be a character edge."
unfoldable pub list_up_to : ℕ → ℕ → List ℕ → List Token
list_up_to mode position s =
    let ts = only (starts_before position) (tokens s) in
    cond (eqb mode lean) (only lean_up_to_keeps ts) ts

-- "each 32 bits, low byte first"
abbrev pub bytes_of32 : ℕ → List ℕ
bytes_of32 n = n % 256 ∷ n / 256 % 256 ∷ n / 65536 % 256 ∷ n / 16777216 % 256 ∷ []

-- "A packed list holds 12 bytes a token: kind, start, end".
abbrev pub pack_token : Token → List ℕ
pack_token t = bytes_of32 t.kind ++ (bytes_of32 t.start ++ bytes_of32 t.end)

unfoldable pub pack : List Token → List ℕ
pack [] = []
pack (t ∷ ts) = pack_token t ++ pack ts

-- "Its room is its length divided by 12, rounded down."
abbrev pub room : List ℕ → ℕ
room list = length list / token_bytes

-- The same read: the number of 32 bits that four bytes from a place on hold, and the token that twelve hold.
abbrev pub number_at : List ℕ → ℕ → ℕ
number_at list at = get_or list at 0 + get_or list (at + 1) 0 * 256 + get_or list (at + 2) 0 * 65536 + get_or list (at + 3) 0 * 16777216

abbrev pub token_in : List ℕ → ℕ → Token
token_in list at = token (number_at list at) (number_at list (at + 4)) (number_at list (at + 8))

-- So many tokens from a list's front.
unfoldable pub unpack : ℕ → List ℕ → List Token
unpack zero list = []
unpack (suc n) list = token_in list 0 ∷ unpack n (drop token_bytes list)
