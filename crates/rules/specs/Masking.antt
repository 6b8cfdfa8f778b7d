-- Document 01, "Hidden bytes and places": which bytes of a token are hidden, and the masked copy of a text.
use Rattle.std.specs.Prelude.{ℕ, suc, ◌+◌, ◌-◌, List, [], ◌∷◌, ◌++◌, Bool, true, false, cond, ◌&&◌, ◌||◌, length, get_or, take, drop, replicate, leb, ltb, eqb}
use Rattle.rules.specs.Utf8.{within}
use Rattle.rules.specs.Characters.{dollar, star}
use Rattle.rules.specs.Kinds.{Comment, StringToken, HereDoc, ErrorMultilineCommentIsNotClosed, ErrorSingleQuoteIsNotClosed, ErrorBackQuoteIsNotClosed}
use Rattle.rules.specs.Limits.{mask_byte}
use Rattle.rules.specs.Tokens.{Token, tokens}

-- "quote (1 byte, or 3 for the Unicode pair)", by the token's first byte.
unfoldable pub quote_width : List ℕ → ℕ
quote_width bs = cond (leb 0x80 (get_or bs 0 0)) 3 1

-- How many bytes stand before the first `$`.
unfoldable pub before_dollar : List ℕ → ℕ
before_dollar [] = 0
before_dollar (b ∷ s) = elim (eqb b dollar) [ true ↦ 0 | false ↦ suc (before_dollar s) ]

-- The bytes of `$tag$`, of a token that begins with it.
unfoldable pub tag_width : List ℕ → ℕ
tag_width bs = before_dollar (drop 1 bs) + 2

-- How many bytes at the front of a token of kind k stay as they are.
unfoldable pub front : ℕ → List ℕ → ℕ
front k bs =
    -- "in Comment, all after `--`, or between the outer `/*` and `*/`; in 40, all after the first two bytes"
    cond (eqb k Comment || eqb k ErrorMultilineCommentIsNotClosed) 2
    -- "in StringToken, all but the opening and closing quote ..; in 41, 42 and 43, all after the opening quote"
    (cond (eqb k StringToken || within ErrorSingleQuoteIsNotClosed ErrorBackQuoteIsNotClosed k) (quote_width bs)
    -- "in HereDoc, all between its two `$tag$`"
    (cond (eqb k HereDoc) (tag_width bs)
    -- "Nothing else."
    (length bs)))

-- How many at its back.
unfoldable pub back : ℕ → List ℕ → ℕ
back k bs =
    cond (eqb k Comment) (cond (eqb (get_or bs 1 0) star) 2 0)
    (cond (eqb k StringToken) (quote_width bs)
    (cond (eqb k HereDoc) (tag_width bs) 0))

-- "Each hidden byte becomes 23 hex.": some bytes with those from f on, before n, hidden.
abbrev pub hide : ℕ → ℕ → List ℕ → List ℕ
hide f n bs = take f bs ++ (replicate (n - f) mask_byte ++ drop n bs)

-- A token's bytes, masked.
unfoldable pub mask_token : ℕ → List ℕ → List ℕ
mask_token k bs = hide (front k bs) (length bs - back k bs) bs

unfoldable pub mask_tokens : List Token → List ℕ → List ℕ
mask_tokens [] s = []
mask_tokens (t ∷ ts) s = let n = t.end - t.start in mask_token t.kind (take n s) ++ mask_tokens ts (drop n s)

-- "Masked copy": the text's tokens, each masked.
unfoldable pub masked : List ℕ → List ℕ
masked s = mask_tokens (tokens s) s

-- Byte i of a token of kind k with the bytes bs is hidden.
unfoldable pub hidden_at : ℕ → List ℕ → ℕ → Bool
hidden_at k bs i = leb (front k bs) i && ltb i (length bs - back k bs)

unfoldable pub hidden_in : List Token → List ℕ → ℕ → Bool
hidden_in [] s i = false
hidden_in (t ∷ ts) s i =
    let n = t.end - t.start in
    elim (ltb i n) [ true ↦ hidden_at t.kind (take n s) i | false ↦ hidden_in ts (drop n s) (i - n) ]

-- Byte i of a text is hidden in one of its tokens.
unfoldable pub hidden : List ℕ → ℕ → Bool
hidden s i = hidden_in (tokens s) s i
