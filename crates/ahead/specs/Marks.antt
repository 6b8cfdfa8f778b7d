-- Which `$` are marked as beginning no here-document.
use Rattle.std.specs.Prelude.{◌≡◌, ℕ, ◌+◌, ◌-◌, ◌*◌, ◌/◌, ◌%◌, ◌^◌, ◌<◌, ◌≤◌, Bool, true, false, cond, List, length, drop, ◌==◌, nat_le, nat_lt, slice_index}
use Rattle.std.proofs.Math.Option.{none}
use Rattle.rules.specs.Utf8.{chars}
use Rattle.rules.specs.Characters.{dollar}
use Rattle.rules.specs.Dollars.{here_doc}
use Rattle.rules.specs.Tokens.{lexeme, after_dot_at}
use Rattle.lexer.specs.Ends.{ends_at}
use Rattle.ahead.specs.declared.Found.{Found}

-- A `$` at an offset begins no here-document.
abbrev pub Lone : List ℕ → ℕ → Type 0
Lone s at = slice_index s at ≡ dollar → here_doc (chars (drop (at + 1) s)) ≡ none

abbrev pub bit : ℕ → ℕ → Bool
bit word k = word / 2 ^ k % 2 == 1

-- A word of bits marks none wrongly among the 64 from an offset on.
abbrev pub LoneWord : List ℕ → ℕ → ℕ → Type 0
LoneWord s at word = (k : ℕ) → bit word k ≡ true → Lone s (at + k)

-- The first n words of a window mark none wrongly.
abbrev pub LoneWords : List ℕ → ℕ → List ℕ → ℕ → Type 0
LoneWords s at words n = (m : ℕ) → m < n → LoneWord s (at + m * 64) (slice_index words m)

abbrev pub LoneUntil : List ℕ → ℕ → ℕ → Type 0
LoneUntil s from until = (at : ℕ) → from ≤ at → at < until → Lone s at

-- An offset is marked: it lies before `until`, or its bit is set in the window from there on.
abbrev pub marked : ℕ → List ℕ → ℕ → Bool
marked until words at = cond (nat_lt at until) true (cond (nat_le (length words) ((at - until) / 64)) false (bit (slice_index words ((at - until) / 64)) ((at - until) % 64)))

-- None is marked wrongly, from an offset on.
abbrev pub Marked : List ℕ → ℕ → ℕ → List ℕ → Type 0
Marked s from until words = (at : ℕ) → from ≤ at → marked until words at ≡ true → Lone s at

-- When the searches in vain count for so much, it pays to look ahead.
abbrev pub look_after : ℕ
look_after = 125000

-- The token at an offset was found.
abbrev pub Lexes : List ℕ → ℕ → Found → Type 0
Lexes s at f = f.token ≡ ends_at at (lexeme (after_dot_at s at) (drop at s))

-- What a token's search counts for: where it was in vain, it went from the token's end to the text's. The longer the text, the less a byte counts.
abbrev pub wasted_by : Found → ℕ → ℕ
wasted_by found size = cond found.vain ((size - found.token.end) / (size / 20000 + 1)) 0
