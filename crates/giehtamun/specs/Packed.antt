-- Answers as one number of 64 bits.
use Rattle.std.specs.Prelude.{ℕ, ◌+◌, ◌*◌, ◌^◌, ◌≡◌, List}
use Rattle.rules.specs.Answers.{Written, Stepped, Part, Placed}
use Rattle.rules.specs.Statements.{First}
use Rattle.rules.specs.Saved.{Loaded}

-- The number in bits 56 to 63, a small extra number in bits 48 to 55, the value in bits 0 to 47.
abbrev pub packed : ℕ → ℕ → ℕ → ℕ
packed number extra value = number * 2 ^ 56 + extra * 2 ^ 48 + value

-- The answer of a call that writes, and what the lent buffer holds afterwards.
abbrev pub packed_written : ℕ → List ℕ → Written → Type 0
packed_written answer buffer w = (answer ≡ packed w.number 0 w.value) × (buffer ≡ w.buffer)

-- A step's answer: the kind beside it, and its value is the token's end, the next cursor.
abbrev pub packed_step : Stepped → ℕ
packed_step s = packed s.number s.token.kind s.value

-- A part's answer.
abbrev pub packed_part : Part → ℕ
packed_part p = packed p.number 0 p.value

-- The number in bits 56 to 63, and two more in place of a value: the first in bits 28 to 55, the second in bits 0 to 27.
abbrev pub packed_halves : ℕ → ℕ → ℕ → ℕ
packed_halves number first second = number * 2 ^ 56 + first * 2 ^ 28 + second

-- A place's answer: line and column. Its value is the offset, which the caller has.
abbrev pub packed_place : Placed → ℕ
packed_place p = packed_halves p.number p.place.line p.place.column

-- A first statement's answer: the tokens read and the end.
abbrev pub packed_first : First → ℕ
packed_first f = packed_halves f.number f.statement.tokens f.statement.end

-- And that of its text, as a part's: the bytes that stand before its delimiter.
abbrev pub packed_text : First → ℕ
packed_text f = packed f.number 0 f.statement.bytes

-- The answer of a saved list that is read: the flag beside it, and what the lent buffer holds afterwards.
abbrev pub packed_loaded : ℕ → List ℕ → Loaded → Type 0
packed_loaded answer buffer l = (answer ≡ packed l.number l.flag l.value) × (buffer ≡ l.buffer)
