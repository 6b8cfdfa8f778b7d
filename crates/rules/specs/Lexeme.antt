-- What the lexical rules are made of: the next character, runs of a class, bodies that are closed or not.
use Rattle.std.specs.Prelude.{ℕ, ◌+◌, List, [], ◌∷◌, Bool, true, false, cond, ◌&&◌, eqb}
use Rattle.rules.specs.Utf8.{Char, width, no_code}

-- The code of the first character; past the end, the code of none.
abbrev pub first : List Char → ℕ
first [] = no_code
first (c ∷ cs) = c.code

-- The two codes a and b are c and d.
abbrev pub two : ℕ → ℕ → ℕ → ℕ → Bool
two a b c d = eqb a c && eqb b d

-- A lexeme: its kind and its bytes.
pub record Lexeme : Type 0 where
  pub kind : ℕ
  pub size : ℕ

abbrev pub is : ℕ → ℕ → Lexeme
is k n = record { kind = k; size = n }

-- The bytes of the longest run of characters of a class.
unfoldable pub run : (ℕ → Bool) → List Char → ℕ
run p [] = 0
run p (c ∷ cs) = elim (p c.code) [ true ↦ width c + run p cs | false ↦ 0 ]

-- The body of a delimited lexeme, with its closing delimiter: its bytes, and whether it was closed.
pub record Body : Type 0 where
  pub closed : Bool
  pub bytes : ℕ

abbrev pub further : ℕ → Body → Body
further n b = record { closed = b.closed; bytes = n + b.bytes }

abbrev pub closed_by : ℕ → Body
closed_by n = record { closed = true; bytes = n }

abbrev pub open_to : ℕ → Body
open_to n = record { closed = false; bytes = n }

-- A lexeme of an opening of n bytes and a body: of one kind where it was closed, else of an error kind.
abbrev pub enclosed : ℕ → Body → ℕ → ℕ → Lexeme
enclosed n b kind error = is (cond b.closed kind error) (n + b.bytes)
