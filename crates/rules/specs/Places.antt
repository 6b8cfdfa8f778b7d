-- Document 02, #103, in the place of document 01's sentence in "Hidden bytes and places": the place of a byte offset, as the Language Server
-- Protocol 3.17 counts it. It is read over the text's characters, from its start.
use Rattle.std.specs.Prelude.{ℕ, ◌+◌, ◌-◌, List, [], ◌∷◌, Bool, true, false, not, cond, ◌&&◌, ◌||◌, leb, eqb}
use Rattle.rules.specs.Characters.{line_feed, carriage_return}
use Rattle.rules.specs.Utf8.{within, Char, width, chars}
use Rattle.rules.specs.Lexeme.{first}

-- A place; a refused one is line 0, column 0.
pub record Place : Type 0 where
  pub line : ℕ
  pub column : ℕ

-- "columns are UTF-16 code units (two for a character above U+FFFF, otherwise one)"; "A byte that begins no character counts as one unit.", and
-- so does what #105 reads as one character there.
abbrev pub units : Char → ℕ
units c = cond (within 0x10000 0x10FFFF c.code) 2 1

-- "a line ends at LF, at CR LF taken together, or at CR alone": whether a line ends with a character, by its code and that of the next.
-- CR LF ends with its LF, so an offset between the two "belongs to the line they end, after the CR".
abbrev pub ends_line : ℕ → ℕ → Bool
ends_line code next = eqb code line_feed || (eqb code carriage_return && not (eqb next line_feed))

-- A character as it is counted.
pub record Counted : Type 0 where
  pub units : ℕ
  pub ends : Bool

-- The characters that lie wholly before an offset. "An offset inside a character has the place of that character": it is none of them.
unfoldable pub before : ℕ → List Char → List Counted
before offset [] = []
before offset (c ∷ cs) =
    elim (leb (width c) offset) [
      | true ↦ record { units = units c; ends = ends_line c.code (first cs) } ∷ before (offset - width c) cs
      | false ↦ []
    ]

-- How many line ends there are.
unfoldable pub line_ends : List Counted → ℕ
line_ends [] = 0
line_ends (c ∷ cs) = cond c.ends 1 0 + line_ends cs

-- The characters after the last line end; all of them where there is none.
unfoldable pub last_line : List Counted → List Counted
last_line [] = []
last_line (c ∷ cs) = elim (eqb (line_ends (c ∷ cs)) 0) [ true ↦ c ∷ cs | false ↦ last_line cs ]

unfoldable pub units_of : List Counted → ℕ
units_of [] = 0
units_of (c ∷ cs) = c.units + units_of cs

-- The line is the number of line ends among them, the column the units of those after the last.
abbrev pub place_in : List Counted → Place
place_in cs = record { line = line_ends cs; column = units_of (last_line cs) }

-- The place of an offset, which may be anywhere.
unfoldable pub place_of : List ℕ → ℕ → Place
place_of s offset = place_in (before offset (chars s))
