-- The classes of characters. Unicode's are tables of ranges (Tables.antt); ASCII's are written out.
use Rattle.std.specs.Prelude.{ℕ, List, [], ◌∷◌, Bool, true, false, ◌&&◌, ◌||◌, leb, ltb}
use Rattle.rules.specs.Utf8.{within}
use Rattle.rules.specs.Tables.{white_space_table, alphabetic_table, numeric_table}

-- c is in one of the ranges lo to hi, without hi, that a table holds as lo ∷ hi ∷ ..; a last lo with no hi has all from lo on.
unfoldable pub in_ranges : List ℕ → ℕ → Bool
in_ranges [] c = false
in_ranges (lo ∷ []) c = leb lo c
in_ranges (lo ∷ hi ∷ t) c = (leb lo c && ltb c hi) || in_ranges t c

-- "They rise and never overlap": each number of a table is below the next.
unfoldable pub rises : List ℕ → Bool
rises [] = true
rises (a ∷ []) = true
rises (a ∷ b ∷ t) = ltb a b && rises (b ∷ t)

-- The property White_Space.
unfoldable pub white_space : ℕ → Bool
white_space c = in_ranges white_space_table c

-- The property Alphabetic.
unfoldable pub alphabetic : ℕ → Bool
alphabetic c = in_ranges alphabetic_table c

-- The general categories Nd, Nl and No.
unfoldable pub numeric : ℕ → Bool
numeric c = in_ranges numeric_table c

-- Rule 3: "alphanumeric characters (Alphabetic or general category Nd, Nl, No)".
unfoldable pub alphanumeric : ℕ → Bool
alphanumeric c = alphabetic c || numeric c

-- An ASCII letter.
abbrev pub letter : ℕ → Bool
letter c = within 0x41 0x5A c || within 0x61 0x7A c

-- An ASCII digit.
abbrev pub digit : ℕ → Bool
digit c = within 0x30 0x39 c

-- A hex digit.
abbrev pub hex_digit : ℕ → Bool
hex_digit c = digit c || within 0x41 0x46 c || within 0x61 0x66 c
