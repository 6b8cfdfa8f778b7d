-- Where a run of a word's bytes or of white space ends, of bytes of ASCII.
use Rattle.std.specs.Prelude.{ℕ, ◌-◌, List, [], ◌∷◌, Bool, not, ◌&&◌, ◌||◌, get_or, ltb}
use Rattle.runs.specs.Classes.{inside}

-- A word's bytes: digits, capitals, `_` and small letters.
abbrev pub word_edges : List ℕ
word_edges = 0x30 ∷ 0x3A ∷ 0x41 ∷ 0x5B ∷ 0x5F ∷ 0x60 ∷ 0x61 ∷ 0x7B ∷ []

-- Digits, and white space.
abbrev pub figure_edges : List ℕ
figure_edges = 0x09 ∷ 0x0E ∷ 0x20 ∷ 0x21 ∷ 0x30 ∷ 0x3A ∷ 0 ∷ 0 ∷ []

-- The byte at an offset is not of a class.
abbrev pub outside : List ℕ → List ℕ → ℕ → Bool
outside es s q = not (inside es (get_or s q 0))

-- By whether a byte is no word's (x) and neither digit nor white space (y), and the same of the byte before (a, b): it does not go on what
-- the byte before is. A letter does not go on a digit.
abbrev pub cuts : Bool → Bool → Bool → Bool → Bool
cuts x y a b = ((x || a) || (y && not b)) && (not (x && a) || (y || b))

abbrev pub edge : List ℕ → ℕ → Bool
edge s q = cuts (outside word_edges s q) (outside figure_edges s q) (outside word_edges s (q - 1)) (outside figure_edges s (q - 1))

-- An edge after an offset.
abbrev pub edge_after : List ℕ → ℕ → ℕ → Bool
edge_after s at q = ltb at q && edge s q
