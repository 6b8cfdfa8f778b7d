-- The worked cases of document 02's #103, and of #105 for places, in one table: offset, line and column, of each of some texts.
use Rattle.std.specs.Prelude.{ℕ, ◌≡◌, List, [], ◌∷◌}
use Rattle.rules.specs.Characters.{line_feed, carriage_return}
use Rattle.rules.specs.Places.{place_of}

-- A text, an offset, and its line and column.
pub record PlaceCase : Type 0 where
  pub text : List ℕ
  pub offset : ℕ
  pub line : ℕ
  pub column : ℕ

abbrev pub case : List ℕ → ℕ → ℕ → ℕ → PlaceCase
case text offset line column = record { text = text; offset = offset; line = line; column = column }

abbrev pub Lies : PlaceCase → Type 0
Lies c = place_of c.text c.offset ≡ record { line = c.line; column = c.column }

abbrev pub AllLie : List PlaceCase → Type 0
AllLie [] = Unit {0}
AllLie (c ∷ cs) = Lies c × AllLie cs

-- `a CR LF b`
abbrev two_lines : List ℕ
two_lines = 0x61 ∷ carriage_return ∷ line_feed ∷ 0x62 ∷ []

-- `CR CR LF LF`
abbrev four_ends : List ℕ
four_ends = carriage_return ∷ carriage_return ∷ line_feed ∷ line_feed ∷ []

-- `é`
abbrev two_bytes : List ℕ
two_bytes = 0xC3 ∷ 0xA9 ∷ []

-- `a𐐀b`, the protocol's own example
abbrev astral : List ℕ
astral = 0x61 ∷ 0xF0 ∷ 0x90 ∷ 0x90 ∷ 0x80 ∷ 0x62 ∷ []

abbrev broken : List ℕ
broken = 0x80 ∷ 0x80 ∷ []

-- A cut character and a letter
abbrev cut : List ℕ
cut = 0xE2 ∷ 0x80 ∷ 0x61 ∷ []

abbrev pub place_cases : List PlaceCase
place_cases =
    case two_lines 0 0 0
    ∷ case two_lines 1 0 1
    ∷ case two_lines 2 0 2
    ∷ case two_lines 3 1 0
    ∷ case two_lines 4 1 1
    ∷ case four_ends 1 1 0
    ∷ case four_ends 2 1 1
    ∷ case four_ends 3 2 0
    ∷ case four_ends 4 3 0
    ∷ case two_bytes 1 0 0
    ∷ case two_bytes 2 0 1
    ∷ case astral 1 0 1
    ∷ case astral 2 0 1
    ∷ case astral 3 0 1
    ∷ case astral 4 0 1
    ∷ case astral 5 0 3
    ∷ case astral 6 0 4
    ∷ case broken 1 0 1
    ∷ case broken 2 0 2
    -- A CR that ends the text
    ∷ case (carriage_return ∷ []) 1 1 0
    -- #105: "the unit is one character of one column"
    ∷ case cut 1 0 0
    ∷ case cut 2 0 1
    ∷ case cut 3 0 2
    ∷ []
