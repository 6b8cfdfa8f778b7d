-- The worked cases of document 02's #105: the Unicode Standard's tables 3-8 to 3-11 (section 3.9) and one more, each cut into its characters; and
-- the request's own, a cut character that is one token.
use Rattle.std.specs.Prelude.{ℕ, ◌≡◌, List, [], ◌∷◌, map, cond, eqb}
use Rattle.rules.specs.Utf8.{Char, width, no_code, chars}
use Rattle.rules.specs.Kinds.{ErrorToken}
use Rattle.rules.specs.Tokens.{token, tokens}

-- A whole character by its code, and a broken one by its bytes.
pub data Piece : Type 0 where
  whole broken : ℕ → Piece

abbrev pub piece_of : Char → Piece
piece_of c = cond (eqb c.code no_code) (broken (width c)) (whole c.code)

pub record UnitCase : Type 0 where
  pub text : List ℕ
  pub pieces : List Piece

abbrev pub IsCut : UnitCase → Type 0
IsCut c = map piece_of (chars c.text) ≡ c.pieces

abbrev pub AllCut : List UnitCase → Type 0
AllCut [] = Unit {0}
AllCut (c ∷ cs) = IsCut c × AllCut cs

abbrev case : List ℕ → List Piece → UnitCase
case text pieces = record { text = text; pieces = pieces }

abbrev A : Piece
A = whole 0x41

abbrev B : Piece
B = whole 0x42

abbrev byte : Piece
byte = broken 1

abbrev pub unit_cases : List UnitCase
unit_cases =
    -- Table 3-8: overlong forms
    case (0xC0 ∷ 0xAF ∷ 0xE0 ∷ 0x80 ∷ 0xBF ∷ 0xF0 ∷ 0x81 ∷ 0x82 ∷ 0x41 ∷ []) (byte ∷ byte ∷ byte ∷ byte ∷ byte ∷ byte ∷ byte ∷ byte ∷ A ∷ [])
    -- Table 3-9: surrogates
    ∷ case (0xED ∷ 0xA0 ∷ 0x80 ∷ 0xED ∷ 0xBF ∷ 0xBF ∷ 0xED ∷ 0xAF ∷ 0x41 ∷ []) (byte ∷ byte ∷ byte ∷ byte ∷ byte ∷ byte ∷ byte ∷ byte ∷ A ∷ [])
    -- Table 3-10: others
    ∷ case (0xF4 ∷ 0x91 ∷ 0x92 ∷ 0x93 ∷ 0xFF ∷ 0x41 ∷ 0x80 ∷ 0xBF ∷ 0x42 ∷ []) (byte ∷ byte ∷ byte ∷ byte ∷ byte ∷ A ∷ byte ∷ byte ∷ B ∷ [])
    -- Table 3-11: cut characters
    ∷ case (0xE1 ∷ 0x80 ∷ 0xE2 ∷ 0xF0 ∷ 0x91 ∷ 0x92 ∷ 0xF1 ∷ 0xBF ∷ 0x41 ∷ []) (broken 2 ∷ byte ∷ broken 3 ∷ broken 2 ∷ A ∷ [])
    ∷ case (0x61 ∷ 0xF1 ∷ 0x80 ∷ 0x80 ∷ 0xE1 ∷ 0x80 ∷ 0xC2 ∷ 0x62 ∷ 0x80 ∷ 0x63 ∷ 0x80 ∷ 0xBF ∷ 0x64 ∷ [])
    (whole 0x61 ∷ broken 3 ∷ broken 2 ∷ byte ∷ whole 0x62 ∷ byte ∷ whole 0x63 ∷ byte ∷ byte ∷ whole 0x64 ∷ [])
    ∷ []

-- "A cut character, say E2 80": one token, where steps gave two.
abbrev pub OneToken : Type 0
OneToken = tokens (0xE2 ∷ 0x80 ∷ []) ≡ token ErrorToken 0 2 ∷ []
