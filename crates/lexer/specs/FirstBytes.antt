-- What the first byte of a token tells of its kind.
use Rattle.std.specs.Prelude.{ℕ, ◌+◌, ◌<◌, ◌≡◌, List, [], ◌∷◌, Bool, false, cond, ◌||◌, ltb, eqb}
use Rattle.rules.specs.Utf8.{within}
use Rattle.rules.specs.Classes.{white_space, digit}
use Rattle.rules.specs.Characters.{exclamation, double_quote, dollar, quote, dash, slash, colon, less, equals, greater, at, backslash, back_quote, bar}
use Rattle.rules.specs.Kinds.{NoToken, Whitespace, Number, BareWord}
use Rattle.rules.specs.Operators.{single}
use Rattle.rules.specs.Words.{word_character}
use Rattle.rules.specs.Dollars.{tag_byte}

abbrev pub among : List ℕ → ℕ → Bool
among [] a = false
among (k ∷ ks) a = eqb a k || among ks a

-- Where a body follows, whose kind is told by how it ends.
abbrev pub bodies : List ℕ
bodies = quote ∷ double_quote ∷ back_quote ∷ dollar ∷ []

-- Where two characters may be one operator.
abbrev pub pairs : List ℕ
pairs = dash ∷ colon ∷ bar ∷ at ∷ exclamation ∷ equals ∷ less ∷ greater ∷ backslash ∷ []

-- Where a longer operator, or a comment, may start.
abbrev pub longer : List ℕ
longer = slash ∷ pairs

-- The kind; past 80, that of the byte by itself, where there may be more to it; none where the byte does not tell it.
unfoldable pub first_byte_kind : ℕ → ℕ
first_byte_kind a =
    cond (ltb a 0x80)
    (cond (eqb a 0x20 || within 0x09 0x0D a) Whitespace
    (cond (digit a) Number
    (cond (tag_byte a) BareWord
    (cond (among bodies a) NoToken
    (cond (among longer a) (0x80 + single a)
    (single a))))))
    NoToken

-- A byte at which rule 2 starts a token, unless two bytes start a comment.
pub record Operates (a : ℕ) : Type 0 where
  pub ascii : a < 0x80
  pub space : white_space a ≡ false
  pub word : word_character a ≡ false
  pub body : among bodies a ≡ false
