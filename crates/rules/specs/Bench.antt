-- Document 01's bench sheet: the cases marked P, in one table.
use Rattle.std.specs.Prelude.{ℕ, ◌≡◌, List, [], ◌∷◌}
use Rattle.rules.specs.Kinds.{Number, BareWord, StringToken, HereDoc, Dot, DollarSign, Equals, Spaceship, ErrorMultilineCommentIsNotClosed, ErrorWrongNumber}
use Rattle.rules.specs.Tokens.{Token, token, tokens}
use Rattle.rules.specs.Masking.{masked}

-- A case: a text and its full list, or a text and its masked copy.
pub data Case : Type 0 where
  lists : List ℕ → List Token → Case
  masks : List ℕ → List ℕ → Case

abbrev pub Holds : Case → Type 0
Holds (lists text list) = tokens text ≡ list
Holds (masks text copy) = masked text ≡ copy

abbrev pub AllHold : List Case → Type 0
AllHold [] = Unit {0}
AllHold (c ∷ cs) = Holds c × AllHold cs

abbrev pub cases : List Case
cases =
    -- empty text: no token
    lists [] []
    -- `1e`
    ∷ lists (0x31 ∷ 0x65 ∷ []) (token ErrorWrongNumber 0 2 ∷ [])
    -- `1name`
    ∷ lists (0x31 ∷ 0x6E ∷ 0x61 ∷ 0x6D ∷ 0x65 ∷ []) (token BareWord 0 5 ∷ [])
    -- `x.1.1`
    ∷ lists (0x78 ∷ 0x2E ∷ 0x31 ∷ 0x2E ∷ 0x31 ∷ []) (token BareWord 0 1 ∷ token Dot 1 2 ∷ token Number 2 3 ∷ token Dot 3 4 ∷ token Number 4 5 ∷ [])
    -- `=>`
    ∷ lists (0x3D ∷ 0x3E ∷ []) (token Equals 0 2 ∷ [])
    -- `=><`
    ∷ lists (0x3D ∷ 0x3E ∷ 0x3C ∷ []) (token Spaceship 0 3 ∷ [])
    -- `0x1.8p3`
    ∷ lists (0x30 ∷ 0x78 ∷ 0x31 ∷ 0x2E ∷ 0x38 ∷ 0x70 ∷ 0x33 ∷ []) (token Number 0 7 ∷ [])
    -- `1.5a`
    ∷ lists (0x31 ∷ 0x2E ∷ 0x35 ∷ 0x61 ∷ []) (token ErrorWrongNumber 0 4 ∷ [])
    -- `'a''b'`
    ∷ lists (0x27 ∷ 0x61 ∷ 0x27 ∷ 0x27 ∷ 0x62 ∷ 0x27 ∷ []) (token StringToken 0 6 ∷ [])
    -- `$$$`
    ∷ lists (0x24 ∷ 0x24 ∷ 0x24 ∷ []) (token DollarSign 0 1 ∷ token DollarSign 1 2 ∷ token DollarSign 2 3 ∷ [])
    -- `$a$b$a$`
    ∷ lists (0x24 ∷ 0x61 ∷ 0x24 ∷ 0x62 ∷ 0x24 ∷ 0x61 ∷ 0x24 ∷ []) (token HereDoc 0 7 ∷ [])
    -- `/*/**/`
    ∷ lists (0x2F ∷ 0x2A ∷ 0x2F ∷ 0x2A ∷ 0x2A ∷ 0x2F ∷ []) (token ErrorMultilineCommentIsNotClosed 0 6 ∷ [])
    -- masked `$xxx$ a $$abc$$` is `$xxx$ a $$###$$`
    ∷ masks (0x24 ∷ 0x78 ∷ 0x78 ∷ 0x78 ∷ 0x24 ∷ 0x20 ∷ 0x61 ∷ 0x20 ∷ 0x24 ∷ 0x24 ∷ 0x61 ∷ 0x62 ∷ 0x63 ∷ 0x24 ∷ 0x24 ∷ [])
    (0x24 ∷ 0x78 ∷ 0x78 ∷ 0x78 ∷ 0x24 ∷ 0x20 ∷ 0x61 ∷ 0x20 ∷ 0x24 ∷ 0x24 ∷ 0x23 ∷ 0x23 ∷ 0x23 ∷ 0x24 ∷ 0x24 ∷ [])
    ∷ []
