-- Worked cases for document 02's #102: of each of some texts the tokens read, the bytes before the delimiter, and where the delimiter ends.
use Rattle.std.specs.Prelude.{ℕ, ◌≡◌, List, [], ◌∷◌, length}
use Rattle.rules.specs.Characters.{semicolon, backslash, capital_g, small_g, quote, dollar, dash, slash, star}
use Rattle.rules.specs.Tokens.{tokens}
use Rattle.rules.specs.Statements.{Statement, statement, first_in}

pub record StatementCase : Type 0 where
  pub text : List ℕ
  pub statement : Statement

abbrev pub IsFirst : StatementCase → Type 0
IsFirst c = first_in (length c.text) (tokens c.text) ≡ c.statement

abbrev pub AllFirst : List StatementCase → Type 0
AllFirst [] = Unit {0}
AllFirst (c ∷ cs) = IsFirst c × AllFirst cs

abbrev case : List ℕ → ℕ → ℕ → ℕ → StatementCase
case text read bytes end = record { text = text; statement = statement read bytes end }

abbrev a : ℕ
a = 0x61

abbrev space : ℕ
space = 0x20

abbrev pub statement_cases : List StatementCase
statement_cases =
    -- an empty text
    case [] 0 0 0
    -- `a`
    ∷ case (a ∷ []) 1 1 1
    -- `a ;`
    ∷ case (a ∷ space ∷ semicolon ∷ []) 3 2 3
    -- `a;a;`
    ∷ case (a ∷ semicolon ∷ a ∷ semicolon ∷ []) 2 1 2
    -- `;`
    ∷ case (semicolon ∷ []) 1 0 1
    -- `a\Ga`, and with a small letter
    ∷ case (a ∷ backslash ∷ capital_g ∷ a ∷ []) 2 1 3
    ∷ case (a ∷ backslash ∷ small_g ∷ a ∷ []) 2 1 3
    -- `';';` in a string
    ∷ case (quote ∷ semicolon ∷ quote ∷ semicolon ∷ []) 2 3 4
    -- `--;` in a comment, which goes on to the end
    ∷ case (dash ∷ dash ∷ semicolon ∷ []) 1 3 3
    -- `/*;*/;` in one that is closed
    ∷ case (slash ∷ star ∷ semicolon ∷ star ∷ slash ∷ semicolon ∷ []) 2 5 6
    -- `$$;$$;` in a here-document
    ∷ case (dollar ∷ dollar ∷ semicolon ∷ dollar ∷ dollar ∷ semicolon ∷ []) 2 5 6
    -- a cut character, `;`, and a byte that is none
    ∷ case (0xE2 ∷ 0x80 ∷ semicolon ∷ 0xFF ∷ []) 2 2 3
    ∷ []
