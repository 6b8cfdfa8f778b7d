-- Rule 4: quoted strings and identifiers.
use Rattle.std.specs.Prelude.{ℕ, List, [], ◌∷◌, Bool, true, false, eqb}
use Rattle.rules.specs.Utf8.{Char, width}
use Rattle.rules.specs.Characters.{backslash}
use Rattle.rules.specs.Lexeme.{first, Body, further, closed_by, open_to}

-- 4.1: "a backslash takes the next character with it; a doubled quote goes on; a backslash-taken quote doesn't count towards a pair."
-- What is left of a body with the quote q; `taken`: the character before has taken this one.
unfoldable pub quoted_body : ℕ → Bool → List Char → Body
quoted_body q taken [] = open_to 0
quoted_body q true (c ∷ cs) = further (width c) (quoted_body q false cs)
quoted_body q false (c ∷ cs) =
    elim (eqb c.code backslash) [
      | true ↦ further (width c) (quoted_body q true cs)
      | false ↦ elim (eqb c.code q) [
        | true ↦ elim (eqb (first cs) q) [ true ↦ further (width c) (quoted_body q true cs) | false ↦ closed_by (width c) ]
        | false ↦ further (width c) (quoted_body q false cs)
      ]
    ]

-- 4.2: "U+2018 closes at the first U+2019, U+201C at the first U+201D, with no escapes."
unfoldable pub up_to : ℕ → List Char → Body
up_to q [] = open_to 0
up_to q (c ∷ cs) = elim (eqb c.code q) [ true ↦ closed_by (width c) | false ↦ further (width c) (up_to q cs) ]
