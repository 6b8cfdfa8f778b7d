-- Rule 5: here-documents and lone dollars.
use Rattle.std.specs.Prelude.{ℕ, suc, ◌+◌, ◌*◌, List, [], ◌∷◌, ◌++◌, Bool, true, false, ◌&&◌, ◌||◌, length, drop, eqb}
use Rattle.std.proofs.Math.Option.{Option, some, none}
use Rattle.rules.specs.Utf8.{Char, width}
use Rattle.rules.specs.Classes.{digit, letter}
use Rattle.rules.specs.Characters.{dollar, underscore}
use Rattle.rules.specs.Kinds.{HereDoc, DollarSign}
use Rattle.rules.specs.Lexeme.{Lexeme, is}

-- 5.2: "only ASCII letters, digits and `_`".
abbrev pub tag_byte : ℕ → Bool
tag_byte c = letter c || digit c || eqb c underscore

-- 5.1: "take the text up to the next `$`": the tag, where it is "empty or only ASCII letters, digits and `_`".
unfoldable pub tag_of : List Char → Option (List ℕ)
tag_of [] = none
tag_of (c ∷ cs) =
    elim (eqb c.code dollar) [
      | true ↦ some []
      | false ↦ elim (tag_byte c.code) [ false ↦ none | true ↦ elim (tag_of cs) [ none ↦ none | some t ↦ some (c.code ∷ t) ] ]
    ]

-- A text begins with the codes d.
unfoldable pub begins : List ℕ → List Char → Bool
begins [] cs = true
begins (d ∷ ds) [] = false
begins (d ∷ ds) (c ∷ cs) = eqb c.code d && begins ds cs

-- How many bytes stand before the first d.
unfoldable pub find : List ℕ → List Char → Option ℕ
find d [] = none
find d (c ∷ cs) = elim (begins d (c ∷ cs)) [ true ↦ some 0 | false ↦ elim (find d cs) [ none ↦ none | some n ↦ some (width c + n) ] ]

-- 5.2: "the whole `$tag$`".
abbrev pub delimiter : List ℕ → List ℕ
delimiter tag = dollar ∷ (tag ++ (dollar ∷ []))

-- 5.2: "and the whole `$tag$` occurs again after it, .. through the first such occurrence": the bytes of the here-document; the text goes on with cs after its first `$`.
unfoldable pub here_doc : List Char → Option ℕ
here_doc cs =
    elim (tag_of cs) [
      | none ↦ none
      | some tag ↦ elim (find (delimiter tag) (drop (suc (length tag)) cs)) [
        | none ↦ none
        | some n ↦ some (n + 2 * length (delimiter tag))
      ]
    ]

-- 5.3: "Otherwise DollarSign, one byte."
abbrev pub dollar_lexeme : Option ℕ → Lexeme
dollar_lexeme none = is DollarSign 1
dollar_lexeme (some n) = is HereDoc n
