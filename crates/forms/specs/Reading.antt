-- Reading with a reader.
use Rattle.std.specs.Prelude.{ℕ, zero, suc, List, [], ◌∷◌, Bool, true, false, length, leb}
use Rattle.rules.specs.Tokens.{Token}
use Rattle.rules.specs.Answers.{step}

abbrev pub at_end : List ℕ → ℕ → Bool
at_end text at = leb (length text) at

-- What is read from an offset on, in so many turns at most: as long as the reader is not at its end, the token that `next` gives, and then from its cursor on.
unfoldable pub read_from : ℕ → List ℕ → ℕ → List Token
read_from zero text at = []
read_from (suc turns) text at = elim (at_end text at) [ true ↦ [] | false ↦ (step text at).token ∷ read_from turns text (step text at).cursor ]
