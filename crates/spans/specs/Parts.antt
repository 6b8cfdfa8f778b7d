-- What both kinds of part refuse, in the code's own Result.
use Rattle.std.specs.Prelude.{ℕ, List, cond, Result, Ok, Err}
use Rattle.rules.specs.Answers.{too_long, no_part}
use Rattle.rules.specs.declared.refusal.Refusal.{Refusal}
use Rattle.rules.specs.declared.refusal.Refusal.TheVariants.{TooLong, NoPart}

abbrev pub checked_part : List ℕ → ℕ → ℕ → Result Unit Refusal
checked_part text start end = cond (too_long text) (Err (TooLong 0)) (cond (no_part text start end) (Err NoPart) (Ok tt))
