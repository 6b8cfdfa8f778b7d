-- What a list that is read answers, with what the lent buffer holds then.
use Rattle.std.specs.Prelude.{List, ℕ, Result, Ok, Err}
use Rattle.rules.specs.Answers.{Done}
use Rattle.rules.specs.Cases.{refusal_number, refusal_value}
use Rattle.rules.specs.Saved as rules
use Rattle.rules.specs.declared.refusal.Refusal.{Refusal}
use Rattle.saved.specs.declared.loader.Loaded.{Loaded}

abbrev pub loaded : Result Loaded Refusal → List ℕ → rules.Loaded
loaded (Ok l) buffer = record { number = Done; value = l.tokens; flag = l.flag; buffer = buffer }
loaded (Err refusal) buffer = record { number = refusal_number refusal; value = refusal_value refusal; flag = 0; buffer = buffer }
