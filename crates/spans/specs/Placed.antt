-- What `place` gives, with the offset that it was asked of.
use Rattle.std.specs.Prelude.{ℕ, Result, Ok, Err}
use Rattle.rules.specs.Answers as rules
use Rattle.rules.specs.Cases.{refusal_number, refusal_value}
use Rattle.rules.specs.declared.refusal.Refusal.{Refusal}
use Rattle.spans.specs.declared.places.Position.{Position}

abbrev pub placed : Result Position Refusal → ℕ → rules.Placed
placed (Ok p) offset = record { number = rules.Done; value = offset; place = record { line = p.line; column = p.column } }
placed (Err refusal) offset = record { number = refusal_number refusal; value = refusal_value refusal; place = record { line = 0; column = 0 } }
