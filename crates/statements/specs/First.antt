-- What `first_statement` gives.
use Rattle.std.specs.Prelude.{Result, Ok, Err}
use Rattle.rules.specs.Answers.{Done}
use Rattle.rules.specs.Statements as rules
use Rattle.rules.specs.Cases.{refusal_number, refusal_value}
use Rattle.rules.specs.declared.refusal.Refusal.{Refusal}
use Rattle.statements.specs.declared.First.{First}

-- A refusal's value stands in place of the bytes before the delimiter.
abbrev pub first : Result First Refusal → rules.First
first (Ok f) = record { number = Done; statement = rules.statement f.tokens f.bytes f.end }
first (Err refusal) = record { number = refusal_number refusal; statement = rules.statement 0 (refusal_value refusal) 0 }
