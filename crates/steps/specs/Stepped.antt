-- What a step gives, from the cursor that it was asked of.
use Rattle.std.specs.Prelude.{ℕ, Result, Ok, Err}
use Rattle.rules.specs.Kinds.{NoToken}
use Rattle.rules.specs.Tokens.{token}
use Rattle.rules.specs.Answers.{Stepped, Done}
use Rattle.rules.specs.Cases.{refusal_number, refusal_value}
use Rattle.rules.specs.declared.refusal.Refusal.{Refusal}
use Rattle.lexer.specs.declared.token.Token.{Token}

abbrev pub stepped : Result Token Refusal → ℕ → Stepped
stepped (Ok t) cursor = record { number = Done; value = t.end; token = token t.kind t.start t.end; cursor = t.end }
stepped (Err refusal) cursor = record { number = refusal_number refusal; value = refusal_value refusal; token = token NoToken 0 0; cursor = cursor }
