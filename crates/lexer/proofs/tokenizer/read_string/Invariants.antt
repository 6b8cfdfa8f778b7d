-- What there is to answer from i on is what there was from `at` on.
use Rattle.std.proofs.Common.{◌≡◌, ◌-◌, false, length}
use Rattle.rules.specs.Quotes.{quoted_body}
use Rattle.lexer.proofs.Bodies.{reading}
use Rattle.lexer.proofs.tokenizer.read_string.Given as goal

abbrev pub invariant-loop-i : goal.invariant-loop-i
invariant-loop-i l = reading (quoted_body l.quote false) l.text l.success_type l.error_type l.i ≡ reading (quoted_body l.quote false) l.text l.success_type l.error_type l.at

abbrev pub decreases-loop-i : goal.decreases-loop-i
decreases-loop-i l = length l.text - l.i
