-- What there is to answer from i on is what there was from `at` on.
use Rattle.std.proofs.Common.{◌≡◌}
use Rattle.rules.specs.Quotes.{up_to}
use Rattle.lexer.specs.Quotes.{curly_close}
use Rattle.lexer.proofs.Bodies.{reading}
use Rattle.lexer.proofs.tokenizer.read_unicode_quoted.Given as goal

abbrev pub invariant-loop-i : goal.invariant-loop-i
invariant-loop-i l = reading (up_to (curly_close l.last)) l.text l.success_type l.error_type l.i ≡ reading (up_to (curly_close l.last)) l.text l.success_type l.error_type l.at
