-- What is left of the run from j on, after `after`.
use Rattle.std.proofs.Common.{◌≡◌, ◌+◌, false, drop}
use Rattle.rules.specs.Utf8.{chars}
use Rattle.rules.specs.Numbers.{digits, radix_digit}
use Rattle.lexer.proofs.tokenizer.read_digits.Given as goal

abbrev pub invariant-loop-j : goal.invariant-loop-j
invariant-loop-j l = l.j + digits (radix_digit l.hex) l.after (chars (drop l.j l.text)) ≡ l.at + digits (radix_digit l.hex) false (chars (drop l.at l.text))
