-- What is left of the delimiter stands at `at + k` exactly where the whole stands at `at`.
use Rattle.std.proofs.Common.{◌≡◌, ◌+◌, drop}
use Rattle.rules.specs.Utf8.{chars}
use Rattle.rules.specs.Dollars.{begins}
use Rattle.lexer.proofs.tokenizer.matches.Given as goal

abbrev pub invariant-loop-k : goal.invariant-loop-k
invariant-loop-k l = begins (drop l.k l.delimiter) (chars (drop (l.at + l.k) l.text)) ≡ begins l.delimiter (chars (drop l.at l.text))
