use Rattle.std.proofs.Common.{◌-◌, length}
use Rattle.rules.specs.Classes.{white_space}
use Rattle.lexer.proofs.Runs.{Reaches}
use Rattle.lexer.proofs.tokenizer.read_whitespace.Given as goal

abbrev pub invariant-loop-j : goal.invariant-loop-j
invariant-loop-j l = Reaches white_space l.text l.at l.j

abbrev pub decreases-loop-j : goal.decreases-loop-j
decreases-loop-j l = length l.text - l.j
