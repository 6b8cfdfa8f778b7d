use Rattle.std.proofs.Common.{◌-◌, length}
use Rattle.lexer.specs.Words.{word_with}
use Rattle.lexer.proofs.Runs.{Reaches}
use Rattle.lexer.proofs.tokenizer.read_word.Given as goal

abbrev pub invariant-loop-j : goal.invariant-loop-j
invariant-loop-j l = Reaches (word_with l.dollar) l.text l.at l.j

abbrev pub decreases-loop-j : goal.decreases-loop-j
decreases-loop-j l = length l.text - l.j
