use Rattle.std.proofs.Common.{◌-◌, length}
use Rattle.lexer.specs.Words.{word_with}
use Rattle.lexer.proofs.Runs.{Reaches}
use Rattle.lexer.proofs.tokenizer.read_word_by_table.Given as goal

abbrev pub invariant-loop-at : goal.invariant-loop-at
invariant-loop-at l = Reaches (word_with l.dollar) l.text l.at l.j

abbrev pub decreases-loop-at : goal.decreases-loop-at
decreases-loop-at l = length l.text - l.j
