use Rattle.std.proofs.Common.{◌≡◌, ◌-◌, length}
use Rattle.lexer.proofs.HereDocs.{searched}
use Rattle.lexer.proofs.tokenizer.find_delimiter.Given as goal

-- the search from i on ends where the search from `at` on does
abbrev pub invariant-loop-i : goal.invariant-loop-i
invariant-loop-i l = searched l.delimiter l.text l.i ≡ searched l.delimiter l.text l.at

abbrev pub decreases-loop-i : goal.decreases-loop-i
decreases-loop-i l = length l.text - l.i
