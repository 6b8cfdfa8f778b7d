-- From j on, with `deeper` more open, the comment is the one that is asked for.
use Rattle.std.proofs.Common.{◌≡◌, ◌-◌, ◌≤◌, length}
use Rattle.lexer.proofs.Comments.{comment_at}
use Rattle.lexer.proofs.tokenizer.read_multi_line_comment.Given as goal

abbrev pub invariant-loop-j : goal.invariant-loop-j
invariant-loop-j l = (comment_at l.text l.j l.deeper ≡ comment_at l.text l.at 0) × (l.deeper ≤ l.j) × (l.j ≤ length l.text)

abbrev pub decreases-loop-j : goal.decreases-loop-j
decreases-loop-j l = length l.text - l.j
