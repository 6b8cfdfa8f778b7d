-- The line ends so far.
use Rattle.std.proofs.Common.{◌≡◌, ◌*◌, ◌≤◌}
use Rattle.spans.specs.Sums.{between, end_at}
use Rattle.spans.proofs.places.line_ends.Given as goal

abbrev pub invariant-loop-k : goal.invariant-loop-k
invariant-loop-k l = l.n ≡ between (end_at l.text) 0 (128 * l.k)

abbrev pub invariant-loop-i : goal.invariant-loop-i
invariant-loop-i l = (l.i ≤ l.upto) × (l.n ≡ between (end_at l.text) 0 l.i)
