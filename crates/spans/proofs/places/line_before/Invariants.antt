-- No line ends with a byte from i on, and the surplus from there.
use Rattle.std.proofs.Common.{◌≡◌, ◌+◌, ◌≤◌, length}
use Rattle.spans.specs.Sums.{between, end_at, surplus_at}
use Rattle.spans.proofs.places.line_before.Given as goal

abbrev pub invariant-loop-i : goal.invariant-loop-i
invariant-loop-i l =
    (l.i ≤ l.upto) × (128 ≤ l.i → l.i + 2 ≤ length l.text) × (between (end_at l.text) l.i l.upto ≡ 0) × (l.n ≡ between (surplus_at l.text) l.i l.upto)

abbrev pub decreases-loop-i : goal.decreases-loop-i
decreases-loop-i l = l.i
