-- No line ends with a byte from i on, and the surplus from there.
use Rattle.std.proofs.Common.{◌≡◌, ◌≤◌}
use Rattle.spans.specs.Sums.{between, end_at, surplus_at}
use Rattle.spans.proofs.places.line_by_byte.Given as goal

abbrev pub invariant-loop-i : goal.invariant-loop-i
invariant-loop-i l = (l.fn.from ≤ l.i) × (between (end_at l.text) l.i l.upto ≡ 0) × (l.surplus ≡ between (surplus_at l.text) l.i l.upto)
