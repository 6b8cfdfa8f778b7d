-- The marks so far, no more than one a byte.
use Rattle.std.proofs.Common.{◌≡◌, ◌+◌, ◌≤◌}
use Rattle.spans.specs.Sums.{between, mark_at}
use Rattle.spans.proofs.places.count.Given as goal

abbrev pub invariant-loop-k : goal.invariant-loop-k
invariant-loop-k l = (l.n ≤ l.k) × (l.n ≡ between (mark_at l.mark l.text) l.from (l.from + l.k))
