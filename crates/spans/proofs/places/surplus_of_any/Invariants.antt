-- The sum so far.
use Rattle.std.proofs.Common.{◌≡◌, ◌+◌}
use Rattle.spans.specs.Sums.{between, surplus_at}
use Rattle.spans.proofs.places.surplus_of_any.Given as goal

abbrev pub invariant-loop-k : goal.invariant-loop-k
invariant-loop-k l = l.n ≡ between (surplus_at l.text) l.from (l.from + l.k)
