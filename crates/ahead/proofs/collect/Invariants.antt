use Rattle.std.proofs.Common.{◌-◌, ◌≤◌, length}
use Rattle.ahead.proofs.collect.Given as goal

abbrev pub invariant-loop-j : goal.invariant-loop-j
invariant-loop-j l = (l.from ≤ l.j) × (l.j ≤ length l.text)

abbrev pub decreases-loop-j : goal.decreases-loop-j
decreases-loop-j l = length l.text - l.j
