use Rattle.std.proofs.Common.{◌-◌, ◌≤◌, length}
use Rattle.utf8.specs.Units.{Passes, after}
use Rattle.utf8.proofs.narrow_end.Given as goal

-- the text is well-formed from j to where the tails at k end
abbrev pub invariant-loop-k : goal.invariant-loop-k
invariant-loop-k g l = (l.k ≤ length l.s) × Passes l.s l.j (after g.row.N l.s l.k)

abbrev pub decreases-loop-k : goal.decreases-loop-k
decreases-loop-k g l = length l.s - l.k
