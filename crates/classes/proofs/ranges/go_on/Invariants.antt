use Rattle.std.proofs.Common.{◌≤◌, ◌<◌, ◌-◌}
use Rattle.classes.specs.Strides.{bound, count}
use Rattle.classes.proofs.ranges.go_on.Given as goal

-- the checkpoint is at most c
abbrev pub invariant-loop-i : goal.invariant-loop-i
invariant-loop-i l = (l.i < count l.index) × (bound l.index l.i ≤ l.c)

abbrev pub decreases-loop-i : goal.decreases-loop-i
decreases-loop-i l = count l.index - l.i
