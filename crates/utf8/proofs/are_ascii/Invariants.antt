use Rattle.std.proofs.Common.{◌+◌, ◌<◌}
use Rattle.utf8.specs.Units.{Passes}
use Rattle.utf8.proofs.are_ascii.Given as goal

abbrev pub invariant-loop-b : goal.invariant-loop-b
invariant-loop-b g l = l.all < 0x80 → Passes l.s l.i (l.i + l.b-index)
