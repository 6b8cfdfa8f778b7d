use Rattle.std.proofs.Common.{◌-◌, length}
use Rattle.utf8.specs.Units.{Passes}
use Rattle.utf8.proofs.fours_end.Given as goal

-- the text is well-formed from j to k
abbrev pub invariant-loop-k : goal.invariant-loop-k
invariant-loop-k l = Passes l.s l.j l.k

abbrev pub decreases-loop-k : goal.decreases-loop-k
decreases-loop-k l = length l.s - l.k
