use Rattle.std.proofs.Common.{◌-◌, length}
use Rattle.utf8.specs.Units.{Passes}
use Rattle.utf8.proofs.ascii_end.Given as goal

-- each loop: the text is well-formed from j to k
abbrev pub invariant-loop-k : goal.invariant-loop-k
invariant-loop-k l = Passes l.s l.j l.k

abbrev pub decreases-loop-k : goal.decreases-loop-k
decreases-loop-k l = length l.s - l.k

abbrev pub invariant-loop-k-2 : goal.invariant-loop-k-2
invariant-loop-k-2 l = Passes l.s l.j l.k

abbrev pub decreases-loop-k-2 : goal.decreases-loop-k-2
decreases-loop-k-2 l = length l.s - l.k
