use Rattle.std.proofs.Common.{◌-◌, length}
use Rattle.utf8.specs.Units.{Passes}
use Rattle.utf8.proofs.valid_length.Given as goal

-- the text is well-formed up to j
abbrev pub invariant-loop-j : goal.invariant-loop-j
invariant-loop-j l = Passes l.s 0 l.j

abbrev pub decreases-loop-j : goal.decreases-loop-j
decreases-loop-j l = length l.s - l.j
