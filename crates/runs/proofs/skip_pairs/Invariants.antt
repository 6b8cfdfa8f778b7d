use Rattle.std.proofs.Common.{◌-◌, length}
use Rattle.runs.specs.Classes.{inside, Unpaired}
use Rattle.runs.proofs.skip_pairs.Given as goal

-- no pair stands before i
abbrev pub invariant-loop-i : goal.invariant-loop-i
invariant-loop-i l = Unpaired (inside l.a.edges) (inside l.b.edges) l.text l.at l.i

abbrev pub decreases-loop-i : goal.decreases-loop-i
decreases-loop-i l = length l.text - l.i
