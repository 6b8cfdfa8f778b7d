use Rattle.std.proofs.Common.{◌≡◌, ◌-◌, ◌*◌, cond, length}
use Rattle.runs.specs.Lanes.{ones}
use Rattle.runs.proofs.Firsts.{Over}
use Rattle.runs.proofs.skip.Given as goal

-- the bytes up to j pass, and what is flipped
abbrev pub invariant-loop-j : goal.invariant-loop-j
invariant-loop-j l = Over l.out l.class.edges l.text l.at l.j × (l.flip ≡ cond l.out (0x80 * ones 8) 0)

abbrev pub decreases-loop-j : goal.decreases-loop-j
decreases-loop-j l = length l.text - l.j
