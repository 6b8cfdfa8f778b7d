-- The number of ones is computed. Assumes nothing.
use Rattle.std.proofs.Common.{arith, refl}
use Rattle.runs.specs.Lanes.{ones}
use Rattle.runs.proofs.raised.Goals as goal

pub overflow_add-result : goal.overflow_add-result
unfolding ones
overflow_add-result c = omega (arith, c.requires)

pub returns : goal.returns
unfolding ones
returns c = refl
