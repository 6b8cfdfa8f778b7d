-- By the sum of a row, and by one stride more. Assumes nothing.
use Rattle.std.proofs.Common.{arith}
use Rattle.classes.specs.declared.tables.TheConstants.{STRIDES}
use Rattle.classes.proofs.Strides.{total_stride}
use Rattle.classes.proofs.Rows.{row_sum}
use Rattle.classes.proofs.ranges.pass.Goals as goal

pub loop-k-preserved : goal.loop-k-preserved
loop-k-preserved c =
    let s = rw c.eight.ensures at c.row_sum-sum.ensures in
    record { from = omega arith; to = omega arith; same = omega (arith, row_sum c.loop-k.k, s) }

pub loop-k-2-preserved : goal.loop-k-2-preserved
loop-k-2-preserved c = record { from = omega arith; to = omega arith; same = omega (arith, total_stride STRIDES c.loop-k-2.k) }

pub returns-then-left-stride : goal.returns-then-left-stride
returns-then-left-stride c = record { from = omega arith; to = omega arith; most = omega arith; next = λ l. omega (arith, total_stride STRIDES c.loop-k-2.k) }
