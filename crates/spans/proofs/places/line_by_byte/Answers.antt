-- No byte adds more than two.
use Rattle.std.proofs.Common.{◌-◌, arith}
use Rattle.spans.specs.Sums.{surplus_at}
use Rattle.spans.proofs.Sums.{sum_before}
use Rattle.spans.proofs.Blocks.{block_most}
use Rattle.spans.proofs.places.line_by_byte.Goals as goal

pub overflow_add-surplus : goal.overflow_add-surplus
overflow_add-surplus c =
    let s = c.args.text.now in
    omega (
      arith,
      c.surplus_at-surplus.ensures,
      sum_before (surplus_at s) c.loop-i.i c.args.upto (omega arith) (omega arith),
      block_most s (c.loop-i.i - 1) c.args.upto (omega arith) (omega arith),
    )
