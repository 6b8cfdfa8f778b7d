-- After a byte that adds comes one that does not, so a byte holds the sum.
use Rattle.std.proofs.Common.{arith, ◌+◌}
use Rattle.spans.specs.Sums.{surplus_at}
use Rattle.spans.proofs.Sums.{sum_more}
use Rattle.spans.proofs.Surplus.{surplus_parts}
use Rattle.spans.proofs.Blocks.{block_few}
use Rattle.spans.proofs.places.surplus_of_any.Goals as goal

pub overflow_add-n : goal.overflow_add-n
overflow_add-n c =
    let s = c.args.text.now in
    let k = c.loop-k.k in
    omega (arith, c.surplus_by-n.ensures, surplus_parts s (c.args.from + k) (omega arith), sum_more (surplus_at s) c.args.from k, block_few s c.args.from (k + 1) (omega arith))
