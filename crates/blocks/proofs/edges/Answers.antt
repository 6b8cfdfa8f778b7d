-- The law of cuts. Assumes nothing.
use Rattle.std.proofs.Common.{arith}
use Rattle.blocks.specs.Edges.{word_edges, figure_edges, outside}
use Rattle.blocks.proofs.Sets.{cuts_are, cuts-lt}
use Rattle.blocks.proofs.edges.Goals as goal

pub overflow_mul-result : goal.overflow_mul-result
overflow_mul-result c =
    let s = c.args.text.now in
    omega (arith, cuts-lt (outside word_edges s) (outside figure_edges s) c.args.at _ _ _ _ c.bits-x.ensures c.bits-y.ensures c.later-a.ensures c.later-b.ensures)

pub returns : goal.returns
returns c =
    let s = c.args.text.now in
    cuts_are (outside word_edges s) (outside figure_edges s) c.args.at _ _ _ _ c.bits-x.ensures c.bits-y.ensures c.later-a.ensures c.later-b.ensures
