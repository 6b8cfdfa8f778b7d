-- The line ends before the line's start, and the bytes since less the surplus, are the place.
use Rattle.std.proofs.Common.{rules, arith}
use Rattle.rules.specs.Answers.{place_at}
use Rattle.spans.proofs.Lines.{surplus_fits, place-sums}
use Rattle.spans.proofs.places.place.Goals as goal

pub overflow_sub-result-2 : goal.overflow_sub-result-2
overflow_sub-result-2 c =
    surplus_fits c.args.text.now c.args.offset c.edge_of-edge.result c.line_before-line.result.start c.line_before-line.result.surplus (omega arith) c.edge_of-edge.ensures c.line_before-line.ensures

pub returns : goal.returns
unfolding place_at
returns c =
    let p = place-sums c.args.text.now c.args.offset c.edge_of-edge.result c.line_before-line.result.start c.line_before-line.result.surplus (omega arith) c.edge_of-edge.ensures c.line_before-line.ensures in
    search rules
