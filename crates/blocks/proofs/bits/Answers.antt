-- Eight rows, turned. Assumes nothing.
use Rattle.std.proofs.Common.{◌≡◌, ◌+◌, ◌*◌, ap, ◌∙◌, arith}
use Rattle.runs.specs.Lanes.{others}
use Rattle.blocks.specs.Edges.{outside}
use Rattle.blocks.proofs.Spans.{no_row, row, gathered, span, columns}
use Rattle.blocks.proofs.Rows.{row_of}
use Rattle.blocks.proofs.bits.Goals as goal

pub loop-k-init : goal.loop-k-init
loop-k-init c = no_row _ _

pub loop-k-preserved : goal.loop-k-preserved
loop-k-preserved c =
    let a = c.args in
    let es = a.class.edges in
    let m = row_of es a.class.ascii a.text.now (λ n. omega (arith, c.type_inv.text n)) (a.at + 8 * c.loop-k.k) c.others.result (c.others.ensures ∙ ap (others 8 es) c.eight.ensures) in
    row (outside es a.text.now) a.at c.loop-k.k c.loop-k.invariant m

pub returns : goal.returns
returns c =
    let a = c.args in
    let f = outside a.class.edges a.text.now in
    let e : c.loop-k.k ≡ 8 = omega arith in
    c.turned.ensures ∙ gathered f a.at (c.loop-k.invariant ∙ ap (λ n. span (columns n) f a.at) e)
