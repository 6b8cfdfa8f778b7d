-- By the marks of both rows. Assumes nothing.
use Rattle.std.proofs.Common.{sym, ap, ap₂, ◌∙◌, arith}
use Rattle.std.specs.Int.Bits.{bit_or}
use borrow.Author.Tests.{eqb-true}
use Rattle.runs.specs.Lanes.{ones, others}
use Rattle.runs.proofs.Pairs.{unpaired}
use Rattle.runs.proofs.no_pairs.Goals as goal

pub returns : goal.returns
unfolding ones
returns c e k h =
    let a = c.args.a in
    let b = c.args.b in
    let x = sym (ap₂ bit_or (c.others.ensures ∙ ap (others 8 a.edges) c.eight.ensures) (c.others-2.ensures ∙ ap (others 8 b.edges) c.eight-2.ensures)) ∙ eqb-true _ _ e in
    unpaired c.args.text.now (λ n. omega (arith, c.type_inv.text n)) a.edges b.edges a.ascii b.ascii 8 c.args.i x k h
