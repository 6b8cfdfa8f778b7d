-- Bytes joined by `|` are below 80 where each is. Assumes nothing.
use Rattle.std.proofs.Common.{◌≡◌, ◌+◌, ◌-◌, ◌∙◌, drop, arith}
use borrow.Author.Tests.{ltb-true}
use Rattle.std.proofs.lemmas.List.{get_or-take, get_or-drop}
use lib.Seq.{length-take-le}
use lib.ListN.{length-drop}
use Rattle.utf8.proofs.Passing.{pass_none, pass_more}
use Rattle.utf8.proofs.are_ascii.Goals as goal

pub loop-b-init : goal.loop-b-init
loop-b-init g c l =
    let e : c.args.i + 0 ≡ c.args.i = omega arith in
    rw e (pass_none c.args.s.now c.args.i (omega arith))

pub loop-b-preserved : goal.loop-b-preserved
loop-b-preserved g c l =
    let s = c.args.s.now in
    let i = c.args.i in
    let k = c.loop-b.b-index in
    let n = i + g.row.N - i in
    let t = length-take-le n (drop i s) (omega (arith, length-drop i s)) in
    let e = get_or-take n (drop i s) k 0 (omega arith) ∙ get_or-drop i s k 0 in
    pass_more s i k (omega arith) c.loop-b.invariant (rw e at l)

pub returns : goal.returns
returns g c e =
    let s = c.args.s.now in
    let i = c.args.i in
    let t = length-take-le (i + g.row.N - i) (drop i s) (omega (arith, length-drop i s)) in
    let n : c.loop-b.b-index ≡ g.row.N = omega arith in
    rw n at (c.loop-b.invariant (ltb-true _ _ e))
