-- A token that is counted is the first of those left.
use Rattle.std.proofs.Common.{length, sym, ap, ◌∙◌, arith}
use Rattle.lists.proofs.Choosing.{comes_keep, comes-drop}
use Rattle.lists.proofs.listing.count_some.Goals as goal

pub loop-token-preserved-then-keeps : goal.loop-token-preserved-then-keeps
loop-token-preserved-then-keeps c =
    let v = c.loop-token.invariant in
    let n = c.in-Some.ensures.steps.token _ _ _ v.0 in
    let k = ap length (comes_keep c.args.of.choice c.args.of.text.now _ c.in-Some.token _ n.1 c.args.of.inside n.0 (sym c.keeps.ensures ∙ c.if-keeps.true)) in
    (c.in-Some.ensures.steps.going _ _ _ v.0, omega (arith, v.1, n.1.moves), omega (arith, k, v.2))

pub loop-token-preserved : goal.loop-token-preserved
loop-token-preserved c =
    let v = c.loop-token.invariant in
    let n = c.in-Some.ensures.steps.token _ _ _ v.0 in
    let k = ap length (comes-drop c.args.of.choice c.args.of.text.now _ c.in-Some.token _ n.1 c.args.of.inside n.0 (sym c.keeps.ensures ∙ c.if-keeps.false)) in
    (c.in-Some.ensures.steps.going _ _ _ v.0, omega (arith, v.1, n.1.moves), omega (arith, k, v.2))

pub returns : goal.returns
returns c =
    let v = c.loop-token.invariant in
    let e = c.in_default.ensures.steps in
    let g = e.going _ _ _ v.0 in
    let n = e.token _ _ _ v.0 in
    record { moves = record { later = g.later; inside = g.inside; moved = n.1 }; few = omega (arith, v.1, n.0); same = rw n.0 v.2 }
