-- A token that is stored is the first of those left.
use Rattle.std.proofs.Common.{sym, subst, ◌∙◌}
use Rattle.lists.specs.Walks.{Packs}
use Rattle.lists.proofs.Choosing.{comes_keep, comes-drop}
use Rattle.lists.proofs.Packing.{packs_room, packs_more}
use Rattle.lists.proofs.listing.fill_some.Goals as goal

pub put_token-bytes-requires : goal.put_token-bytes-requires
put_token-bytes-requires c =
    let v = c.loop-token.invariant in
    let n = c.in-Some.ensures.steps.token _ _ _ v.0 in
    let k = comes_keep c.args.of.choice c.args.of.text.now _ c.in-Some.token _ n.1 c.args.of.inside n.0 (sym c.keeps.ensures ∙ c.if-keeps.true) in
    packs_room _ _ _ _ _ _ _ (subst (Packs _ _ _ _ _) k v.1) c.requires.1

pub loop-token-preserved-then-keeps : goal.loop-token-preserved-then-keeps
loop-token-preserved-then-keeps c =
    let v = c.loop-token.invariant in
    let n = c.in-Some.ensures.steps.token _ _ _ v.0 in
    let k = comes_keep c.args.of.choice c.args.of.text.now _ c.in-Some.token _ n.1 c.args.of.inside n.0 (sym c.keeps.ensures ∙ c.if-keeps.true) in
    let p = subst (Packs _ _ _ _ _) k v.1 in
    (c.in-Some.ensures.steps.going _ _ _ v.0, packs_more _ _ _ _ _ _ _ p (packs_room _ _ _ _ _ _ _ p c.requires.1) _ _ c.put_token-bytes.ensures.0 c.put_token-bytes.ensures.1)

pub loop-token-preserved : goal.loop-token-preserved
loop-token-preserved c =
    let v = c.loop-token.invariant in
    let n = c.in-Some.ensures.steps.token _ _ _ v.0 in
    let k = comes-drop c.args.of.choice c.args.of.text.now _ c.in-Some.token _ n.1 c.args.of.inside n.0 (sym c.keeps.ensures ∙ c.if-keeps.false) in
    (c.in-Some.ensures.steps.going _ _ _ v.0, subst (Packs _ _ _ _ _) k v.1)

pub returns : goal.returns
returns c =
    let v = c.loop-token.invariant in
    let e = c.in_default.ensures.steps in
    let g = e.going _ _ _ v.0 in
    let n = e.token _ _ _ v.0 in
    record { moves = record { later = g.later; inside = g.inside; moved = n.1 }; packs = rw n.0 v.1 }
