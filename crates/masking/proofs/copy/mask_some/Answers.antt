-- What a token that hides bytes keeps does not meet, and masking goes on over each.
use Rattle.std.proofs.Common.{◌<◌, ◌≤◌, length, sym, ◌∙◌, arith}
use Rattle.masking.proofs.Spans.{span_length}
use Rattle.masking.proofs.Copying.{came_apart, came_more, came_same}
use Rattle.masking.proofs.copy.mask_some.Goals as goal

pub mask_token-requires : goal.mask_token-requires
mask_token-requires c =
    let v = c.loop-token.invariant in
    let n = c.in-Some.ensures.steps.token _ _ _ v.0 in
    let t = c.in-Some.token in
    let s = c.args.text.now in
    let span : (t.start < t.end) × (t.end ≤ length s) = (omega (arith, n.1.start, n.1.upto, n.1.moves), omega (arith, n.1.upto, n.1.inside)) in
    let a = came_apart s c.args.copy.now c.requires.2 _ t _ n.1 in
    let l = span_length s t.start t.end span in (
      record { span = span; hides = sym c.hides.ensures ∙ c.if-hides.true; apart = omega (arith, a, l) },
      omega (arith, v.1, c.requires.2),
    )

pub loop-token-preserved-then-hides : goal.loop-token-preserved-then-hides
loop-token-preserved-then-hides c =
    let v = c.loop-token.invariant in
    let n = c.in-Some.ensures.steps.token _ _ _ v.0 in (
      c.in-Some.ensures.steps.going _ _ _ v.0,
      c.mask_token.auto.copy ∙ v.1,
      λ first room k. came_more c.args.text.now first room _ c.in-Some.token _ n.1 _ _ (v.2 first room k) c.mask_token.ensures,
    )

pub loop-token-preserved : goal.loop-token-preserved
loop-token-preserved c =
    let v = c.loop-token.invariant in
    let n = c.in-Some.ensures.steps.token _ _ _ v.0 in (
      c.in-Some.ensures.steps.going _ _ _ v.0,
      v.1,
      λ first room k. came_same c.args.text.now first room _ c.in-Some.token _ n.1 _ (sym c.hides.ensures ∙ c.if-hides.false) (v.2 first room k),
    )

pub returns : goal.returns
returns c =
    let v = c.loop-token.invariant in
    let e = c.in_default.ensures.steps in
    let g = e.going _ _ _ v.0 in
    let n = e.token _ _ _ v.0 in
    record { later = g.later; inside = g.inside; moved = n.1; len = v.1; masks = λ first room k. rw n.0 (v.2 first room k) }
