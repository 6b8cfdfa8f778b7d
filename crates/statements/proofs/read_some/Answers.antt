-- Up to a delimiter, or over any other token.
use Rattle.std.proofs.Common.{length, sym, subst, ◌∙◌, arith}
use Rattle.statements.specs.Walks.{read_up_to, ReadOn}
use Rattle.statements.proofs.Walks.{came_delimiter, came_open, came_other}
use Rattle.statements.proofs.read_some.Goals as goal

pub loop-token-preserved : goal.loop-token-preserved
loop-token-preserved c =
    let v = c.loop-token.invariant in
    let n = c.in-Some.ensures.steps.token _ _ _ v.0 in
    let s = c.args.text.now in
    let p = read_up_to c.loop-token.walk.cursor c.loop-token.tokens (length s) in (
      c.in-Some.ensures.steps.going _ _ _ v.0,
      came_open s p v.1 c.in-Some.token _ n.1,
      came_other s p v.1 c.in-Some.token _ n.1 (sym c.is_delimiter.ensures ∙ c.if-is_delimiter.false) ∙ v.2,
    )

pub returns-then-is_delimiter : goal.returns-then-is_delimiter
returns-then-is_delimiter c =
    let v = c.loop-token.invariant in
    let n = c.in-Some.ensures.steps.token _ _ _ v.0 in
    let s = c.args.text.now in
    let p = read_up_to c.loop-token.walk.cursor c.loop-token.tokens (length s) in
    let e = came_delimiter s p v.1 c.in-Some.token _ n.1 (sym c.is_delimiter.ensures ∙ c.if-is_delimiter.true) in
    subst (ReadOn s c.args.from) (sym c.read_up_to.ensures)
    (record {
      moved = λ l. omega (arith, v.0.later, n.1.moves);
      inside = n.1.inside;
      same = e ∙ v.2;
      still = λ l. absurd (omega (arith, n.1.start, n.1.moves, l));
    })

pub returns : goal.returns
returns c =
    let v = c.loop-token.invariant in
    let e = c.in_default.ensures.steps in
    let n = e.token _ _ _ v.0 in
    subst (ReadOn c.args.text.now c.args.from) (sym c.read_up_to-2.ensures)
    (record { moved = n.1; inside = (e.going _ _ _ v.0).inside; same = rw n.0 v.2; still = λ l. rw n.0 v.1 })
