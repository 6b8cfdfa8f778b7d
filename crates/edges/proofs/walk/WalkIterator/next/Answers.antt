-- The token there has at least one byte, and lies in the text.
use Rattle.std.proofs.Common.{length, refl, ap, subst, ◌∙◌, arith}
use Rattle.lexer.proofs.Ends.{next_lies}
use Rattle.edges.specs.Walks.{Comes}
use Rattle.edges.proofs.walk.WalkIterator.next.Goals as goal

pub invariant_of-self-clause-inside : goal.invariant_of-self-clause-inside
invariant_of-self-clause-inside c =
    rw c.told_or_read-next.ensures.text
    (next_lies _ _ c.told_or_read-next.result.token (omega (arith, c.if-start-self.false, c.args.self.now.upto)) c.told_or_read-next.ensures.taken.0).1

pub returns-clause-steps : goal.returns-clause-steps
returns-clause-steps c =
    let e = c.told_or_read-next.ensures in
    let t = e.taken.0 in
    let next = c.told_or_read-next.result.token in
    let l = next_lies _ _ next (omega (arith, c.if-start-self.false, c.args.self.now.upto)) t in
    record {
      going = λ s position from g. record {
        text = e.text ∙ g.text;
        upto = omega (arith, e.stop, g.upto);
        still = λ h. absurd (omega (arith, h, l.0, g.later));
        later = omega (arith, l.0, g.later);
        inside = omega (arith, l.1, ap length g.text);
      };
      token = λ s position from g. (
        omega (arith, c.if-start-self.false, g.upto),
        subst (λ s. Comes s c.args.self.now.cursor (record { kind = next.kind; start = c.args.self.now.cursor; end = next.end }) next.end) g.text
            (record { start = refl; upto = refl; lexed = t; moves = l.0; inside = l.1 }),
      );
    }

pub returns-clause-goes : goal.returns-clause-goes
returns-clause-goes c =
    let e = c.told_or_read-next.ensures in
    let l = next_lies _ _ c.told_or_read-next.result.token (omega (arith, c.if-start-self.false, c.args.self.now.upto)) e.taken.0 in
    record { on = λ f. (tt, tt, omega (arith, l.0, l.1, ap length e.text)); keeps = tt; rests = λ f. tt }
