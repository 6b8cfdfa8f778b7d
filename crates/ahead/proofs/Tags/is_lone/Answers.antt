-- A tag is not closed, or not seen after its own end.
use Rattle.std.proofs.Common.{ℕ, ◌+◌, Option, get_or, drop, sym, subst, ◌∙◌, arith, leb-true}
use Rattle.lexer.proofs.HereDocs.{not_closed}
use Rattle.ahead.specs.Slots.{slot_from, IsPlace}
use Rattle.ahead.proofs.Again.{not_again}
use Rattle.ahead.proofs.Tags.is_lone.Goals as goal

pub returns-then-byte_at-ne36-2 : goal.returns-then-byte_at-ne36-2
returns-then-byte_at-ne36-2 c e d =
    not_closed c.args.self.text.now c.args.at c.key_at-key.result.end c.key_at-key.ensures.1 (λ z. c.if-byte_at-ne36-2.true (c.byte_at-2.ensures ∙ z))

pub returns-in-Some : goal.returns-in-Some
returns-in-Some c e d =
    let t = c.args.self in
    let z = sym c.byte_at-2.ensures ∙ c.if-byte_at-ne36-2.false in
    let p = subst (λ (o : Option ℕ). IsPlace o (slot_from t.table.now (drop (c.args.at + 1) t.text.now))) c.in-Some.is c.key_at-key.ensures.0 in
    not_again t.text.now c.args.at c.key_at-key.result.end c.key_at-key.ensures.1 d z t.from t.table.now t.last.now t.seen c.requires
    (omega (arith, p.0, p.1, t.noted))
    (rw p.0 at (leb-true (get_or t.last.now c.in-Some.slot 0) c.key_at-key.result.end e))
