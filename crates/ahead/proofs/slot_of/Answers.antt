-- By whether the table may hold the hash.
use Rattle.std.proofs.Common.{ℕ, ◌/◌, sym, ap, subst, ◌∙◌}
use Rattle.ahead.specs.Slots.{probed, IsPlace}
use Rattle.ahead.proofs.Slots.{slot_some, slot_none}
use Rattle.ahead.proofs.slot_of.Goals as goal

pub returns-then-not-may_hold : goal.returns-then-not-may_hold
returns-then-not-may_hold c = slot_none c.args.table.now c.args.h (sym c.may_hold.ensures ∙ c.if-not-may_hold.true)

pub returns : goal.returns
returns c =
    subst (IsPlace c.probe.result)
    (ap (λ (i : ℕ). probed c.args.table.now (c.args.h / 0x100000000) i 64) c.start_of.ensures.0 ∙ sym (slot_some c.args.table.now c.args.h (sym c.may_hold.ensures ∙ c.if-not-may_hold.false)))
    c.probe.ensures
