-- By what stands at the next place.
use Rattle.std.proofs.Common.{◌≡◌, ◌+◌, ◌-◌, sym, ap, ◌∙◌, arith}
use Rattle.ahead.specs.Slots.{probed}
use Rattle.ahead.proofs.Slots.{probed_here, probed_none, probed_next, probed_over}
use Rattle.ahead.proofs.probe.Goals as goal

pub returns-then-x-f : goal.returns-then-x-f
returns-then-x-f c =
    let i = c.loop-i.i in
    (sym (probed_here c.args.table.now c.args.f i (c.args.at + 64 - i) (omega arith) c.if-x-f.true) ∙ c.loop-i.invariant, omega arith)

pub returns-then-x-eq0 : goal.returns-then-x-eq0
returns-then-x-eq0 c =
    let i = c.loop-i.i in
    sym c.loop-i.invariant ∙ probed_none c.args.table.now c.args.f i (c.args.at + 64 - i) (omega arith) c.if-x-f.false c.if-x-eq0.true

pub loop-i-preserved : goal.loop-i-preserved
loop-i-preserved c =
    let i = c.loop-i.i in
    let n : c.args.at + 64 - (i + 1) ≡ c.args.at + 64 - i - 1 = omega arith in
    ap (probed c.args.table.now c.args.f (i + 1)) n ∙ sym (probed_next c.args.table.now c.args.f i (c.args.at + 64 - i) (omega arith) c.if-x-f.false c.if-x-eq0.false) ∙ c.loop-i.invariant

pub returns : goal.returns
returns c =
    let i = c.loop-i.i in
    let n : c.args.at + 64 - i ≡ 0 = omega arith in
    sym c.loop-i.invariant ∙ ap (probed c.args.table.now c.args.f i) n ∙ probed_over c.args.table.now c.args.f i
