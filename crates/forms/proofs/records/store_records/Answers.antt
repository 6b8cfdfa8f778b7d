-- `forms::records::store_records` meets its contract, by the laws of `Stored`. Assumes nothing.
use Rattle.std.proofs.Common.{ap, ◌∙◌}
use Rattle.rules.specs.Cases.{Answer}
use Rattle.forms.specs.Records.{recorded}
use Rattle.forms.proofs.Stored.{stood_first, stood_more, stood_done}
use Rattle.forms.proofs.records.store_records.Goals as goal

pub loop-token-init : goal.loop-token-init
loop-token-init c =
    let b = c.begin-at in
    stood_first c.args.plan c.args.text.now c.args.list.now b.result b.ensures.0 c.no_bits-lone.result b.ensures.1 (c.no_bits-lone.ensures c.args.text.now b.result b.ensures.2)

pub loop-token-preserved : goal.loop-token-preserved
loop-token-preserved c =
    let b = c.begin-at in
    let l = c.loop-token in
    stood_more c.args.plan c.args.text.now c.args.list.now b.result b.ensures.0 l.i l.at l.lone l.list l.invariant c.pick.new.at c.pick.new.lone c.pick.result c.pick.ensures c.in-Some.token c.in-Some.is

pub returns : goal.returns
returns c =
    let b = c.begin-at in
    let l = c.loop-token in
    ap (λ (a : Answer). recorded a l.list) c.answer_by.ensures
    ∙ stood_done c.args.plan c.args.text.now c.args.list.now b.result b.ensures.0 l.i l.at l.lone l.list l.invariant c.pick.new.at c.pick.new.lone c.pick.result c.pick.ensures c.in_default.is
