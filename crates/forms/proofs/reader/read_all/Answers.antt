-- `forms::reader::read_all` meets its contract, by the laws of `Steps`. Assumes nothing.
use Rattle.std.proofs.Common.{◌≡◌, ℕ, List, refl, arith, ap, ◌∙◌, add-one}
use Rattle.rules.specs.Answers.{step}
use Rattle.lists.specs.Plans.{stored_by}
use Rattle.forms.proofs.Steps.{read_none, turn_ok, turn-read, read_done}
use Rattle.forms.proofs.reader.read_all.Goals as goal

pub loop-i-init : goal.loop-i-init
loop-i-init c = record { read = rw c.open-reader.ensures.1 (read_none c.args.text.now c.args.list.now); text = rw c.open-reader.ensures.0 refl; within = omega arith }

pub unreachable-requires : goal.unreachable-requires
unreachable-requires c =
    let l = c.loop-i in
    let more = rw c.stored_by-i-end.ensures at c.loop-i-test.true in
    let found = c.next.ensures ∙ ap (λ (t : List ℕ). step t l.reader.at) l.invariant.text in
    turn_ok c.args.text.now c.args.list.now c.answer_steps-answer.result c.answer_steps-answer.ensures l.i l.reader.at l.list l.invariant.read more c.next.result found c.in_default.field-0 c.in_default.is

pub loop-i-preserved : goal.loop-i-preserved
loop-i-preserved c =
    let s = c.args.text.now in
    let l = c.loop-i in
    let m = c.moved-reader in
    let more = rw c.stored_by-i-end.ensures at c.loop-i-test.true in
    let found = c.next.ensures ∙ ap (λ (t : List ℕ). step t l.reader.at) l.invariant.text in
    record {
      read = rw (add-one, m.ensures.1) (turn-read s c.args.list.now c.answer_steps-answer.result c.answer_steps-answer.ensures l.i l.reader.at l.list l.invariant.read more c.next.result found c.in-Ok.found c.in-Ok.is c.put_at.new.list c.put_at.ensures);
      text = rw m.ensures.0 l.invariant.text;
      within = omega (arith, c.loop-i-test.true);
    }

pub returns : goal.returns
returns c =
    let l = c.loop-i in
    let w = l.invariant.within in
    let stop : l.i ≡ stored_by c.answer_steps-answer.result = omega (arith, c.stored_by-i-end.ensures) in
    read_done c.args.text.now c.args.list.now c.answer_steps-answer.result c.answer_steps-answer.ensures l.reader.at l.list (rw stop at l.invariant.read)
