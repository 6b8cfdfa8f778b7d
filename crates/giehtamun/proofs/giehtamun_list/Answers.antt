use Rattle.std.proofs.Common.{ℕ, ap, ◌∙◌}
use Rattle.rules.specs.Answers.{listing}
use Rattle.rules.proofs.Bounds.{fits_listing}
use Rattle.giehtamun.proofs.Packed.{fits, is-packed}
use Rattle.giehtamun.proofs.giehtamun_list.Goals as goal

pub pack_answer-requires : goal.pack_answer-requires
pack_answer-requires c =
    let e = c.tokenize.ensures ∙ ap (λ (m : ℕ). listing m c.args.text.now c.args.list.now) c.set_mode.ensures.0 in
    fits c.tokenize.result _ _ e (fits_listing c.args.mode c.args.text.now c.args.list.now)

pub returns : goal.returns
returns c =
    let e = c.tokenize.ensures ∙ ap (λ (m : ℕ). listing m c.args.text.now c.args.list.now) c.set_mode.ensures.0 in
    is-packed c.tokenize.result _ _ e _ c.pack_answer.ensures
