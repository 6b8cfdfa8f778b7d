use Rattle.std.proofs.Common.{ℕ, ap₂, ◌∙◌}
use Rattle.rules.specs.Answers.{Written, listing_up_to}
use Rattle.rules.proofs.Bounds.{fits_listing_up_to}
use Rattle.giehtamun.proofs.Packed.{fits, is-packed}
use Rattle.giehtamun.proofs.giehtamun_list_up_to.Goals as goal

pub pack_answer-requires : goal.pack_answer-requires
pack_answer-requires c =
    let e = c.tokenize_up_to_position.ensures ∙ ap₂ {C = Written} (λ (m n : ℕ). listing_up_to m n c.args.text.now c.args.list.now) (c.set_position.ensures.0 ∙ c.set_mode.ensures.0) c.set_position.ensures.1 in
    fits c.tokenize_up_to_position.result _ _ e (fits_listing_up_to c.args.mode c.args.position c.args.text.now c.args.list.now)

pub returns : goal.returns
returns c =
    let e = c.tokenize_up_to_position.ensures ∙ ap₂ {C = Written} (λ (m n : ℕ). listing_up_to m n c.args.text.now c.args.list.now) (c.set_position.ensures.0 ∙ c.set_mode.ensures.0) c.set_position.ensures.1 in
    is-packed c.tokenize_up_to_position.result _ _ e _ c.pack_answer.ensures
