use Rattle.std.proofs.Common.{rules, arith, refl, sym, ap, ◌∙◌}
use Rattle.rules.specs.Masking.{masked}
use Rattle.rules.specs.Answers.{filled, masked_copy}
use Rattle.rules.proofs.Masked.{length-masked}
use Rattle.masking.proofs.Copying.{filled_over}
use Rattle.masking.proofs.copy.mask.Goals as goal

pub mask_tokens-requires : goal.mask_tokens-requires
mask_tokens-requires c =
    let e = c.copy_front.ensures in
    (omega (arith, c.max_query_size.ensures), e ∙ sym (ap (filled c.args.text.now) e ∙ filled_over c.args.text.now c.args.text.now c.args.copy.now refl))

pub returns : goal.returns
unfolding masked_copy
returns c =
    let s = c.args.text.now in
    let f = c.mask_tokens.ensures ∙ ap (filled (masked s)) c.copy_front.ensures ∙ filled_over (masked s) s c.args.copy.now (length-masked s) in
    search rules
