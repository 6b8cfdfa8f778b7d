use Rattle.rules.proofs.Bounds.{fits_copy}
use Rattle.giehtamun.proofs.Packed.{fits, is-packed}
use Rattle.giehtamun.proofs.giehtamun_mask.Goals as goal

pub pack_answer-requires : goal.pack_answer-requires
pack_answer-requires c = fits c.mask.result _ _ c.mask.ensures (fits_copy c.args.text.now c.args.copy.now)

pub returns : goal.returns
returns c = is-packed c.mask.result _ _ c.mask.ensures _ c.pack_answer.ensures
