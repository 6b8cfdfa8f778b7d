use Rattle.rules.proofs.Bounds.{fits_saving}
use Rattle.giehtamun.proofs.Packed.{fits, is-packed}
use Rattle.giehtamun.proofs.giehtamun_save.Goals as goal

pub pack_answer-requires : goal.pack_answer-requires
pack_answer-requires c = fits c.save.result _ _ c.save.ensures (fits_saving c.args.text.now c.args.list.now c.args.flag c.args.file.now)

pub returns : goal.returns
returns c = is-packed c.save.result _ _ c.save.ensures _ c.pack_answer.ensures
