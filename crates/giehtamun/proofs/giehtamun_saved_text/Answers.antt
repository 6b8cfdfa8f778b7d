use Rattle.std.proofs.Common.{sym, subst}
use Rattle.rules.specs.Widths.{Fits}
use Rattle.rules.specs.Answers.{Part}
use Rattle.rules.specs.Saved.{saved_text}
use Rattle.rules.proofs.Bounds.{fits_opening}
use Rattle.giehtamun.proofs.giehtamun_saved_text.Goals as goal

pub pack_part-requires : goal.pack_part-requires
unfolding saved_text
pack_part-requires c = subst (λ (p : Part). Fits p.number p.value) (sym c.saved_text_answer.ensures) (fits_opening c.args.file.now)
