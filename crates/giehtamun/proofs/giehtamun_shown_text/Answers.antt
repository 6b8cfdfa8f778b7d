use Rattle.std.proofs.Common.{sym, subst}
use Rattle.rules.specs.Widths.{Fits}
use Rattle.rules.specs.Answers.{Part}
use Rattle.rules.proofs.Bounds.{fits_shown_text}
use Rattle.giehtamun.proofs.giehtamun_shown_text.Goals as goal

pub pack_part-requires : goal.pack_part-requires
pack_part-requires c = subst (λ (p : Part). Fits p.number p.value) (sym c.shown_text_answer.ensures) (fits_shown_text c.args.text.now c.args.copy.now c.args.kind c.args.start c.args.end)
