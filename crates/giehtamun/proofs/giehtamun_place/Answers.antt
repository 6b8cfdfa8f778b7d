use Rattle.std.proofs.Common.{sym, subst}
use Rattle.rules.specs.Widths.{FitsHalves}
use Rattle.rules.specs.Answers.{Placed}
use Rattle.rules.proofs.Bounds.{fits_place}
use Rattle.giehtamun.proofs.giehtamun_place.Goals as goal

pub pack_halves-requires : goal.pack_halves-requires
pack_halves-requires c = subst (λ (p : Placed). FitsHalves p.number p.place.line p.place.column) (sym c.in-Ok.ensures) (fits_place c.args.text.now c.args.offset)
