use Rattle.std.proofs.Common.{sym, subst}
use Rattle.rules.specs.Widths.{FitsExtra}
use Rattle.rules.specs.Saved.{Loaded}
use Rattle.rules.proofs.Bounds.{fits_loading}
use Rattle.giehtamun.proofs.giehtamun_load.Goals as goal

pub pack-requires : goal.pack-requires
pack-requires c = subst (λ (l : Loaded). FitsExtra l.number l.flag l.value) (sym c.in-Ok.ensures) (fits_loading c.args.file.now c.args.list.now)

pub pack_refusal-requires : goal.pack_refusal-requires
pack_refusal-requires c = let f = subst (λ (l : Loaded). FitsExtra l.number l.flag l.value) (sym c.in-Err.ensures) (fits_loading c.args.file.now c.args.list.now) in (f.0, f.2)
