use Rattle.std.proofs.Common.{sym, subst}
use Rattle.rules.specs.Widths.{FitsExtra}
use Rattle.rules.specs.Answers.{Stepped}
use Rattle.rules.proofs.Bounds.{fits_step}
use Rattle.giehtamun.proofs.giehtamun_step.Goals as goal

pub pack-requires : goal.pack-requires
pack-requires c = subst (λ (s : Stepped). FitsExtra s.number s.token.kind s.value) (sym c.in-Ok.ensures) (fits_step c.args.text.now c.args.cursor)

pub pack_refusal-requires : goal.pack_refusal-requires
pack_refusal-requires c = let f = subst (λ (s : Stepped). FitsExtra s.number s.token.kind s.value) (sym c.in-Err.ensures) (fits_step c.args.text.now c.args.cursor) in (f.0, f.2)
