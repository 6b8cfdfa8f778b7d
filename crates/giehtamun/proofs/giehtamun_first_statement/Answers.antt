use Rattle.std.proofs.Common.{sym, subst}
use Rattle.rules.specs.Widths.{FitsHalves}
use Rattle.rules.specs.Statements.{First}
use Rattle.rules.proofs.Bounds.{fits_first}
use Rattle.giehtamun.proofs.giehtamun_first_statement.Goals as goal

pub pack_halves-requires : goal.pack_halves-requires
pack_halves-requires c = subst (λ (f : First). FitsHalves f.number f.statement.tokens f.statement.end) (sym c.in-Ok.ensures) (fits_first c.args.text.now).0
