use Rattle.std.proofs.Common.{rules, sym, subst}
use Rattle.rules.specs.Widths.{Fits}
use Rattle.rules.specs.Statements.{First}
use Rattle.rules.proofs.Bounds.{fits_first}
use Rattle.giehtamun.proofs.giehtamun_statement_text.Goals as goal

pub pack-requires : goal.pack-requires
pack-requires c = let f = subst (λ (f : First). Fits f.number f.statement.bytes) (sym c.in-Ok.ensures) (fits_first c.args.text.now).1 in search rules

pub pack_refusal-requires : goal.pack_refusal-requires
pack_refusal-requires c = subst (λ (f : First). Fits f.number f.statement.bytes) (sym c.in-Err.ensures) (fits_first c.args.text.now).1
