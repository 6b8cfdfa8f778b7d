-- The code's table is the definition's, number by number.
use Rattle.std.proofs.Common.{◌≡◌, ℕ, List, get_or, refl, ap, ◌∙◌, arith}
use Rattle.rules.specs.Operators.{single}
use Rattle.lexer.specs.FirstBytes.{first_byte_kind}
use Rattle.edges.specs.declared.TheConstants.{LEADS}
use Rattle.edges.specs.Leads.{after, minds, plain_kind, lead, leads_from, lead_table}
use Rattle.edges.proofs.Tells.{in_table}
use Rattle.edges.proofs.lead_of.Goals as goal

same : LEADS ≡ lead_table
unfolding lead_table leads_from lead minds after plain_kind first_byte_kind single
same = refl

pub returns : goal.returns
returns c = ap (λ (t : List ℕ). get_or t c.args.b 0) same ∙ in_table c.args.b (omega arith)
