-- The table, against the definition: computed at all 256 bytes.
use Rattle.std.proofs.Common.{true, get_or, eqb, refl}
use Rattle.rules.specs.Operators.{single}
use Rattle.rules.proofs.Tests.{eqb-true}
use Rattle.rules.proofs.Tables.{agree_at}
use Rattle.lexer.specs.declared.fast.TheConstants.{FIRST_BYTE_KINDS}
use Rattle.lexer.specs.FirstBytes.{first_byte_kind}
use Rattle.lexer.proofs.fast.first_byte_kind.Goals as goal

pub returns : goal.returns
unfolding first_byte_kind single
returns c = eqb-true (agree_at (λ a. eqb (get_or FIRST_BYTE_KINDS a 0) (first_byte_kind a)) (λ a. true) 256 refl c.args.a c.ranges.a.fits)
