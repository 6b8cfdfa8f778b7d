-- A dot stands there, or none.
use Rattle.std.proofs.Common.{sym, ap, ◌∙◌, arith, eqb}
use borrow.Author.Tests.{eq-eqb, ne_eqb}
use Rattle.rules.specs.Characters.{dot}
use Rattle.rules.specs.Numbers.{radix_digit}
use Rattle.rules.proofs.Decoding.{within_text}
use Rattle.rules.proofs.NumberBytes.{fraction-at-dot, fraction-at_none}
use Rattle.lexer.proofs.tokenizer.read_fraction.Goals as goal

pub returns-then-byte_at-eq46 : goal.returns-then-byte_at-eq46
returns-then-byte_at-eq46 c =
    omega (arith, c.read_digits.ensures, fraction-at-dot (radix_digit c.args.hex) c.args.text.now c.args.at (within_text c.args.text.now c.args.at (omega (arith, c.byte_at.ensures))) (eq-eqb _ _ (sym c.byte_at.ensures ∙ c.if-byte_at-eq46.true)))

pub returns-else-byte_at-eq46 : goal.returns-else-byte_at-eq46
returns-else-byte_at-eq46 c =
    omega (arith, fraction-at_none (radix_digit c.args.hex) c.args.text.now c.args.at (ap (λ n. eqb n dot) (sym c.byte_at.ensures) ∙ ne_eqb _ _ c.if-byte_at-eq46.false))
