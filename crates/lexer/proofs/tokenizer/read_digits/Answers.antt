-- One digit, or one `_` between two, a turn.
use Rattle.std.proofs.Common.{sym, arith}
use Rattle.rules.specs.Numbers.{radix_digit}
use Rattle.rules.proofs.Tests.{clash}
use Rattle.rules.proofs.NumberBytes.{digits_end, byte_stop, byte-turn, radix_high, radix_none}
use Rattle.lexer.proofs.tokenizer.read_digits.Goals as goal
use Rattle.lexer.proofs.tokenizer.read_digits.Goals.{else-not-digit-via-then-not-digit+else-not-is_separator, else-not-digit-via-else-not-digit}

pub returns-then-not-is_separator : goal.returns-then-not-is_separator
returns-then-not-is_separator c =
    let p = radix_digit c.args.hex in
    omega (
      arith,
      c.loop-j.invariant,
      byte_stop p (radix_high c.args.hex) (radix_none c.args.hex) c.args.text.now c.loop-j.after c.loop-j.j (omega arith) (sym c.if-not-digit.ensures) (sym c.if-not-is_separator.ensures),
    )

pub loop-j-preserved : goal.loop-j-preserved
loop-j-preserved c =
    let p = radix_digit c.args.hex in
    omega (
      arith,
      c.loop-j.invariant,
      byte-turn p (radix_high c.args.hex) (radix_none c.args.hex) c.args.text.now c.loop-j.after c.loop-j.j (omega arith) c.is_radix_digit-digit.result c.is_radix_digit-digit.ensures
          (λ e. elim c.else-not-digit.branch [ else-not-digit-via-then-not-digit+else-not-is_separator w ↦ sym w.if-not-is_separator.ensures | else-not-digit-via-else-not-digit w ↦ clash w.if-not-digit.false e ]),
    )

pub returns : goal.returns
returns c =
    omega (arith, c.loop-j.invariant, digits_end (radix_digit c.args.hex) (radix_high c.args.hex) (radix_none c.args.hex) c.args.text.now c.loop-j.after c.loop-j.j (omega arith))
