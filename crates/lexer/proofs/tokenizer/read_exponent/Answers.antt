-- No letter, a letter with no digit after it, or an exponent.
use Rattle.std.proofs.Common.{◌≡◌, ◌+◌, suc, get_or, refl, sym, ap, ◌∙◌, arith}
use Rattle.rules.specs.Classes.{digit}
use Rattle.rules.specs.Numbers.{exponent_mark, sign_length}
use Rattle.rules.proofs.NumberBytes.{exponent-at_none, exponent-at_wrong, exponent-at_well}
use Rattle.lexer.proofs.Ends.{part_well, part_wrong}
use Rattle.lexer.proofs.tokenizer.read_exponent.Goals as goal

pub returns-then-not-is_exponent_mark : goal.returns-then-not-is_exponent_mark
returns-then-not-is_exponent_mark c =
    part_well c.args.at (exponent-at_none c.args.hex c.args.text.now c.args.at (ap (exponent_mark c.args.hex) (sym c.byte_at.ensures) ∙ sym c.if-not-is_exponent_mark.ensures)) _ (omega arith)

pub returns-then-is_digit : goal.returns-then-is_digit
returns-then-is_digit c =
    let s = c.args.text.now in
    let i = c.args.at in
    let n : 1 + c.sign_len.result ≡ suc (sign_length (get_or s (i + 1) 0)) = omega (arith, c.sign_len.ensures, ap sign_length c.byte_at-2.ensures) in
    part_well i (exponent-at_well c.args.hex s i (ap (exponent_mark c.args.hex) (sym c.byte_at.ensures) ∙ sym c.if-not-is_exponent_mark.ensures) (1 + c.sign_len.result) n (ap digit (sym c.byte_at-3.ensures) ∙ sym c.if-is_digit.ensures)) _ (omega (arith, c.read_digits.ensures))

pub returns-else-is_digit : goal.returns-else-is_digit
returns-else-is_digit c =
    let s = c.args.text.now in
    let i = c.args.at in
    let n : 1 + c.sign_len.result ≡ suc (sign_length (get_or s (i + 1) 0)) = omega (arith, c.sign_len.ensures, ap sign_length c.byte_at-2.ensures) in
    part_wrong i (exponent-at_wrong c.args.hex s i (ap (exponent_mark c.args.hex) (sym c.byte_at.ensures) ∙ sym c.if-not-is_exponent_mark.ensures) (1 + c.sign_len.result) n (ap digit (sym c.byte_at-3.ensures) ∙ sym c.if-is_digit.ensures)) _ refl
