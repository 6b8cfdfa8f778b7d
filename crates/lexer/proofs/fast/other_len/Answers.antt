-- By two bytes, or by three and their code.
use Rattle.std.proofs.Common.{inl, inr, arith}
use Rattle.std.proofs.lemmas.Bool.Decides.{nat_tests}
use Rattle.lexer.proofs.Letters.{unruled_two, unruled_three}
use Rattle.lexer.proofs.fast.other_len.Goals as goal

pub returns-in-195-to-223-128-to-191-default : goal.returns-in-195-to-223-128-to-191-default
returns-in-195-to-223-128-to-191-default c =
    unruled_two c.args.text.now c.args.at (omega arith) (omega arith) (omega arith) (grind (arith, nat_tests))

pub returns-then-code-gt12288 : goal.returns-then-code-gt12288
returns-then-code-gt12288 c =
    unruled_three c.args.text.now c.args.at (omega arith) (omega arith) (omega arith) (grind (arith, nat_tests)) (grind (arith, nat_tests)) (elim c.if-code-gt12288.either [ inl x ↦ inl x | inr y ↦ inr y.1 ])
