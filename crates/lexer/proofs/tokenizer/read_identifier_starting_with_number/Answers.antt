-- By the byte there.
use Rattle.std.proofs.Common.{sym, refl, ◌∙◌, arith}
use Rattle.lexer.proofs.Numbers.{stops}
use Rattle.lexer.proofs.FastNumbers.{no_more}
use Rattle.lexer.proofs.tokenizer.read_identifier_starting_with_number.Goals as goal

pub returns-in-Some : goal.returns-in-Some
returns-in-Some c =
    let b = c.in-Some.ensures in
    b.0 ∙ stops c.args.text.now c.args.start c.args.at c.requires (sym (no_more c.args.text.now c.args.at (omega arith) b.1 b.2)) refl
