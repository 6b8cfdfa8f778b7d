-- The letter by its two bytes, and a word has it with and without `$`. Assumes nothing.
use Rattle.std.proofs.Common.{sym, ap, ◌∙◌, arith}
use Rattle.rules.specs.Utf8.{utf8_tail}
use Rattle.lexer.specs.Words.{word_with}
use Rattle.lexer.proofs.Classes.{alphabetic_word}
use Rattle.lexer.proofs.Runs.{step-two}
use Rattle.lexer.proofs.tokenizer.is_common_at.Goals as goal

pub returns : goal.returns
returns c z d =
    let x = c.args in
    let b = c.byte_at-b.ensures in
    let letter = c.is_common_letter.ensures z in
    step-two (word_with d) x.text.now x.at c.requires (omega arith) (omega arith) (ap utf8_tail (sym b) ∙ sym c.is_tail.ensures ∙ c.if-not-is_tail.false) (rw b at (alphabetic_word d _ letter))
