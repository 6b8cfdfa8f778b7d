-- The unit at hand is the first character. Assumes nothing.
use Rattle.lexer.specs.Words.{word_with}
use Rattle.lexer.proofs.Classes.{word_none}
use Rattle.lexer.proofs.Runs.{step_taken, step_left}
use Rattle.lexer.proofs.tokenizer.word_len.Goals as goal

pub returns-then-is_word_in : goal.returns-then-is_word_in
returns-then-is_word_in c =
    let x = c.args in
    step_taken (word_with x.dollar) x.text.now x.at _ c.unit_at-u.ensures _ c.unit_code.ensures _ c.is_word_in.ensures _ c.unit_len.ensures (word_none x.dollar) c.if-is_word_in.true

pub returns-else-is_word_in : goal.returns-else-is_word_in
returns-else-is_word_in c =
    let x = c.args in
    step_left (word_with x.dollar) x.text.now x.at _ c.unit_at-u.ensures _ c.unit_code.ensures _ c.is_word_in.ensures c.if-is_word_in.false
