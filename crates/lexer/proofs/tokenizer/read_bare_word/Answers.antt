-- What is skipped belongs to the run, and is all of it where a byte of ASCII stopped it. Assumes nothing.
use Rattle.std.proofs.Common.{◌∙◌, arith}
use Rattle.rules.specs.Words.{word_character}
use Rattle.lexer.proofs.Runs.{ascii_over, run_over}
use Rattle.lexer.proofs.tokenizer.read_bare_word.Goals as goal

pub returns-then-text-j-lt128 : goal.returns-then-text-j-lt128
returns-then-text-j-lt128 c =
    let r = c.skip_words-j in
    run_over c.args.text.now c.args.at r.result word_character r.ensures (omega (arith, c.if-text-j-ge8.true)) c.if-text-j-lt128.true

pub returns : goal.returns
returns c = let r = c.skip_words-j in c.read_word.ensures ∙ ascii_over c.args.text.now c.args.at r.result word_character r.ensures
