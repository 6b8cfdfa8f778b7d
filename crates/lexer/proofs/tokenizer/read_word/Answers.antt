-- A byte of ASCII goes by its class, another character by its step. Assumes nothing.
use Rattle.std.proofs.Common.{arith}
use Rattle.lexer.specs.Words.{word_with}
use Rattle.lexer.proofs.Runs.{run_end, byte_more, byte_stop}
use Rattle.lexer.proofs.tokenizer.read_word.Goals as goal

pub loop-j-preserved-then-is_word_byte : goal.loop-j-preserved-then-is_word_byte
loop-j-preserved-then-is_word_byte c =
    omega (arith, byte_more (word_with c.args.dollar) c.args.text.now c.loop-j.j (omega arith) _ c.is_word_byte.ensures c.if-is_word_byte.true)

pub returns-then-b-lt128 : goal.returns-then-b-lt128
returns-then-b-lt128 c =
    omega (arith, byte_stop (word_with c.args.dollar) c.args.text.now c.loop-j.j (omega arith) _ c.is_word_byte.ensures c.if-b-lt128.true c.if-is_word_byte.false)

pub returns : goal.returns
returns c = omega (arith, run_end (word_with c.args.dollar) c.args.text.now c.loop-j.j (omega arith))
