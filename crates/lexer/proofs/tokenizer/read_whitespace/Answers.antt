-- White space of ASCII is skipped, then one character a turn is passed.
use Rattle.std.proofs.Common.{arith}
use Rattle.rules.specs.Classes.{white_space}
use Rattle.lexer.proofs.Runs.{run_end, byte_more, byte_stop, ascii_over}
use Rattle.lexer.proofs.tokenizer.read_whitespace.Goals as goal

pub loop-j-init : goal.loop-j-init
loop-j-init c = ascii_over c.args.text.now c.args.at _ white_space c.skip_spaces-j.ensures

pub loop-j-preserved-then-is_ascii_space : goal.loop-j-preserved-then-is_ascii_space
loop-j-preserved-then-is_ascii_space c =
    omega (arith, c.loop-j.invariant, byte_more white_space c.args.text.now c.loop-j.j (omega arith) _ c.is_ascii_space.ensures c.if-is_ascii_space.true)

pub returns-then-b-lt128 : goal.returns-then-b-lt128
returns-then-b-lt128 c =
    omega (arith, c.loop-j.invariant, byte_stop white_space c.args.text.now c.loop-j.j (omega arith) _ c.is_ascii_space.ensures c.if-b-lt128.true c.if-is_ascii_space.false)

pub returns : goal.returns
returns c = omega (arith, c.loop-j.invariant, run_end white_space c.args.text.now c.loop-j.j (omega arith))
