-- What was read lies in the text.
use Rattle.std.proofs.Common.{arith}
use Rattle.lexer.proofs.Ends.{next_lies}
use Rattle.lists.proofs.picks.read_on.Goals as goal

pub overflow_cast-result-2 : goal.overflow_cast-result-2
overflow_cast-result-2 c = omega (arith, c.requires.0, next_lies c.args.text.now c.look_on.new.at.cursor c.read-found.result.token (omega (arith, c.requires.1, c.look_on.ensures.1)) c.read-found.ensures)
