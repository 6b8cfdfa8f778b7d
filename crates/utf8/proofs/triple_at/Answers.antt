-- By whether a tail follows. Assumes nothing.
use Rattle.std.proofs.Common.{arith}
use Rattle.utf8.proofs.Triples.{pass_triple}
use Rattle.utf8.proofs.triple_at.Goals as goal

pub returns : goal.returns
returns c e = pass_triple c.args.s.now c.args.i (omega arith) c.is_tail-tail.ensures c.is_tail-more.ensures c.takes_tail.ensures e
