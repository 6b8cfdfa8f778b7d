-- A law of `code_of` for each length. Assumes nothing.
use Rattle.std.proofs.Common.{arith}
use Rattle.rules.proofs.Decoding.{code_one, code_two, code_three, code_four}
use Rattle.utf8.proofs.code_at.Goals as goal

pub returns-in-1 : goal.returns-in-1
returns-in-1 c = let x = c.args in cc (code_one x.s.now x.i x.n c.in-1.is)

pub returns-in-2 : goal.returns-in-2
returns-in-2 c = let x = c.args in cc (code_two x.s.now x.i x.n c.in-2.is)

pub returns-in-3 : goal.returns-in-3
returns-in-3 c = let x = c.args in cc (code_three x.s.now x.i x.n c.in-3.is)

pub returns-in_default : goal.returns-in_default
returns-in_default c = let x = c.args in cc (code_four x.s.now x.i x.n (omega arith) (omega arith) (omega arith))
