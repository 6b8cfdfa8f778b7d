-- The edges after an offset further on.
use Rattle.std.proofs.Common.{arith}
use Rattle.edges.proofs.Walks.{later}
use Rattle.edges.proofs.left.Goals as goal

pub returns-clause-left : goal.returns-clause-left
returns-clause-left c = λ s start l b. later s start c.args.rest c.args.end (omega (arith, c.if-end-base.false)) (omega (arith, c.if-end-base-ge63.false)) l b
