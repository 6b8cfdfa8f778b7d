-- By whether a tail follows. Assumes nothing.
use Rattle.std.proofs.Common.{sym, ◌∙◌, get_or, arith}
use lib.Dec.{leb, ltb}
use borrow.Author.Tests.{leb-true, ltb-true}
use Rattle.rules.proofs.Tests.{and_both}
use Rattle.utf8.proofs.Pairs.{pass_lead, pass_other}
use Rattle.utf8.proofs.pair_at.Goals as goal

pub returns-then-is_tail : goal.returns-then-is_tail
returns-then-is_tail c e =
    let b = get_or c.args.s.now c.args.i 0 in
    let t = and_both (leb 0xC2 b) (ltb b 0xE0) e in
    pass_lead c.args.s.now c.args.i (omega arith) (leb-true 0xC2 b t.0) (ltb-true b 0xE0 t.1) (sym c.is_tail.ensures ∙ c.if-is_tail.true)

pub returns-else-is_tail : goal.returns-else-is_tail
returns-else-is_tail c e = pass_other c.args.s.now c.args.i (omega arith) (omega (arith, ltb-true)) (sym c.is_tail.ensures ∙ c.if-is_tail.false)
