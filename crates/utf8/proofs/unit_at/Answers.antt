-- A law of `unit_at` for each answer. Assumes nothing.
use Rattle.std.proofs.Common.{refl, sym, arith, drop}
use lib.ListN.{length-drop}
use Rattle.utf8.proofs.Units.{some_is, none_is, unit_end, unit_broken, unit_char}
use Rattle.utf8.proofs.unit_at.Goals as goal

pub returns-then-i-s : goal.returns-then-i-s
returns-then-i-s c = sym (unit_end c.args.s.now c.args.i c.if-i-s.true)

pub returns-in-Some : goal.returns-in-Some
returns-in-Some c =
    let l = length-drop c.args.i c.args.s.now in
    let n = some_is _ _ c.formed_at.ensures c.in-Some.is in
    cc (unit_char (drop c.args.i c.args.s.now) c.in-Some.len (omega arith) n.0 n.1)

pub returns-in-None : goal.returns-in-None
returns-in-None c =
    let l = length-drop c.args.i c.args.s.now in
    cc (unit_broken (drop c.args.i c.args.s.now) _ (omega arith) refl (none_is _ c.formed_at.ensures c.in-None.is))
