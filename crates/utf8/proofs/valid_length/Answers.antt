-- Each turn passes a character at least. Assumes nothing.
use Rattle.std.proofs.Common.{◌≡◌, ℕ, List, Option, Some, ◌+◌, ◌<◌, length, drop, refl, arith}
use Rattle.rules.specs.Utf8.{well_formed}
use Rattle.utf8.specs.Units.{Passes, some_length}
use Rattle.utf8.proofs.Units.{some_is, none_is}
use Rattle.utf8.proofs.Passing.{pass_byte, pass_char, pass_on, pass_end, pass_stop}
use Rattle.utf8.proofs.valid_length.Goals as goal

-- the character that the code has found
pass_some :
    (s : List ℕ) (j n m : ℕ) {r : Option ℕ} → Passes s 0 j → j < length s → r ≡ some_length (well_formed (drop j s)) → r ≡ Some n → n ≡ m
    → Passes s 0 (j + m)
pass_some s j n m p h e f t =
    let w = some_is (well_formed (drop j s)) n e f in
    rw t at (pass_char s 0 j n p h w.0 w.1)

pub loop-j-preserved-then-s-j-lt128 : goal.loop-j-preserved-then-s-j-lt128
loop-j-preserved-then-s-j-lt128 c = pass_on _ _ _ _ (pass_byte _ _ _ c.loop-j.invariant (omega arith) c.if-s-j-lt128.true) c.ascii_end-j.ensures

pub returns-in-None : goal.returns-in-None
returns-in-None c = pass_stop _ _ _ c.loop-j.invariant refl (none_is _ c.formed_at.ensures c.in-None.is)

pub narrow_end-j-requires-clause-from : goal.narrow_end-j-requires-clause-from
narrow_end-j-requires-clause-from c = (pass_some _ _ _ 2 c.loop-j.invariant (omega arith) c.formed_at.ensures c.in-Some-eq2.is c.in-Some-eq2.field-0-test).upto

pub narrow_end-j-requires-in-Some-eq3-clause-from : goal.narrow_end-j-requires-in-Some-eq3-clause-from
narrow_end-j-requires-in-Some-eq3-clause-from c = (pass_some _ _ _ 3 c.loop-j.invariant (omega arith) c.formed_at.ensures c.in-Some-eq3.is c.in-Some-eq3.field-0-test).upto

pub overflow_add-j-in-Some : goal.overflow_add-j-in-Some
overflow_add-j-in-Some c = omega (arith, (pass_some _ _ _ _ c.loop-j.invariant (omega arith) c.formed_at.ensures c.in-Some.is refl).upto)

pub fours_end-j-requires : goal.fours_end-j-requires
fours_end-j-requires c = (pass_some _ _ _ _ c.loop-j.invariant (omega arith) c.formed_at.ensures c.in-Some.is refl).upto

pub loop-j-preserved-in-Some-eq2 : goal.loop-j-preserved-in-Some-eq2
loop-j-preserved-in-Some-eq2 c = pass_on _ _ _ _ (pass_some _ _ _ 2 c.loop-j.invariant (omega arith) c.formed_at.ensures c.in-Some-eq2.is c.in-Some-eq2.field-0-test) c.narrow_end-j.ensures

pub loop-j-preserved-in-Some-eq3 : goal.loop-j-preserved-in-Some-eq3
loop-j-preserved-in-Some-eq3 c = pass_on _ _ _ _ (pass_some _ _ _ 3 c.loop-j.invariant (omega arith) c.formed_at.ensures c.in-Some-eq3.is c.in-Some-eq3.field-0-test) c.narrow_end-j-in-Some-eq3.ensures

pub loop-j-preserved : goal.loop-j-preserved
loop-j-preserved c = pass_on _ _ _ _ (pass_some _ _ _ _ c.loop-j.invariant (omega arith) c.formed_at.ensures c.in-Some.is refl) c.fours_end-j.ensures

pub returns : goal.returns
returns c = pass_end _ _ c.loop-j.invariant c.loop-j-test.false
