-- A law of `formed` for each range of the first byte. Assumes nothing.
use Rattle.std.proofs.Common.{◌≡◌, ℕ, suc, Bool, true, false, cond, ◌+◌, refl, sym, ap, ◌∙◌, get_or, arith}
use lib.ListN.{get_or-eq_default}
use Rattle.std.specs.Bool.{then_some}
use Rattle.rules.proofs.Decoding.{at_index, formed-one, formed_low, formed-two, formed-three, formed_four, four_short}
use Rattle.utf8.specs.Units.{some_length}
use Rattle.utf8.proofs.formed_at.Goals as goal

-- by the code's test t, which is the rules', over bytes that the code has read
decided : {m : ℕ} (k : ℕ) {t w : Bool} → m ≡ cond w (suc k) 0 → t ≡ w → then_some t (suc k) ≡ some_length m
decided k {t} e p = by t ∙ ap some_length (sym (e ∙ ap (λ (x : Bool). cond x (suc k) 0) (sym p)))
  where
    by : (t : Bool) → then_some t (suc k) ≡ some_length (cond t (suc k) 0)
    by true = refl
    by false = refl

pub returns-in-0-to-127 : goal.returns-in-0-to-127
returns-in-0-to-127 c = ap some_length (sym (at_index c.args.s.now c.args.j ∙ formed-one _ _ _ _ (omega arith)))

pub returns-in-128-to-193 : goal.returns-in-128-to-193
returns-in-128-to-193 c = ap some_length (sym (at_index c.args.s.now c.args.j ∙ formed_low _ _ _ _ (omega arith) (omega arith)))

pub returns-in-194-to-223 : goal.returns-in-194-to-223
returns-in-194-to-223 c =
    c.then_some.ensures ∙ decided 1 (at_index c.args.s.now c.args.j ∙ formed-two _ _ _ _ (omega arith) (omega arith)) (rw c.byte_at.ensures at c.is_tail.ensures)

pub returns-in-224-to-239 : goal.returns-in-224-to-239
returns-in-224-to-239 c =
    c.then_some-in-224-to-239.ensures
    ∙ decided 2 (at_index c.args.s.now c.args.j ∙ formed-three _ _ _ _ (omega arith) (omega arith))
    (rw (c.byte_at-in-224-to-239.ensures, c.byte_at-in-224-to-239-2.ensures) at c.is_three.ensures)

pub returns-in_default : goal.returns-in_default
returns-in_default c =
    let s = c.args.s.now in
    let i = c.args.j in
    decided 3 (at_index s i ∙ formed_four _ _ _ _ (omega arith)) (sym (four_short (get_or s i 0) (get_or s (i + 1) 0) (get_or s (i + 2) 0) _ (get_or-eq_default s 0 (omega arith))))

pub returns-in_default-2 : goal.returns-in_default-2
returns-in_default-2 c =
    c.then_some-in_default-2.ensures ∙ decided 3 (at_index c.args.s.now c.args.j ∙ formed_four _ _ _ _ (omega arith)) c.is_four.ensures
