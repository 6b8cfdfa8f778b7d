-- The packed listings are their plans, carried out in a packed list; so a listing in records has the same refusals, in the same order, and the same tokens.
-- Assumes nothing.
use Prim.Native.Nat.{ℕ}
use mathlib.Core.Path.{◌≡◌, refl}
use mathlib.Core.List.{List}
use mathlib.Core.Bool.{Bool, true, false, not, cond}
use Rattle.rules.specs.Utf8.{valid}
use Rattle.rules.specs.Answers.{too_long, no_mode, listing, listing_up_to}
use Rattle.rules.specs.Records.{Plan, whole_plan, up_to_plan, packed_by}

-- three tests, one after the other
tests : {A B : Type 0} (f : A → B) (a b c : Bool) (w x y z : A) → cond a (f w) (cond b (f x) (cond c (f y) (f z))) ≡ f (cond a w (cond b x (cond c y z)))
tests f true b c w x y z = refl
tests f false true c w x y z = refl
tests f false false true w x y z = refl
tests f false false false w x y z = refl

pub whole_planned : (mode : ℕ) (text list : List ℕ) → listing mode text list ≡ packed_by (whole_plan mode text) list
unfolding listing whole_plan
whole_planned mode text list = tests (λ (p : Plan). packed_by p list) (no_mode mode) (too_long text) (not (valid text)) _ _ _ _

pub up_to_planned : (mode position : ℕ) (text list : List ℕ) → listing_up_to mode position text list ≡ packed_by (up_to_plan mode position text) list
unfolding listing_up_to up_to_plan
up_to_planned mode position text list = tests (λ (p : Plan). packed_by p list) (no_mode mode) (too_long text) (not (valid text)) _ _ _ _
