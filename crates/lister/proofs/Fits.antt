-- The tokens of a list that was stored lie within it. Assumes nothing.
use Prim.Native.Nat.{ℕ, ◌*◌, ◌≤◌}
use native.Mathlib.Omega.{arith}
use mathlib.Core.Path.{◌≡◌, refl, sym, ap, ◌∙◌}
use mathlib.Core.List.{List}
use mathlib.Core.Bool.{Bool, true, false, not, cond}
use lib.Dec.{ltb}
use lib.ListN.{length}
use borrow.Author.Tests.{ltb-false}
use Rattle.rules.specs.Utf8.{valid}
use Rattle.rules.specs.Limits.{token_bytes}
use Rattle.rules.specs.Tokens.{Token}
use Rattle.rules.specs.Listing.{whole_list, room}
use Rattle.rules.specs.Answers.{Done, TooLong, too_long, no_mode, Written, stored, too_long_list, listing}
use Rattle.rules.specs.Cases.{Answer, number_of, value_of, written}

abbrev Fits : List ℕ → Written → Type 0
Fits list w = w.number ≡ Done → w.value * token_bytes ≤ length list

either : (list : List ℕ) (b : Bool) (x y : Written) → (b ≡ true → Fits list x) → (b ≡ false → Fits list y) → Fits list (cond b x y)
either list true x y p q = p refl
either list false x y p q = q refl

fits_stored : (ts : List Token) (number : ℕ) (list : List ℕ) → Fits list (stored ts number list)
unfolding stored
fits_stored ts number list = either list (ltb (room list) (length ts)) _ _ (λ e n. absurd (omega arith)) (λ e n. let h = ltb-false (room list) (length ts) e in omega arith)

fits_listing : (mode : ℕ) (text list : List ℕ) → Fits list (listing mode text list)
unfolding listing
fits_listing mode text list =
    either list (no_mode mode) _ _ (λ e n. absurd (omega arith))
    (λ e. either list (too_long text) _ _ (λ f. fits_stored too_long_list TooLong list)
    (λ f. either list (not (valid text)) _ _ (λ g n. absurd (omega arith)) (λ g. fits_stored (whole_list mode text) Done list)))

pub done_fits : (mode : ℕ) (text list list' : List ℕ) (a : Answer) → written a list' ≡ listing mode text list → number_of a ≡ 0 → value_of a * token_bytes ≤ length list
done_fits mode text list list' a e n =
    rw (ap (λ (w : Written). w.value) e) (fits_listing mode text list (sym (ap (λ (w : Written). w.number) e) ∙ n))
