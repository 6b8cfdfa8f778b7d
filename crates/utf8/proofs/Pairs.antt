-- Going on a byte at a time where no character is longer than two. Assumes nothing.
use Prim.Native.Nat.{ℕ, zero, suc, ◌+◌, ◌≤◌, ◌<◌}
use mathlib.Core.Path.{◌≡◌, refl, sym, ap, ◌∙◌}
use mathlib.Core.List.{List}
use mathlib.Core.Bool.{Bool, true, false, cond}
use native.Mathlib.Omega.{arith}
use borrow.Author.Tests.{le-leb, lt-leb, leb-false}
use lib.Dec.{leb}
use lib.ListN.{length, get_or, drop, get_or-eq_default}
use native.Mathlib.Decide.{dec_lt}
use Rattle.rules.specs.Utf8.{utf8_tail, well_formed}
use Rattle.rules.proofs.Tests.{cond_ind, clash}
use Rattle.rules.proofs.Decoding.{at_index, formed-two}
use Rattle.utf8.specs.Units.{Passes, after}
use Rattle.utf8.proofs.Passing.{pass_none, pass_on, pass_char, pass_first}

pub after-within : (n : ℕ) (s : List ℕ) (i : ℕ) → i + n ≤ length s → after n s i ≤ length s
after-within zero s i h = omega arith
after-within (suc n) s i h = cond_ind (λ (m : ℕ). m ≤ length s) (utf8_tail (get_or s i 0)) (after n s (i + 1)) i (λ e. after-within n s (i + 1) (omega arith)) (λ e. omega arith)

-- none is gone past where none stands
pub after_none : (n : ℕ) (s : List ℕ) (i : ℕ) → utf8_tail (get_or s i 0) ≡ false → after n s i ≡ i
after_none zero s i e = refl
after_none (suc n) s i e = ap (λ (t : Bool). cond t (after n s (i + 1)) i) e

-- a tail stands in the text
pub tail_inside : (s : List ℕ) (i : ℕ) → utf8_tail (get_or s i 0) ≡ true → i < length s
tail_inside s i e = go (dec_lt i (length s))
  where
    go : Dec (i < length s) → i < length s
    go (yes l) = l
    go (no l) =
        let d = get_or-eq_default s 0 (let m : length s ≤ i = omega arith in m) in
        absurd (clash (rw d at e) refl)

pub after_one : (n : ℕ) (s : List ℕ) (i : ℕ) → utf8_tail (get_or s i 0) ≡ true → after (suc n) s i ≡ after n s (i + 1)
after_one n s i e = ap (λ (t : Bool). cond t (after n s (i + 1)) i) e

-- n bytes, each of which lets the next one be passed
pub pass_bytes :
    (t : ℕ) (s : List ℕ) (i n : ℕ) → i + n + t ≤ length s → ((k : ℕ) → i ≤ k → k < i + n → Passes s (after t s k) (after t s (k + 1)))
    → Passes s (after t s i) (after t s (i + n))
pass_bytes t s i zero h f = let e : i + 0 ≡ i = omega arith in rw e (pass_none s (after t s i) (after-within t s i (omega arith)))
pass_bytes t s i (suc n) h f =
    let e : i + n + 1 ≡ i + suc n = omega arith in
    pass_on s _ _ _ (pass_bytes t s i n (omega arith) (λ k a b. f k a (omega arith))) (rw e at (f (i + n) (omega arith) (omega arith)))

module _ (s : List ℕ) (i : ℕ) where
  module _ (h : i + 1 < length s) where
    -- the first byte of two, and its tail
    pub pass_lead : 0xC2 ≤ get_or s i 0 → get_or s i 0 < 0xE0 → utf8_tail (get_or s (i + 1) 0) ≡ true → Passes s (after 1 s i) (after 1 s (i + 1))
    pass_lead l u tail =
        let lead : utf8_tail (get_or s i 0) ≡ false = rw (le-leb 0x80 (get_or s i 0) (omega arith), lt-leb (get_or s i 0) 0xBF (omega arith)) in
        let f : well_formed (drop i s) ≡ 2 = at_index s i ∙ formed-two _ _ _ _ l u ∙ ap (λ (t : Bool). cond t 2 0) tail in
        let n : i + 2 ≡ (i + 1) + 1 = omega arith in
        rw (lead, tail) (rw n at (pass_char s i i 2 (pass_none s i (omega arith)) (omega arith) (sym f) (λ z. omega arith)))

    -- a tail that is passed already, or a byte of ASCII
    pub pass_other : get_or s i 0 < 0xC0 → utf8_tail (get_or s (i + 1) 0) ≡ false → Passes s (after 1 s i) (after 1 s (i + 1))
    pass_other u none = go (leb 0x80 (get_or s i 0)) refl
      where
        go : (x : Bool) → leb 0x80 (get_or s i 0) ≡ x → Passes s (after 1 s i) (after 1 s (i + 1))
        go true e = rw (e, le-leb (get_or s i 0) 0xBF (omega arith), none) (pass_none s (i + 1) (omega arith))
        go false e = rw (e, none) (pass_first s i (omega arith) (leb-false 0x80 (get_or s i 0) e))
