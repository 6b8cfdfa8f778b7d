-- The lowest bit of a set, and the set without it. Assumes nothing.
use Prim.Native.Nat.{ℕ, zero, suc, ◌+◌, ◌-◌, ◌*◌, ◌/◌, ◌%◌, ◌≤◌, ◌<◌}
use native.Mathlib.Omega.{arith}
use native.Mathlib.Nat.{add-zero}
use mathlib.Core.Path.{◌≡◌, refl, sym, ap, ◌∙◌, subst}
use mathlib.Core.Bool.{Bool, true, false, cond}
use lib.Count.{count_trailing_zeros, under}
use lib.Bits.{bit_and, and_block, and_self}
use Rattle.blocks.specs.Sets.{set}
use Rattle.blocks.proofs.Sets.{set_same, set_split}

even : (k n : ℕ) → count_trailing_zeros (suc k) (n * 2 + 0) ≡ suc (count_trailing_zeros k n)
unfolding count_trailing_zeros
even k n =
    let z : (n * 2 + 0) % 2 ≡ 0 = omega arith in
    let h : (n * 2 + 0) / 2 ≡ n = omega arith in
    ap (λ (d : ℕ). under d (count_trailing_zeros k ((n * 2 + 0) / 2))) z ∙ ap (λ (m : ℕ). suc (count_trailing_zeros k m)) h

odd : (k n : ℕ) → count_trailing_zeros (suc k) (n * 2 + 1) ≡ 0
unfolding count_trailing_zeros
odd k n = let z : (n * 2 + 1) % 2 ≡ 1 = omega arith in ap (λ (d : ℕ). under d (count_trailing_zeros k ((n * 2 + 1) / 2))) z

-- of n offsets from p on, the z-th is the first of which f holds; where there is none, the set m is empty
pub record First (f : ℕ → Bool) (n p z m : ℕ) : Type 0 where
  pub upto : z ≤ n
  pub none : (k : ℕ) → k < z → f (p + k) ≡ false
  pub some : z < n → f (p + z) ≡ true
  pub full : z ≡ n → m ≡ 0

module _ (f : ℕ → Bool) where
  one_more : (n p z m : ℕ) → f p ≡ false → First f n (p + 1) z m → First f (suc n) p (suc z) (m * 2 + 0)
  one_more n p z m e r =
      record {
        upto = let u = r.upto in omega arith;
        none = go;
        some = λ h. subst (λ (k : ℕ). f k ≡ true) (omega arith) (r.some (omega arith));
        full = λ h. let x = r.full (omega arith) in omega arith;
      }
    where
      go : (k : ℕ) → k < suc z → f (p + k) ≡ false
      go zero h = ap f (add-zero p) ∙ e
      go (suc k) h = subst (λ (k : ℕ). f k ≡ false) (omega arith) (r.none k (omega arith))

  at_once : (n p m : ℕ) → f p ≡ true → First f (suc n) p 0 m
  at_once n p m e = record { upto = omega arith; none = λ k h. absurd (omega arith); some = λ h. ap f (add-zero p) ∙ e; full = λ h. absurd (omega arith) }

  first_none : (p : ℕ) → First f 0 p (count_trailing_zeros 0 (set 0 f p)) (set 0 f p)
  unfolding count_trailing_zeros set
  first_none p = record { upto = omega arith; none = λ k h. absurd (omega arith); some = λ h. absurd (omega arith); full = λ h. refl }

  pub first : (n p : ℕ) → First f n p (count_trailing_zeros n (set n f p)) (set n f p)
  first zero p = first_none p
  first (suc n) p = go (first n (p + 1)) (f p) refl
    where
      go : First f n (p + 1) (count_trailing_zeros n (set n f (p + 1))) (set n f (p + 1)) → (t : Bool) → f p ≡ t → First f (suc n) p (count_trailing_zeros (suc n) (set (suc n) f p)) (set (suc n) f p)
      go r true e =
          let m = set_split n f p ∙ ap (λ (t : Bool). set n f (p + 1) * 2 + cond t 1 0) e in
          subst (λ (z : ℕ). First f (suc n) p z (set (suc n) f p)) (sym (ap (count_trailing_zeros (suc n)) m ∙ odd n (set n f (p + 1)))) (at_once n p (set (suc n) f p) e)
      go r false e =
          let m = set_split n f p ∙ ap (λ (t : Bool). set n f (p + 1) * 2 + cond t 1 0) e in
          subst (λ (z : ℕ). First f (suc n) p z (set (suc n) f p)) (sym (ap (count_trailing_zeros (suc n)) m ∙ even n (set n f (p + 1))))
          (subst (First f (suc n) p (suc (count_trailing_zeros n (set n f (p + 1))))) (sym m) (one_more n p (count_trailing_zeros n (set n f (p + 1))) (set n f (p + 1)) e r))

  pub some_bit : (n p z : ℕ) → z < n → f (p + z) ≡ true → 0 < set n f p
  unfolding set
  some_bit zero p z l e = absurd (omega arith)
  some_bit (suc n) p zero l e = let q : f p ≡ true = ap f (sym (add-zero p)) ∙ e in ap_lt (ap (λ (t : Bool). set n f (p + 1) * 2 + cond t 1 0) q)
    where
      ap_lt : {m : ℕ} → m ≡ set n f (p + 1) * 2 + 1 → 0 < m
      ap_lt q = omega (arith, q)
  some_bit (suc n) p (suc z) l e = let r = some_bit n (p + 1) z (omega arith) (subst (λ (k : ℕ). f k ≡ true) (omega arith) e) in omega (arith, r)

-- The set without its lowest bit.
module _ (f g : ℕ → Bool) where
  low : (h : ℕ) → bit_and (h * 2 + 1) (h * 2 + 1 - 1) ≡ h * 2 + 0
  low h =
      let x : h * 2 + 1 - 1 ≡ h * 2 + 0 = omega arith in
      ap (bit_and (h * 2 + 1)) x ∙ and_block 1 h h 1 0 (omega arith) (omega arith) ∙ ap (λ (n : ℕ). n * 2 + 0) (and_self h)

  high : (h m : ℕ) → 0 < h → bit_and h (h - 1) ≡ m → bit_and (h * 2 + 0) (h * 2 + 0 - 1) ≡ m * 2 + 0
  high h m l e =
      let x : h * 2 + 0 - 1 ≡ (h - 1) * 2 + 1 = omega arith in
      ap (bit_and (h * 2 + 0)) x ∙ and_block 1 h (h - 1) 0 1 (omega arith) (omega arith) ∙ ap (λ (n : ℕ). n * 2 + 0) e

  as_bit : (n : ℕ) (f : ℕ → Bool) (p : ℕ) (t : Bool) → f p ≡ t → set (suc n) f p ≡ set n f (p + 1) * 2 + cond t 1 0
  as_bit n f p t e = set_split n f p ∙ ap (λ (t : Bool). set n f (p + 1) * 2 + cond t 1 0) e

  pub cleared : (n p z : ℕ) → z < n → ((k : ℕ) → k < z → f (p + k) ≡ false) → f (p + z) ≡ true → ((k : ℕ) → k ≤ z → g (p + k) ≡ false) → ((k : ℕ) → z < k → k < n → g (p + k) ≡ f (p + k)) → bit_and (set n f p) (set n f p - 1) ≡ set n g p
  cleared zero p z l a b c d = absurd (omega arith)
  cleared (suc n) p zero l a b c d =
      let fs = as_bit n f p true (ap f (sym (add-zero p)) ∙ b) in
      let gs = as_bit n g p false (ap g (sym (add-zero p)) ∙ c 0 (omega arith)) in
      ap (λ (x : ℕ). bit_and x (x - 1)) fs ∙ low (set n f (p + 1))
      ∙ ap (λ (x : ℕ). x * 2 + 0) (set_same n f g (p + 1) (p + 1) (λ k h. let x : p + suc k ≡ p + 1 + k = omega arith in ap f (sym x) ∙ sym (d (suc k) (omega arith) (omega arith)) ∙ ap g x))
      ∙ sym gs
  cleared (suc n) p (suc z) l a b c d =
      let fs = as_bit n f p false (ap f (sym (add-zero p)) ∙ a 0 (omega arith)) in
      let gs = as_bit n g p false (ap g (sym (add-zero p)) ∙ c 0 (omega arith)) in
      let q : f (p + 1 + z) ≡ true = subst (λ (k : ℕ). f k ≡ true) (omega arith) b in
      ap (λ (x : ℕ). bit_and x (x - 1)) fs
      ∙ high (set n f (p + 1)) (set n g (p + 1)) (some_bit f n (p + 1) z (omega arith) q)
      (cleared n (p + 1) z (omega arith)
      (λ k h. subst (λ (k : ℕ). f k ≡ false) (omega arith) (a (suc k) (omega arith)))
      q
      (λ k h. subst (λ (k : ℕ). g k ≡ false) (omega arith) (c (suc k) (omega arith)))
      (λ k h m. let x : p + suc k ≡ p + 1 + k = omega arith in ap g (sym x) ∙ d (suc k) (omega arith) (omega arith) ∙ ap f x))
      ∙ sym gs
