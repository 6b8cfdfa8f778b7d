-- Words of bits, and the offsets that they mark. Assumes nothing.
use Rattle.std.proofs.Common.{◌≡◌, ℕ, zero, suc, ◌+◌, ◌-◌, ◌*◌, ◌/◌, ◌%◌, ◌^◌, ◌<◌, ◌≤◌, Bool, true, false, cond, eqb, ltb, leb, List, length, get_or, replicate, sym, refl, ap, ◌∙◌, subst, arith, ltb-true}
use native.Mathlib.Nat.{pow-succ', pow-le-pow_right, div-div-eq-div-mul, zero-div}
use Rattle.rules.proofs.Tests.{clash, eqb-true}
use Rattle.ahead.specs.Marks.{Lone, bit, Marked}

-- no bit of 0 is set
bit_none : (k : ℕ) → bit 0 k ≡ false
bit_none k = ap (λ (n : ℕ). eqb (n % 2) 1) (zero-div (2 ^ k))

module _ (w f : ℕ) (h : f ≤ 1) where
  bit-first : bit (w * 2 + f) 0 ≡ eqb f 1
  bit-first = let e : (w * 2 + f) / 1 % 2 ≡ f = omega arith in ap (λ (n : ℕ). eqb n 1) e

  bit_next : (k : ℕ) → bit (w * 2 + f) (suc k) ≡ bit w k
  bit_next k =
      let e : (w * 2 + f) / 2 ≡ w = omega arith in
      ap (λ (n : ℕ). eqb (n % 2) 1) (ap (λ (n : ℕ). (w * 2 + f) / n) (pow-succ' 2 k) ∙ sym (div-div-eq-div-mul (w * 2 + f) 2 (2 ^ k)) ∙ ap (λ (n : ℕ). n / 2 ^ k) e)

-- A word that is made from its last bit to its first: bit j stands for the offset `at + j`.
module _ (s : List ℕ) (at w f : ℕ) (h : f ≤ 1) (first : f ≡ 1 → Lone s at) (rest : (j : ℕ) → bit w j ≡ true → Lone s (at + 1 + j)) where
  pub word_more : (j : ℕ) → bit (w * 2 + f) j ≡ true → Lone s (at + j)
  word_more zero e = let z : at + 0 ≡ at = omega arith in subst (Lone s) (sym z) (first (eqb-true (sym (bit-first w f h) ∙ e)))
  word_more (suc j) e = let z : at + 1 + j ≡ at + suc j = omega arith in subst (Lone s) z (rest j (sym (bit_next w f h j) ∙ e))

-- its size, as it grows
pub size_more : (w f k : ℕ) → f ≤ 1 → 0 < k → k ≤ 64 → w < 2 ^ (64 - k) → (w * 2 + f < 2 ^ (64 - (k - 1))) × (w * 2 + f < 2 ^ 64)
size_more w f k h l m e =
    let n : 64 - (k - 1) ≡ suc (64 - k) = omega arith in
    let p : 2 ^ (64 - (k - 1)) ≡ 2 * 2 ^ (64 - k) = ap (λ (x : ℕ). 2 ^ x) n ∙ pow-succ' 2 (64 - k) in
    let q : 2 ^ (64 - k) ≤ 2 ^ 63 = pow-le-pow_right {n = 2} (omega arith) {i = 64 - k} {j = 63} (omega arith) in
    (omega arith, omega arith)

-- nothing is marked at first
none_marked : (s : List ℕ) (from : ℕ) (words : List ℕ) → ((m : ℕ) → get_or words m 0 ≡ 0) → Marked s from 0 words
none_marked s from words z at h e = go (ltb at 0) (leb (length words) ((at - 0) / 64)) refl e
  where
    go : (x y : Bool) → ltb at 0 ≡ x → cond x true (cond y false (bit (get_or words ((at - 0) / 64) 0) ((at - 0) % 64))) ≡ true → Lone s at
    go true y p e = let l = ltb-true at 0 p in absurd (omega arith)
    go false true p e = clash e refl
    go false false p e = clash e (ap (λ (n : ℕ). bit n ((at - 0) % 64)) (z ((at - 0) / 64)) ∙ bit_none ((at - 0) % 64))

-- before the first look
pub marked_none : (s : List ℕ) (n : ℕ) → Marked s 0 0 (replicate n 0)
marked_none s n = none_marked s 0 (replicate n 0) (zeros n)
  where
    zeros : (n m : ℕ) → get_or (replicate {A = ℕ} n 0) m 0 ≡ 0
    zeros zero m = refl
    zeros (suc n) zero = refl
    zeros (suc n) (suc m) = zeros n m

-- further on
pub marked_later : (s : List ℕ) (from from' until : ℕ) (words : List ℕ) → from ≤ from' → Marked s from until words → Marked s from' until words
marked_later s from from' until words h m at k e = m at (omega arith) e
