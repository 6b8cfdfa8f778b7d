-- Two rows of marks that have one in each lane together: no byte is of the first class before one of the second. Assumes nothing.
use Prim.Native.Nat.{ℕ, zero, suc, ◌+◌, ◌*◌, ◌<◌}
use native.Mathlib.Omega.{arith}
use mathlib.Core.Path.{◌≡◌, refl, sym, ap, ap₂, ◌∙◌, subst}
use mathlib.Core.List.{List}
use mathlib.Core.Bool.{Bool, true, false, cond, ◌&&◌}
use lib.ListN.{get_or}
use lib.Bits.{bit_or, or_block, or_lt, xor_zero_r}
use Rattle.runs.specs.Classes.{Ascii, inside}
use Rattle.runs.specs.Lanes.{ones, packed, others}
use Rattle.runs.proofs.Firsts.{lane}

-- the mark of one byte
abbrev mark : Bool → ℕ
mark t = cond t 0 0x80

mark_low : (t : Bool) → mark t < 256
mark_low true = omega arith
mark_low false = omega arith

module _ (s : List ℕ) (fits : (k : ℕ) → get_or s k 0 < 256) where
  -- a row of marks, lane by lane
  row : (es : List ℕ) → Ascii es → (n i : ℕ) → others (suc n) es (packed (suc n) s i) ≡ others n es (packed n s (i + 1)) * 256 + mark (inside es (get_or s i 0))
  row es a n i =
      sym (xor_zero_r (others (suc n) es (packed (suc n) s i))) ∙ lane false es a s fits n i
      ∙ ap (λ (m : ℕ). m * 256 + mark (inside es (get_or s i 0))) (xor_zero_r (others n es (packed n s (i + 1))))

  module _ (e f : List ℕ) (a : Ascii e) (b : Ascii f) where
    abbrev both : ℕ → ℕ → ℕ
    both n i = bit_or (others n e (packed n s i)) (others n f (packed n s (i + 1)))

    -- one lane more
    step : (n i : ℕ) → both (suc n) i ≡ both n (i + 1) * 256 + bit_or (mark (inside e (get_or s i 0))) (mark (inside f (get_or s (i + 1) 0)))
    step n i =
        ap₂ bit_or (row e a n i) (row f b n (i + 1))
        ∙ or_block 8 (others n e (packed n s (i + 1))) (others n f (packed n s (i + 1 + 1))) (mark (inside e (get_or s i 0))) (mark (inside f (get_or s (i + 1) 0))) (mark_low (inside e (get_or s i 0))) (mark_low (inside f (get_or s (i + 1) 0)))

    lane_marked : (x y : Bool) → bit_or (mark x) (mark y) ≡ 0x80 → (x && y) ≡ false
    lane_marked true true z = absurd (omega (arith, z))
    lane_marked true false z = refl
    lane_marked false y z = refl

    pub unpaired : (n i : ℕ) → both n i ≡ 0x80 * ones n → (k : ℕ) → k < n → (inside e (get_or s (i + k) 0) && inside f (get_or s (i + 1 + k) 0)) ≡ false
    unfolding ones
    unpaired zero i z k h = absurd (omega arith)
    unpaired (suc n) i z k h =
        let x = inside e (get_or s i 0) in
        let y = inside f (get_or s (i + 1) 0) in
        let l = or_lt 8 (mark x) (mark y) (mark_low x) (mark_low y) in
        let w = sym (step n i) ∙ z in
        let u : both n (i + 1) ≡ 0x80 * ones n = omega (arith, w, l) in
        let v : bit_or (mark x) (mark y) ≡ 0x80 = omega (arith, w, l) in
        go k h v (λ k l. unpaired n (i + 1) u k l)
      where
        go : (k : ℕ) → k < suc n → bit_or (mark (inside e (get_or s i 0))) (mark (inside f (get_or s (i + 1) 0))) ≡ 0x80 → ((k : ℕ) → k < n → (inside e (get_or s (i + 1 + k) 0) && inside f (get_or s (i + 1 + 1 + k) 0)) ≡ false) → (inside e (get_or s (i + k) 0) && inside f (get_or s (i + 1 + k) 0)) ≡ false
        go zero h v ih =
            let p : i ≡ i + 0 = omega arith in
            let q : i + 1 ≡ i + 1 + 0 = omega arith in
            subst (λ (m : ℕ). (inside e (get_or s m 0) && inside f (get_or s (i + 1 + 0) 0)) ≡ false) p (subst (λ (m : ℕ). (inside e (get_or s i 0) && inside f (get_or s m 0)) ≡ false) q (lane_marked (inside e (get_or s i 0)) (inside f (get_or s (i + 1) 0)) v))
        go (suc k) h v ih =
            let p : i + 1 + k ≡ i + suc k = omega arith in
            let q : i + 1 + 1 + k ≡ i + 1 + suc k = omega arith in
            subst (λ (m : ℕ). (inside e (get_or s m 0) && inside f (get_or s (i + 1 + suc k) 0)) ≡ false) p (subst (λ (m : ℕ). (inside e (get_or s (i + 1 + k) 0) && inside f (get_or s m 0)) ≡ false) q (ih k (omega arith)))
