-- The first byte that does not pass, by the zeros below the lowest mark. Assumes nothing.
use Prim.Native.Nat.{ℕ, zero, suc, ◌+◌, ◌-◌, ◌*◌, ◌/◌, ◌%◌, ◌≤◌, ◌<◌}
use native.Mathlib.Omega.{arith}
use native.Mathlib.Nat.{add-zero}
use native.Mathlib.Decide.{dec_lt}
use mathlib.Core.Path.{◌≡◌, refl, sym, ap, ap₂, ◌∙◌, subst}
use mathlib.Core.List.{List}
use mathlib.Core.Bool.{Bool, true, false, cond}
use lib.ListN.{length, get_or}
use lib.Count.{count_trailing_zeros, under, trailing_of_zero}
use lib.Bits.{bit_and, bit_or, bit_xor, and_zero_r}
use Rattle.runs.specs.Classes.{Ascii, passes, Skips}
use Rattle.runs.specs.Lanes.{ones, packed, raised, marks}
use Rattle.runs.proofs.Lanes.{marks_lane, mark_is}

-- a zero more, and none
even : (k n : ℕ) → count_trailing_zeros (suc k) (n * 2) ≡ suc (count_trailing_zeros k n)
unfolding count_trailing_zeros
even k n =
    let z : n * 2 % 2 ≡ 0 = omega arith in
    let h : n * 2 / 2 ≡ n = omega arith in
    ap (λ (d : ℕ). under d (count_trailing_zeros k (n * 2 / 2))) z ∙ ap (λ (m : ℕ). suc (count_trailing_zeros k m)) h

odd : (k n : ℕ) → count_trailing_zeros (suc k) (n * 2 + 1) ≡ 0
unfolding count_trailing_zeros
odd k n = let z : (n * 2 + 1) % 2 ≡ 1 = omega arith in ap (λ (d : ℕ). under d (count_trailing_zeros k ((n * 2 + 1) / 2))) z

evens : (k n m : ℕ) → m ≡ n * 2 → count_trailing_zeros (suc k) m ≡ suc (count_trailing_zeros k n)
evens k n m e = ap (count_trailing_zeros (suc k)) e ∙ even k n

-- a byte without a mark, and one with it
abbrev eight_more : ℕ → ℕ
eight_more k = suc (suc (suc (suc (suc (suc (suc (suc k)))))))

unmarked : (k n : ℕ) → count_trailing_zeros (eight_more k) (n * 256) ≡ eight_more (count_trailing_zeros k n)
unmarked k n = evens (suc (suc (suc (suc (suc (suc (suc k))))))) (n * 128) (n * 256) (omega arith) ∙ ap suc (evens (suc (suc (suc (suc (suc (suc k)))))) (n * 64) (n * 128) (omega arith) ∙ ap suc (evens (suc (suc (suc (suc (suc k))))) (n * 32) (n * 64) (omega arith) ∙ ap suc (evens (suc (suc (suc (suc k)))) (n * 16) (n * 32) (omega arith) ∙ ap suc (evens (suc (suc (suc k))) (n * 8) (n * 16) (omega arith) ∙ ap suc (evens (suc (suc k)) (n * 4) (n * 8) (omega arith) ∙ ap suc (evens (suc k) (n * 2) (n * 4) (omega arith) ∙ ap suc (even k n)))))))

marked : (k n : ℕ) → count_trailing_zeros (eight_more k) (n * 256 + 0x80) ≡ 7
marked k n = evens (suc (suc (suc (suc (suc (suc (suc k))))))) (n * 128 + 64) (n * 256 + 128) (omega arith) ∙ ap suc (evens (suc (suc (suc (suc (suc (suc k)))))) (n * 64 + 32) (n * 128 + 64) (omega arith) ∙ ap suc (evens (suc (suc (suc (suc (suc k))))) (n * 32 + 16) (n * 64 + 32) (omega arith) ∙ ap suc (evens (suc (suc (suc (suc k)))) (n * 16 + 8) (n * 32 + 16) (omega arith) ∙ ap suc (evens (suc (suc (suc k))) (n * 8 + 4) (n * 16 + 8) (omega arith) ∙ ap suc (evens (suc (suc k)) (n * 4 + 2) (n * 8 + 4) (omega arith) ∙ ap suc (evens (suc k) (n * 2 + 1) (n * 4 + 2) (omega arith) ∙ ap suc (odd k n)))))))

no_bits : (m : ℕ) → count_trailing_zeros 0 m / 8 ≡ 0
unfolding count_trailing_zeros
no_bits m = refl

-- A loop that has come from i to j over bytes that pass.
abbrev pub Over : Bool → List ℕ → List ℕ → ℕ → ℕ → Type 0
Over out es s i j = (i ≤ j) × (j ≤ length s) × ((k : ℕ) → i ≤ k → k < j → passes out es (get_or s k 0) ≡ true)

module _ (out : Bool) (es : List ℕ) (a : Ascii es) (s : List ℕ) (fits : (k : ℕ) → get_or s k 0 < 256) where
  abbrev p : ℕ → Bool
  p k = passes out es (get_or s k 0)

  abbrev pub marks_at : ℕ → ℕ → ℕ
  marks_at n i = marks out n es (packed n s i)

  abbrev pub first_at : ℕ → ℕ → ℕ
  first_at n i = count_trailing_zeros (n * 8) (marks_at n i) / 8

  -- of n bytes from i on, the q-th is the first that does not pass; where there is none, no mark of m is set
  pub record First (n i q m : ℕ) : Type 0 where
    pub upto : q ≤ n
    pub pass : (k : ℕ) → k < q → p (i + k) ≡ true
    pub stop : q < n → p (i + q) ≡ false
    pub full : q ≡ n → m ≡ 0

  -- a byte that passes before the others, and one that does not
  one_more : (n i q m : ℕ) → p i ≡ true → First n (i + 1) q m → First (suc n) i (suc q) (m * 256)
  one_more n i q m e r =
      record {
        upto = let u = r.upto in omega arith;
        pass = go;
        stop = λ h. subst (λ (k : ℕ). p k ≡ false) (omega arith) (r.stop (omega arith));
        full = λ h. let z = r.full (omega arith) in omega arith;
      }
    where
      go : (k : ℕ) → k < suc q → p (i + k) ≡ true
      go zero h = subst (λ (k : ℕ). p k ≡ true) (sym (add-zero i)) e
      go (suc k) h = subst (λ (k : ℕ). p k ≡ true) (omega arith) (r.pass k (omega arith))

  at_once : (n i m : ℕ) → p i ≡ false → First (suc n) i 0 m
  at_once n i m e =
      record {
        upto = omega arith;
        pass = λ k h. absurd (omega arith);
        stop = λ h. subst (λ (k : ℕ). p k ≡ false) (sym (add-zero i)) e;
        full = λ h. absurd (omega arith);
      }

  pub lane : (n i : ℕ) → marks_at (suc n) i ≡ marks_at n (i + 1) * 256 + cond (p i) 0 0x80
  unfolding packed
  lane n i =
      marks_lane es a out n (packed n s (i + 1)) (get_or s i 0) (fits i) ∙ ap (λ (b : ℕ). marks_at n (i + 1) * 256 + b) (mark_is es a (get_or s i 0) (fits i) out)

  pub none : (i : ℕ) → marks_at 0 i ≡ 0
  unfolding ones
  none i = ap (λ (n : ℕ). bit_xor n (cond out 0 0)) (and_zero_r (bit_or (bit_xor (raised 0 es (bit_and (packed 0 s i) 0)) 0) (packed 0 s i))) ∙ go out
    where
      go : (out : Bool) → bit_xor 0 (cond out 0 0) ≡ 0
      go true = refl
      go false = refl

  pub first : (n i : ℕ) → First n i (first_at n i) (marks_at n i)
  first zero i =
      subst (λ (x : ℕ). First 0 i x (marks_at 0 i)) (sym (no_bits (marks_at 0 i)))
      (record { upto = omega arith; pass = λ k h. absurd (omega arith); stop = λ h. absurd (omega arith); full = λ e. none i })
  first (suc n) i = go (first n (i + 1)) (p i) refl
    where
      bits : suc n * 8 ≡ eight_more (n * 8)
      bits = omega arith

      go : First n (i + 1) (first_at n (i + 1)) (marks_at n (i + 1)) → (t : Bool) → p i ≡ t → First (suc n) i (first_at (suc n) i) (marks_at (suc n) i)
      go rest true e =
          let m : marks_at (suc n) i ≡ marks_at n (i + 1) * 256 = lane n i ∙ ap (λ (t : Bool). marks_at n (i + 1) * 256 + cond t 0 0x80) e ∙ add-zero (marks_at n (i + 1) * 256) in
          let z : count_trailing_zeros (suc n * 8) (marks_at (suc n) i) ≡ eight_more (count_trailing_zeros (n * 8) (marks_at n (i + 1))) =
          ap₂ count_trailing_zeros bits m ∙ unmarked (n * 8) (marks_at n (i + 1)) in
          let q : first_at (suc n) i ≡ suc (first_at n (i + 1)) = omega (arith, z) in
          subst (λ (x : ℕ). First (suc n) i x (marks_at (suc n) i)) (sym q) (subst (First (suc n) i (suc (first_at n (i + 1)))) (sym m) (one_more n i (first_at n (i + 1)) (marks_at n (i + 1)) e rest))
      go rest false e =
          let m : marks_at (suc n) i ≡ marks_at n (i + 1) * 256 + 0x80 = lane n i ∙ ap (λ (t : Bool). marks_at n (i + 1) * 256 + cond t 0 0x80) e in
          let z : count_trailing_zeros (suc n * 8) (marks_at (suc n) i) ≡ 7 = ap₂ count_trailing_zeros bits m ∙ marked (n * 8) (marks_at n (i + 1)) in
          let q : first_at (suc n) i ≡ 0 = ap (λ (t : ℕ). t / 8) z in
          subst (λ (x : ℕ). First (suc n) i x (marks_at (suc n) i)) (sym q) (at_once n i (marks_at (suc n) i) e)

  module _ (i j : ℕ) (o : Over out es s i j) (h : j + 8 ≤ length s) where
    passed : (q : ℕ) → q ≤ 8 → ((k : ℕ) → k < q → p (j + k) ≡ true) → Over out es s i (j + q)
    passed q l f = (let u = o.0 in omega arith, omega arith, go)
      where
        go : (k : ℕ) → i ≤ k → k < j + q → p k ≡ true
        go k a b = by (dec_lt k j)
          where
            by : Dec (k < j) → p k ≡ true
            by (yes c) = o.2 k a c
            by (no c) = let e : j + (k - j) ≡ k = omega arith in subst (λ (x : ℕ). p x ≡ true) e (f (k - j) (omega arith))

    -- a mark is set
    ends : (q m : ℕ) → First 8 j q m → (m ≡ 0 → ⊥) → Skips (passes out es) s i (j + q)
    ends q m f n = go (dec_lt q 8)
      where
        go : Dec (q < 8) → Skips (passes out es) s i (j + q)
        go (yes l) = let r = passed q f.upto f.pass in record { from = r.0; upto = r.1; pass = r.2; stop = λ x. f.stop l }
        go (no l) = let u = f.upto in absurd (n (f.full (omega arith)))

    pub over_ends : (m : ℕ) → m ≡ marks_at 8 j → (m ≡ 0 → ⊥) → Skips (passes out es) s i (j + count_trailing_zeros 64 m / 8)
    over_ends m e n = subst (λ (m : ℕ). Skips (passes out es) s i (j + count_trailing_zeros 64 m / 8)) (sym e) (ends (first_at 8 j) (marks_at 8 j) (first 8 j) (λ z. n (e ∙ z)))

    -- none is
    all : (q m : ℕ) → First 8 j q m → q ≡ 8 → Over out es s i (j + 8)
    all q m f e = passed 8 (omega arith) (λ k l. f.pass k (omega arith))

    pub over_more : (m : ℕ) → m ≡ marks_at 8 j → m ≡ 0 → Over out es s i (j + 8)
    over_more m e z = all (first_at 8 j) (marks_at 8 j) (first 8 j) (ap (λ (m : ℕ). count_trailing_zeros 64 m / 8) (sym e ∙ z) ∙ ap (λ (t : ℕ). t / 8) (trailing_of_zero 64))

  pub over_all : (i j : ℕ) → Over out es s i j → length s - j < 8 → Skips (passes out es) s i j
  over_all i j o h = record { from = o.0; upto = o.1; pass = o.2; stop = λ l. absurd (omega arith) }
