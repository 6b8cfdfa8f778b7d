-- Bytes hidden in place. Assumes nothing.
use Prim.Native.Nat.{ℕ, zero, suc, ◌+◌, ◌-◌, ◌≤◌, ◌<◌}
use native.Mathlib.Omega.{arith}
use mathlib.Core.Path.{◌≡◌, refl, sym, ap, ap₂, ◌∙◌}
use mathlib.Core.List.{List, ◌∷◌, ◌++◌, append_assoc}
use lib.ListN.{length, get_or, take, drop, set, replicate, length-append, length-take, length-replicate, take-append-drop}
use lib.Seq.{drop-cons, set_at, take-append-add, drop-append-add, take-append-le, drop-append-le}
use Rattle.rules.specs.Limits.{mask_byte}
use Rattle.rules.specs.Masking.{hide}

pub hide_none : (i : ℕ) (bs : List ℕ) → hide i i bs ≡ bs
hide_none i bs = let e : i - i ≡ 0 = omega arith in rw e (take-append-drop i bs)

more : (n : ℕ) (t : List ℕ) → replicate n mask_byte ++ (mask_byte ∷ t) ≡ replicate (suc n) mask_byte ++ t
more zero t = refl
more (suc n) t = ap (λ (l : List ℕ). mask_byte ∷ l) (more n t)

module _ (from i : ℕ) (bs : List ℕ) (h : from ≤ i) (k : i < length bs) where
  -- what comes before byte i
  before : List ℕ
  before = take from bs ++ replicate (i - from) mask_byte

  length_before : length before ≡ i
  unfolding before
  length_before = simp (length-append, length-take, length-replicate) (omega arith)

  pub hide_more : set (hide from i bs) i mask_byte ≡ hide from (i + 1) bs
  unfolding before
  hide_more =
      let n : suc (i - from) ≡ i + 1 - from = omega arith in
      let m : suc i ≡ i + 1 = omega arith in
      ap (λ (l : List ℕ). set l i mask_byte) (ap (λ (l : List ℕ). take from bs ++ (replicate (i - from) mask_byte ++ l)) (drop-cons bs i 0 k) ∙ sym (append_assoc (take from bs) (replicate (i - from) mask_byte) _))
      ∙ set_at before (get_or bs i 0) (drop (suc i) bs) mask_byte i length_before
      ∙ append_assoc (take from bs) (replicate (i - from) mask_byte) _
      ∙ ap (λ (l : List ℕ). take from bs ++ l) (more (i - from) (drop (suc i) bs))
      ∙ ap₂ (λ (x y : ℕ). take from bs ++ (replicate x mask_byte ++ drop y bs)) n m

-- bytes hidden in the middle of others
module _ (p t q : List ℕ) (from to : ℕ) (h : from ≤ to) (k : to ≤ length t) where
  hide-back : (x : List ℕ) → hide (length p + from) (length p + to) (p ++ x) ≡ p ++ hide from to x
  hide-back x =
      let n : length p + to - (length p + from) ≡ to - from = omega arith in
      rw (n, take-append-add p x from, drop-append-add p x to) (append_assoc p (take from x) _)

  hide-front : hide from to (t ++ q) ≡ hide from to t ++ q
  hide-front =
      rw (take-append-le from t q (omega arith), drop-append-le to t q k)
      (sym (append_assoc (take from t) (replicate (to - from) mask_byte ++ drop to t) q ∙ ap (λ (l : List ℕ). take from t ++ l) (append_assoc (replicate (to - from) mask_byte) (drop to t) q)))

  pub hide-inside : (i : ℕ) → length p ≡ i → hide (i + from) (i + to) (p ++ (t ++ q)) ≡ p ++ (hide from to t ++ q)
  hide-inside i e = rw (sym e) (hide-back (t ++ q) ∙ ap (λ (l : List ℕ). p ++ l) hide-front)
