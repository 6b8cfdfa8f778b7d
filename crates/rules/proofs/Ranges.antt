-- Laws of any table of ranges: one that rises is in order at every two places, and a number is in a range where an odd number of bounds is at most it.
-- Assumes nothing.
use Prim.Native.Nat.{ℕ, zero, suc, ◌-◌, ◌%◌, ◌≤◌, ◌<◌, zero-le, suc-le-suc}
use mathlib.Core.Path.{◌≡◌, refl, sym, ◌∙◌}
use mathlib.Core.List.{List, [], ◌∷◌}
use mathlib.Core.Bool.{Bool, true, and-false}
use mathlib.Core.Logic.{⊎_elim}
use native.Mathlib.Nat.{not-suc-le-zero, le_of_suc-le-suc, eq-or-lt_of_le}
use native.Mathlib.Omega.{arith}
use borrow.Author.Tests.{ltb-true, lt-ltb, le-ltb, le-leb, lt-leb}
use lib.ListN.{length, get_or}
use lib.Dec.{ltb, eqb}
use Rattle.rules.specs.Classes.{in_ranges, rises}
use Rattle.rules.proofs.Tests.{and_both}

rises_rest : (a : ℕ) (t : List ℕ) → rises (a ∷ t) ≡ true → rises t ≡ true
unfolding rises
rises_rest a [] h = refl
rises_rest a (b ∷ t) h = (and_both (ltb a b) (rises (b ∷ t)) h).1

first_least : (a : ℕ) (t : List ℕ) → rises (a ∷ t) ≡ true → (k : ℕ) → k < length t → a < get_or t k 0
unfolding rises
first_least a [] h k l = absurd (not-suc-le-zero l)
first_least a (b ∷ t) h zero l = ltb-true a b (and_both (ltb a b) (rises (b ∷ t)) h).0
first_least a (b ∷ t) h (suc k) l =
    let f = and_both (ltb a b) (rises (b ∷ t)) h in
    omega (arith, ltb-true a b f.0, first_least b t f.1 k (le_of_suc-le-suc l))

-- "They rise and never overlap", at any two places of a table that passes the test.
pub apart : (t : List ℕ) → rises t ≡ true → (p q : ℕ) → p < q → q < length t → get_or t p 0 < get_or t q 0
apart [] h p q pq ql = absurd (not-suc-le-zero ql)
apart (a ∷ t) h p zero pq ql = absurd (not-suc-le-zero pq)
apart (a ∷ t) h zero (suc q) pq ql = first_least a t h q (le_of_suc-le-suc ql)
apart (a ∷ t) h (suc p) (suc q) pq ql = apart t (rises_rest a t h) p q (le_of_suc-le-suc pq) (le_of_suc-le-suc ql)

pub in_order : (t : List ℕ) → rises t ≡ true → (p q : ℕ) → p ≤ q → q < length t → get_or t p 0 ≤ get_or t q 0
in_order t h p q pq ql =
    ⊎_elim (λ (e : p ≡ q). rw e (omega arith)) (λ l. omega (arith, apart t h p q l ql)) (eq-or-lt_of_le pq)

-- n of the numbers are at most c, and they stand first.
pub record Bound (t : List ℕ) (c n : ℕ) : Type 0 where
  pub inside : n ≤ length t
  pub below : (k : ℕ) → k < n → get_or t k 0 ≤ c
  pub above : (k : ℕ) → n ≤ k → k < length t → c < get_or t k 0

-- An odd number of bounds: past the start of a range, and not past its end.
unfoldable pub odd : ℕ → Bool
odd n = eqb (n % 2) 1

odd_rest : (n : ℕ) → odd (suc (suc n)) ≡ odd n
unfolding odd
odd_rest n = let e : suc (suc n) % 2 ≡ n % 2 = omega arith in rw e

bound_rest : {a b : ℕ} {t : List ℕ} {c m n : ℕ} → m ≡ n - 2 → Bound (a ∷ b ∷ t) c n → Bound t c m
bound_rest e h = record {
  inside = omega (arith, h.inside);
  below = λ k l. h.below (suc (suc k)) (omega arith);
  above = λ k l l'. h.above (suc (suc k)) (omega arith) (suc-le-suc (suc-le-suc l'));
}

pub parity : (t : List ℕ) (c n : ℕ) → Bound t c n → in_ranges t c ≡ odd n
unfolding in_ranges odd
parity [] c zero h = refl
parity [] c (suc n) h = absurd (not-suc-le-zero h.inside)
parity (a ∷ []) c zero h = lt-leb a c (h.above 0 zero-le (omega arith))
parity (a ∷ []) c (suc zero) h = le-leb a c (h.below 0 (omega arith))
parity (a ∷ []) c (suc (suc n)) h = absurd (not-suc-le-zero (le_of_suc-le-suc h.inside))
parity (a ∷ b ∷ t) c zero h = simp (lt-leb a c (h.above 0 zero-le (omega arith))) (parity t c 0 (bound_rest (omega arith) h))
parity (a ∷ b ∷ t) c (suc zero) h =
    simp (le-leb a c (h.below 0 (omega arith)), lt-ltb c b (h.above 1 (omega arith) (omega arith)))
parity (a ∷ b ∷ t) c (suc (suc n)) h =
    simp (le-ltb c b (h.below 1 (omega arith)), and-false) (parity t c n (bound_rest (omega arith) h) ∙ sym (odd_rest n))
