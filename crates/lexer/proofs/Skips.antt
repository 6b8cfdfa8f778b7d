-- Runs that are skipped by eight bytes at a time. Assumes nothing.
use Prim.Native.Nat.{ℕ, zero, suc, ◌+◌, ◌-◌, ◌≤◌, ◌<◌}
use native.Mathlib.Omega.{arith}
use mathlib.Core.Path.{◌≡◌, sym, ◌∙◌, subst}
use mathlib.Core.List.{List}
use mathlib.Core.Bool.{Bool, true, false, not, ◌&&◌}
use lib.ListN.{length, get_or}
use lib.Dec.{eqb}
use borrow.Author.Tests.{not-true}
use Rattle.runs.specs.Classes.{Skips}
use Rattle.rules.proofs.Tests.{and_both}

-- said of a class by its edges, it holds of the class that has them
pub skips_as : (p q : ℕ → Bool) → ((b : ℕ) → p b ≡ q b) → (s : List ℕ) (i j : ℕ) → Skips p s i j → Skips q s i j
skips_as p q e s i j r =
    record { from = r.from; upto = r.upto; pass = λ k a b. sym (e (get_or s k 0)) ∙ r.pass k a b; stop = λ h. sym (e (get_or s j 0)) ∙ r.stop h }

-- nothing is skipped where the first byte does not pass
pub skips_none : (p : ℕ → Bool) (s : List ℕ) (i : ℕ) → i ≤ length s → p (get_or s i 0) ≡ false → Skips p s i i
skips_none p s i h e = record { from = omega arith; upto = h; pass = λ k a b. absurd (omega arith); stop = λ l. e }

-- what each byte that passes keeps, a skip keeps
pub over : (P : ℕ → Type 0) (p : ℕ → Bool) (s : List ℕ) (i j : ℕ) → ((k : ℕ) → k < length s → p (get_or s k 0) ≡ true → P k → P (k + 1)) → Skips p s i j → P i → P j
over P p s i j f r w = subst P (omega (arith, r.from)) (go (j - i) (omega (arith, r.from)))
  where
    go : (n : ℕ) → i + n ≤ j → P (i + n)
    go zero l = subst P (omega arith) w
    go (suc n) l = subst P (omega arith) (f (i + n) (omega (arith, r.upto)) (r.pass (i + n) (omega arith) (omega arith)) (go n (omega arith)))

-- a byte that is neither of two
pub neither : (x a b : ℕ) → (not (eqb x a) && not (eqb x b)) ≡ true → (eqb x a ≡ false) × (eqb x b ≡ false)
neither x a b e = let n = and_both (not (eqb x a)) (not (eqb x b)) e in (not-true (eqb x a) n.0, not-true (eqb x b) n.1)
