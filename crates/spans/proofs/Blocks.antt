-- What the bytes of a block add to the sums, by the least and the greatest of them. Assumes nothing.
use Prim.Native.Nat.{ℕ, zero, suc, ◌+◌, ◌-◌, ◌*◌, ◌≤◌, ◌<◌}
use mathlib.Core.Path.{◌≡◌, refl, sym, ap, ◌∙◌}
use mathlib.Core.List.{List}
use mathlib.Core.Logic.{◌⊎◌, inl, inr}
use mathlib.Core.Bool.{Bool, true, false}
use native.Mathlib.Omega.{arith}
use native.Mathlib.Decide.{dec_lt}
use lib.ListN.{length, get_or}
use borrow.Author.Tests.{ne_eqb}
use Rattle.rules.specs.Characters.{line_feed, carriage_return}
use Rattle.rules.specs.Places.{ends_line}
use Rattle.spans.specs.Sums.{bit, between, end_at, surplus_at, marked, mark_at}
use Rattle.spans.specs.declared.places.Mark.{Mark}
use Rattle.spans.specs.declared.places.Mark.TheVariants.{End, Lead, Two, Three, Four}
use Rattle.spans.proofs.Sums.{sum_zero, sum_same, sum_even, sum_twice, sum_most, sum_start, sum_more}
use Rattle.spans.proofs.Surplus.{bit_most, surplus_most, surplus_low, surplus_two, surplus_three, surplus_four, surplus_none, surplus_next}

-- The surplus, by the greatest.
module _ (s : List ℕ) (i j : ℕ) (h : j ≤ length s) where
  abbrev Below : ℕ → Type 0
  Below n = (k : ℕ) → i ≤ k → k < j → get_or s k 0 < n

  abbrev marks : Mark → ℕ
  marks m = between (mark_at m s) i j

  pub block_low : i ≤ j → Below 0xC2 → between (surplus_at s) i j ≡ 0
  block_low o p = sum_zero (surplus_at s) i j o (λ k l u. surplus_low s k (omega arith) (p k l u))

  pub block_two : Below 0xE0 → between (surplus_at s) i j ≡ marks Two
  block_two p = sum_same (surplus_at s) i (mark_at Two s) j (λ k l u. surplus_two s k (omega arith) (p k l u))

  -- Where each lead has a mark that gives it a second byte and a third
  module _ (m : Mark) (has : (k : ℕ) → i ≤ k → k < j → marked m (get_or s k 0) (get_or s (k + 1) 0) (get_or s (k + 2) 0) ≡ true → (surplus_at s k ≡ 2) × (mark_at Lead s k ≡ 1)) where
    fewer : (k : ℕ) → i ≤ k → k < j → mark_at m s k ≤ mark_at Lead s k
    fewer k l u = go (marked m (get_or s k 0) (get_or s (k + 1) 0) (get_or s (k + 2) 0)) refl
      where
        go : (t : Bool) → marked m (get_or s k 0) (get_or s (k + 1) 0) (get_or s (k + 2) 0) ≡ t → mark_at m s k ≤ mark_at Lead s k
        go true e = omega (arith, ap bit e, (has k l u e).1)
        go false e = omega (arith, ap bit e)

    all_twice : marks m ≡ marks Lead → between (surplus_at s) i j ≡ 2 * marks Lead
    all_twice e =
        sum_same (surplus_at s) i (λ k. 2 * mark_at Lead s k) j
        (λ k l u. each k l u (marked m (get_or s k 0) (get_or s (k + 1) 0) (get_or s (k + 2) 0)) refl (sum_even (mark_at m s) (mark_at Lead s) i j fewer e k l u))
        ∙ sum_twice (mark_at Lead s) i j
      where
        each : (k : ℕ) → i ≤ k → k < j → (t : Bool) → marked m (get_or s k 0) (get_or s (k + 1) 0) (get_or s (k + 2) 0) ≡ t → mark_at m s k ≡ mark_at Lead s k → surplus_at s k ≡ 2 * mark_at Lead s k
        each k l u true e q = let p = has k l u e in omega arith
        each k l u false e q = omega (arith, q, ap bit e, surplus_none s k (omega arith) (sym q ∙ ap bit e))

  pub block_three : Below 0xF0 → marks Three ≡ marks Lead → between (surplus_at s) i j ≡ 2 * marks Lead
  block_three p = all_twice Three (λ k l u. surplus_three s k (omega arith) (p k l u))

  pub block_four : marks Four ≡ marks Lead → between (surplus_at s) i j ≡ 2 * marks Lead
  block_four = all_twice Four (λ k l u. surplus_four s k (omega arith))

  pub block_most : i ≤ j → between (surplus_at s) i j ≤ 2 * (j - i)
  block_most o = sum_most (surplus_at s) i 2 j o (λ k l u. surplus_most s k (omega arith))

-- One a byte, and one more before a byte that adds nothing: no two bytes in a row add.
module _ (s : List ℕ) (i : ℕ) where
  abbrev added : ℕ → ℕ
  added k = between (surplus_at s) i (i + k)

  few : (k : ℕ) → i + k < length s → (added k ≤ k) ⊎ ((added k ≤ k + 1) × (surplus_at s (i + k) ≡ 0))
  few zero h = inl (omega (arith, sum_start (surplus_at s) i))
  few (suc k) h = go (few k (omega arith)) (dec_lt (surplus_at s (i + k)) 2)
    where
      next : added (suc k) ≡ added k + surplus_at s (i + k)
      next = let e : i + suc k ≡ i + (k + 1) = omega arith in ap (between (surplus_at s) i) e ∙ sum_more (surplus_at s) i k

      go : (added k ≤ k) ⊎ ((added k ≤ k + 1) × (surplus_at s (i + k) ≡ 0)) → Dec (surplus_at s (i + k) < 2)
          → (added (suc k) ≤ suc k) ⊎ ((added (suc k) ≤ suc k + 1) × (surplus_at s (i + suc k) ≡ 0))
      go (inr p) d = inl (omega (arith, next, p))
      go (inl p) (yes d) = inl (omega (arith, next))
      go (inl p) (no d) =
          let e : i + suc k ≡ (i + k) + 1 = omega arith in
          inr (omega (arith, next, surplus_most s (i + k) (omega arith)), ap (surplus_at s) e ∙ surplus_next s (i + k) (omega arith) (omega arith))

  pub block_few : (k : ℕ) → i + k < length s → added k ≤ k + 1
  block_few k h = go (few k h)
    where
      go : (added k ≤ k) ⊎ ((added k ≤ k + 1) × (surplus_at s (i + k) ≡ 0)) → added k ≤ k + 1
      go (inl p) = omega arith
      go (inr p) = p.0

-- Line ends are a mark of their own, at most one a byte,
pub end_marks : (s : List ℕ) (i j : ℕ) → between (mark_at End s) i j ≡ between (end_at s) i j
unfolding marked
end_marks s i j = refl

pub ends_most : (s : List ℕ) (i j : ℕ) → i ≤ j → between (end_at s) i j ≤ j - i
ends_most s i j h = omega (arith, sum_most (end_at s) i 1 j h (λ k l u. bit_most (ends_line (get_or s k 0) (get_or s (k + 1) 0))))

-- and none where no byte is as low as CR.
pub ends_high : (s : List ℕ) (i j : ℕ) → i ≤ j → ((k : ℕ) → i ≤ k → k < j → carriage_return < get_or s k 0) → between (end_at s) i j ≡ 0
ends_high s i j h p =
    sum_zero (end_at s) i j h (λ k l u.
    let m = p k l u in
    rw (ne_eqb (get_or s k 0) line_feed (λ e. omega arith), ne_eqb (get_or s k 0) carriage_return (λ e. omega arith)))
