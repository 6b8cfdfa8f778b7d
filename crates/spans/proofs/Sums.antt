-- Sums over indices. Assumes nothing.
use Prim.Native.Nat.{ℕ, zero, suc, ◌+◌, ◌-◌, ◌*◌, ◌≤◌, ◌<◌}
use mathlib.Core.Path.{◌≡◌, refl, sym, ap, ◌∙◌}
use native.Mathlib.Omega.{arith}
use native.Mathlib.Decide.{dec_lt}
use Rattle.spans.specs.Sums.{sum_over, between}

module _ (f : ℕ → ℕ) (i : ℕ) where
  pub sum_none : between f i i ≡ 0
  unfolding sum_over
  sum_none = let e : i - i ≡ 0 = omega arith in ap (sum_over f i) e

  pub sum_next : (j : ℕ) → i ≤ j → between f i (j + 1) ≡ between f i j + f j
  unfolding sum_over
  sum_next j h =
      let e : (j + 1) - i ≡ suc (j - i) = omega arith in
      let g : i + (j - i) ≡ j = omega arith in
      ap (sum_over f i) e ∙ ap (λ (k : ℕ). sum_over f i (j - i) + f k) g

  join : (m n : ℕ) → sum_over f i (m + n) ≡ sum_over f i m + sum_over f (i + m) n
  unfolding sum_over
  join m zero = let e : m + 0 ≡ m = omega arith in omega (arith, ap (sum_over f i) e)
  join m (suc n) =
      let e : m + suc n ≡ suc (m + n) = omega arith in
      let g : i + (m + n) ≡ (i + m) + n = omega arith in
      omega (arith, ap (sum_over f i) e, ap f g, join m n)

  pub sum_join : (j k : ℕ) → i ≤ j → j ≤ k → between f i k ≡ between f i j + between f j k
  sum_join j k h l =
      let e : k - i ≡ (j - i) + (k - j) = omega arith in
      let g : i + (j - i) ≡ j = omega arith in
      ap (sum_over f i) e ∙ join (j - i) (k - j) ∙ ap (λ (m : ℕ). between f i j + sum_over f m (k - j)) g

  pub sum_first : (j : ℕ) → i < j → between f i j ≡ f i + between f (i + 1) j
  sum_first j h = omega (arith, sum_join (i + 1) j (omega arith) (omega arith), sum_next i (omega arith), sum_none)

  -- no more than m for each index
  most : (m n : ℕ) → ((k : ℕ) → i ≤ k → k < i + n → f k ≤ m) → sum_over f i n ≤ m * n
  unfolding sum_over
  most m zero p = omega arith
  most m (suc n) p = omega (arith, p (i + n) (omega arith) (omega arith), most m n (λ k l u. p k l (omega arith)))

  pub sum_most : (m j : ℕ) → i ≤ j → ((k : ℕ) → i ≤ k → k < j → f k ≤ m) → between f i j ≤ m * (j - i)
  sum_most m j h p = most m (j - i) (λ k l u. p k l (omega arith))

  -- a sum that is nothing has nothing at any index
  some : (n k : ℕ) → i ≤ k → k < i + n → f k ≤ sum_over f i n
  unfolding sum_over
  some zero k l u = absurd (omega arith)
  some (suc n) k l u = go (dec_lt k (i + n)) (λ v. some n k l v)
    where
      go : Dec (k < i + n) → (k < i + n → f k ≤ sum_over f i n) → f k ≤ sum_over f i (suc n)
      go (yes v) ih = omega (arith, ih v)
      go (no v) ih = let e : k ≡ i + n = omega arith in omega (arith, ap f e)

  pub sum_some : (j k : ℕ) → i ≤ k → k < j → f k ≤ between f i j
  sum_some j k l u = some (j - i) k l (omega arith)

  -- what is the same at each index has the same sum
  same : (g : ℕ → ℕ) (n : ℕ) → ((k : ℕ) → i ≤ k → k < i + n → f k ≡ g k) → sum_over f i n ≡ sum_over g i n
  unfolding sum_over
  same g zero p = refl
  same g (suc n) p = omega (arith, p (i + n) (omega arith) (omega arith), same g n (λ k l u. p k l (omega arith)))

  pub sum_same : (g : ℕ → ℕ) (j : ℕ) → ((k : ℕ) → i ≤ k → k < j → f k ≡ g k) → between f i j ≡ between g i j
  sum_same g j p = same g (j - i) (λ k l u. p k l (omega arith))

  twice : (n : ℕ) → sum_over (λ k. 2 * f k) i n ≡ 2 * sum_over f i n
  unfolding sum_over
  twice zero = refl
  twice (suc n) = omega (arith, twice n)

  pub sum_twice : (j : ℕ) → between (λ k. 2 * f k) i j ≡ 2 * between f i j
  sum_twice j = twice (j - i)

pub sum_zero : (f : ℕ → ℕ) (i j : ℕ) → i ≤ j → ((k : ℕ) → i ≤ k → k < j → f k ≡ 0) → between f i j ≡ 0
sum_zero f i j h p = omega (arith, sum_most f i 0 j h (λ k l u. omega (arith, p k l u)))

-- what is no more at any index and has the same sum is the same at each
below : (f g : ℕ → ℕ) (i n : ℕ) → ((k : ℕ) → i ≤ k → k < i + n → f k ≤ g k) → sum_over f i n ≤ sum_over g i n
unfolding sum_over
below f g i zero p = omega arith
below f g i (suc n) p = omega (arith, p (i + n) (omega arith) (omega arith), below f g i n (λ k l u. p k l (omega arith)))

even : (f g : ℕ → ℕ) (i n : ℕ) → ((k : ℕ) → i ≤ k → k < i + n → f k ≤ g k) → sum_over f i n ≡ sum_over g i n → (k : ℕ) → i ≤ k → k < i + n → f k ≡ g k
unfolding sum_over
even f g i zero p e k l u = absurd (omega arith)
even f g i (suc n) p e k l u = go (dec_lt k (i + n)) (λ v. even f g i n (λ k l u. p k l (omega arith)) (omega (arith, less, last)) k l v)
  where
    less : sum_over f i n ≤ sum_over g i n
    less = below f g i n (λ k l u. p k l (omega arith))

    last : f (i + n) ≤ g (i + n)
    last = p (i + n) (omega arith) (omega arith)

    go : Dec (k < i + n) → (k < i + n → f k ≡ g k) → f k ≡ g k
    go (yes v) ih = ih v
    go (no v) ih = let q : k ≡ i + n = omega arith in ap f q ∙ omega (arith, less, last) ∙ sym (ap g q)

pub sum_even : (f g : ℕ → ℕ) (i j : ℕ) → ((k : ℕ) → i ≤ k → k < j → f k ≤ g k) → between f i j ≡ between g i j → (k : ℕ) → i ≤ k → k < j → f k ≡ g k
sum_even f g i j p e k l u = even f g i (j - i) (λ k l u. p k l (omega arith)) e k l (omega arith)

-- with the index before
pub sum_before : (f : ℕ → ℕ) (i j : ℕ) → 0 < i → i ≤ j → between f (i - 1) j ≡ f (i - 1) + between f i j
sum_before f i j p h =
    let e : (i - 1) + 1 ≡ i = omega arith in
    sum_first f (i - 1) j (omega arith) ∙ ap (λ (k : ℕ). f (i - 1) + between f k j) e

-- with the block before
pub sum_block : (f : ℕ → ℕ) (i j m n : ℕ) → 128 ≤ i → i ≤ j → m ≡ between f (i - 128) (i - 128 + 128) → n ≡ between f i j → n + m ≡ between f (i - 128) j
sum_block f i j m n p h d e =
    let g : (i - 128) + 128 ≡ i = omega arith in
    omega (arith, d, e, ap (between f (i - 128)) g, sum_join f (i - 128) i j (omega arith) h)

-- from an index on, by how many
pub sum_start : (f : ℕ → ℕ) (i : ℕ) → between f i (i + 0) ≡ 0
sum_start f i = let e : i + 0 ≡ i = omega arith in ap (between f i) e ∙ sum_none f i

pub sum_more : (f : ℕ → ℕ) (i k : ℕ) → between f i (i + (k + 1)) ≡ between f i (i + k) + f (i + k)
sum_more f i k = let e : i + (k + 1) ≡ (i + k) + 1 = omega arith in ap (between f i) e ∙ sum_next f i (i + k) (omega arith)
