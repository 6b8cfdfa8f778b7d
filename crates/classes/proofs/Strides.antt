-- Laws of strides and checkpoints: which bound stands where, and how many bounds are at most a code.
-- Assumes nothing.
use Prim.Native.Nat.{ℕ, zero, suc, ◌+◌, ◌-◌, ◌≤◌, ◌<◌, zero-le}
use native.Mathlib.Omega.{arith}
use native.Mathlib.Nat.{le_of_suc-le-suc, eq-or-lt_of_le, not-suc-le-zero}
use mathlib.Core.Path.{◌≡◌, refl, sym, ap, ◌∙◌}
use mathlib.Core.List.{List, [], ◌∷◌, ◌++◌}
use mathlib.Core.Bool.{true}
use mathlib.Core.Logic.{⊎_elim}
use lib.ListN.{length, get_or, take, drop, length-append, length-drop, get_or-append}
use lib.Seq.{length-take-le, get_or-append-add}
use lib.Dec.{leb, ltb}
use borrow.Author.Tests.{leb-true, ltb-true}
use Rattle.rules.proofs.Tests.{and_both}
use Rattle.rules.proofs.Ranges.{Bound, in_order}
use Rattle.classes.specs.Strides.{bound, place, count, total, sums, walk, bounds_from, bounds, places_from, Reached, Passed, Form}

total_none : (strides : List ℕ) → total strides 0 ≡ 0
unfolding total
total_none [] = refl
total_none (s ∷ strides) = refl

-- One stride more.
pub total_stride : (strides : List ℕ) (k : ℕ) → total strides (k + 1) ≡ total strides k + get_or strides k 0
unfolding total
total_stride [] k = refl
total_stride (s ∷ strides) zero = omega (arith, total_none strides)
total_stride (s ∷ strides) (suc k) =
    let q : suc k + 1 ≡ suc (k + 1) = omega arith in
    let g : get_or (s ∷ strides) (suc k) 0 ≡ get_or strides k 0 = refl in
    rw (q, g) (omega (arith, total_stride strides k))

total-drop : (strides : List ℕ) (p k : ℕ) → total strides (p + k) ≡ total strides p + total (drop p strides) k
unfolding total
total-drop [] zero k = refl
total-drop [] (suc p) k = refl
total-drop (s ∷ strides) zero k = let e : 0 + k ≡ k = omega arith in rw e (omega arith)
total-drop (s ∷ strides) (suc p) k =
    let e : suc p + k ≡ suc (p + k) = omega arith in
    rw e (omega (arith, total-drop strides p k))

total-take : (strides : List ℕ) (n k : ℕ) → k ≤ n → total (take n strides) k ≡ total strides k
unfolding total
total-take [] zero k h = refl
total-take [] (suc n) k h = refl
total-take (s ∷ strides) n zero h = total_none (take n (s ∷ strides))
total-take (s ∷ strides) zero (suc k) h = absurd (not-suc-le-zero h)
total-take (s ∷ strides) (suc n) (suc k) h = ap (λ (t : ℕ). s + t) (total-take strides n k (le_of_suc-le-suc h))

sums-length : (from : ℕ) (strides : List ℕ) → length (sums from strides) ≡ suc (length strides)
unfolding sums
sums-length from [] = refl
sums-length from (s ∷ strides) = ap suc (sums-length (from + s) strides)

sums_at : (from : ℕ) (strides : List ℕ) (k : ℕ) → k ≤ length strides → get_or (sums from strides) k 0 ≡ from + total strides k
unfolding sums total
sums_at from [] zero h = omega arith
sums_at from [] (suc k) h = absurd (not-suc-le-zero h)
sums_at from (s ∷ strides) zero h = omega arith
sums_at from (s ∷ strides) (suc k) h = omega (arith, sums_at (from + s) strides k (le_of_suc-le-suc h))

module _ (strides index : List ℕ) where
  -- What the test of the places says of n checkpoints from i on.
  record Placed (i n : ℕ) : Type 0 where
    mounts : (m : ℕ) → i ≤ m → m < i + n → place index m ≤ place index (m + 1)
    since : (m : ℕ) → i ≤ m → m ≤ i + n → place index i ≤ place index m
    until : (m : ℕ) → i ≤ m → m ≤ i + n → place index m ≤ place index (i + n)
    inside : place index (i + n) ≤ length strides

  placed : (i n : ℕ) → places_from strides index i n ≡ true → Placed i n
  unfolding places_from
  placed i zero h = record {
    mounts = λ m l u. absurd (omega arith);
    since = λ m l u. let e : m ≡ i = omega arith in rw e (omega arith);
    until = λ m l u. let e : m ≡ i + 0 = omega arith in rw e (omega arith);
    inside = let e : i + 0 ≡ i = omega arith in rw e (leb-true (place index i) (length strides) h);
  }
  placed i (suc n) h =
      let b = and_both (leb (place index i) (place index (i + 1))) (places_from strides index (i + 1) n) h in
      let first : place index i ≤ place index (i + 1) = leb-true (place index i) (place index (i + 1)) b.0 in
      let rest = placed (i + 1) n b.1 in
      let e : i + suc n ≡ i + 1 + n = omega arith in
      record {
        mounts = λ m l u. ⊎_elim (λ (e : i ≡ m). rw (sym e) first) (λ (g : i < m). rest.mounts m (omega arith) (omega arith)) (eq-or-lt_of_le l);
        since = λ m l u. ⊎_elim (λ (e : i ≡ m). rw (sym e) (omega arith)) (λ (g : i < m). omega (arith, first, rest.since m (omega arith) (omega arith))) (eq-or-lt_of_le l);
        until = λ m l u. rw e (⊎_elim (λ (g : i ≡ m). rw (sym g) (omega (arith, first, rest.until (i + 1) (omega arith) (omega arith)))) (λ (g : i < m). rest.until m (omega arith) (omega arith)) (eq-or-lt_of_le l));
        inside = rw e rest.inside;
      }

  module _ (i n : ℕ) (h : places_from strides index i (suc n) ≡ true) where
    all : Placed i (suc n)
    all = placed i (suc n) h

    upper : place index i ≤ place index (i + 1)
    upper = all.mounts i (omega arith) (omega arith)

    next_inside : place index (i + 1) ≤ length strides
    next_inside = omega (arith, all.until (i + 1) (omega arith) (omega arith), all.inside)

    later : places_from strides index (i + 1) n ≡ true
    unfolding places_from
    later = (and_both (leb (place index i) (place index (i + 1))) (places_from strides index (i + 1) n) h).1

    walk-length : length (walk strides index i) ≡ place index (i + 1) - place index i
    walk-length =
        length-take-le (place index (i + 1) - place index i) (drop (place index i) strides)
        (rw (length-drop (place index i) strides) (omega (arith, upper, next_inside)))

    block_length : length (sums (bound index i) (walk strides index i)) ≡ suc (place index (i + 1) - place index i)
    block_length = sums-length (bound index i) (walk strides index i) ∙ ap suc walk-length

    -- The bounds of the first checkpoint and its strides.
    block_at :
        (j : ℕ) → place index i ≤ j → j ≤ place index (i + 1)
        → get_or (sums (bound index i) (walk strides index i)) (j - place index i) 0 + total strides (place index i) ≡ bound index i + total strides j
    block_at j l u =
        let p = place index i in
        let k = j - p in
        let s = sums_at (bound index i) (walk strides index i) k (rw walk-length (omega arith)) in
        let t = total-take (drop p strides) (place index (i + 1) - p) k (omega arith) in
        let e : p + k ≡ j = omega arith in
        let d = rw e at (total-drop strides p k) in
        omega (arith, s, t, d)

  bounds-length : (i n : ℕ) → places_from strides index i n ≡ true → length (bounds_from strides index i n) + place index i ≡ n + place index (i + n)
  unfolding bounds_from
  bounds-length i zero h = let e : i + 0 ≡ i = omega arith in rw e (omega arith)
  bounds-length i (suc n) h =
      let e : i + suc n ≡ i + 1 + n = omega arith in
      rw e (omega (arith, length-append (sums (bound index i) (walk strides index i)) (bounds_from strides index (i + 1) n), block_length i n h, upper i n h, bounds-length (i + 1) n (later i n h)))

  -- The bound at place j, among the strides of checkpoint m.
  bounds-at :
      (i n : ℕ) → places_from strides index i n ≡ true → (m j : ℕ) → i ≤ m → m < i + n → place index m ≤ j → j ≤ place index (m + 1)
      → get_or (bounds_from strides index i n) ((m - i) + (j - place index i)) 0 + total strides (place index m) ≡ bound index m + total strides j
  unfolding bounds_from
  bounds-at i zero h m j a b l u = absurd (omega arith)
  bounds-at i (suc n) h m j a b l u =
      ⊎_elim here (λ g. there g (bounds-at (i + 1) n (later i n h) m j (omega arith) (omega arith) l u)) (eq-or-lt_of_le a)
    where
      block : List ℕ
      block = sums (bound index i) (walk strides index i)

      rest : List ℕ
      rest = bounds_from strides index (i + 1) n

      here : i ≡ m → get_or (block ++ rest) ((m - i) + (j - place index i)) 0 + total strides (place index m) ≡ bound index m + total strides j
      here e =
          let l' = rw (sym e) at l in
          let u' = rw (sym e) at u in
          let q : (i - i) + (j - place index i) ≡ j - place index i = omega arith in
          let g = get_or-append block rest 0 (j - place index i) (rw (block_length i n h) (omega arith)) in
          rw (sym e) (rw (q, g) (block_at i n h j l' u'))

      there :
          i < m
          → get_or rest ((m - (i + 1)) + (j - place index (i + 1))) 0 + total strides (place index m) ≡ bound index m + total strides j
          → get_or (block ++ rest) ((m - i) + (j - place index i)) 0 + total strides (place index m) ≡ bound index m + total strides j
      there g e =
          let s = (placed (i + 1) n (later i n h)).since m (omega arith) (omega arith) in
          let q : (m - i) + (j - place index i) ≡ length block + ((m - (i + 1)) + (j - place index (i + 1))) = omega (arith, block_length i n h, upper i n h, s) in
          rw (q, get_or-append-add block rest ((m - (i + 1)) + (j - place index (i + 1))) 0) e

-- Strides and an index that one can search in: what stands at each place, and how many of the bounds are at most a code.
module _ (strides index : List ℕ) (f : Form strides index) where
  tests : (ltb 0 (count index) ≡ true) × (places_from strides index 0 (count index) ≡ true)
  tests = and_both (ltb 0 (count index)) (places_from strides index 0 (count index)) f.placed

  pub some : 0 < count index
  some = ltb-true 0 (count index) tests.0

  all_placed : Placed strides index 0 (count index)
  all_placed = placed strides index 0 (count index) tests.1

  last_place : (i : ℕ) → i ≤ count index → place index i ≤ place index (count index)
  last_place i l = let e : 0 + count index ≡ count index = omega arith in rw e at (all_placed.until i zero-le (rw e l))

  first-place : (i : ℕ) → i ≤ count index → place index 0 ≤ place index i
  first-place i l = all_placed.since i zero-le (let e : 0 + count index ≡ count index = omega arith in rw e l)

  -- The strides of a checkpoint end where the next one's begin.
  pub begins : (i : ℕ) → i < count index → place index i ≤ place index (i + 1)
  begins i l = all_placed.mounts i zero-le (omega arith)

  pub ends : (i : ℕ) → i < count index → place index (i + 1) ≤ length strides
  ends i l =
      let e : 0 + count index ≡ count index = omega arith in
      omega (arith, last_place (i + 1) (omega arith), rw e at all_placed.inside)

  size : length (bounds strides index) + place index 0 ≡ count index + place index (count index)
  size = let e : 0 + count index ≡ count index = omega arith in rw e at (bounds-length strides index 0 (count index) tests.1)

  bound_at :
      (i j : ℕ) → i < count index → place index i ≤ j → j ≤ place index (i + 1)
      → get_or (bounds strides index) (i + (j - place index 0)) 0 + total strides (place index i) ≡ bound index i + total strides j
  bound_at i j l a b =
      let e : (i - 0) + (j - place index 0) ≡ i + (j - place index 0) = omega arith in
      rw e at (bounds-at strides index 0 (count index) tests.1 i j zero-le (omega arith) a b)

  checkpoint_at : (i : ℕ) → i < count index → get_or (bounds strides index) (i + (place index i - place index 0)) 0 ≡ bound index i
  checkpoint_at i l = omega (arith, bound_at i (place index i) l (omega arith) (begins i l))

  module _ {c : ℕ} where
    -- Before the first checkpoint there is no bound.
    pub none_reached : c < bound index 0 → Bound (bounds strides index) c 0
    none_reached l =
        let z : 0 + (place index 0 - place index 0) ≡ 0 = omega arith in
        let e = rw z at (checkpoint_at 0 some) in
        record {
          inside = zero-le;
          below = λ k g. absurd (omega arith);
          above = λ k g g'. omega (arith, e, in_order (bounds strides index) f.rising 0 k zero-le g');
        }

    -- The last checkpoint that is at most c, and as many of its strides as c is past.
    module _ (i k : ℕ) (r : Reached index c 1 i) (p : Passed strides (place index i) (place index (i + 1)) (c - bound index i) k) where
      -- no stride before the class's first
      pub begun : place index 0 ≤ k
      begun = omega (arith, p.from, first-place i (omega (arith, r.within)))

      fits : i + 1 + (k - place index 0) ≤ length (bounds strides index)
      fits = omega (arith, size, begun, r.within, p.to, last_place (i + 1) (omega (arith, r.within)))

      last_most : get_or (bounds strides index) (i + (k - place index 0)) 0 ≤ c
      last_most = omega (arith, bound_at i k r.within p.from p.to, p.most, r.most)

      next_past : i + 1 + (k - place index 0) < length (bounds strides index) → c < get_or (bounds strides index) (i + 1 + (k - place index 0)) 0
      next_past l = ⊎_elim over within (eq-or-lt_of_le p.to)
        where
          more : k ≡ place index (i + 1) → i + 1 < count index
          more e =
              ⊎_elim (λ (g : i + 1 ≡ count index). let e' : k ≡ place index (count index) = rw g at e in absurd (omega (arith, size, begun)))
              (λ g. g)
              (eq-or-lt_of_le (let u : i + 1 ≤ count index = omega (arith, r.within) in u))

          over : k ≡ place index (i + 1) → c < get_or (bounds strides index) (i + 1 + (k - place index 0)) 0
          over e = rw (e, checkpoint_at (i + 1) (more e)) (r.next (more e))

          within : k < place index (i + 1) → c < get_or (bounds strides index) (i + 1 + (k - place index 0)) 0
          within g =
              let q : i + ((k + 1) - place index 0) ≡ i + 1 + (k - place index 0) = omega (arith, begun) in
              omega (arith, rw q at (bound_at i (k + 1) r.within (omega (arith, p.from)) (omega arith)), p.next g, r.most)

      pub reached : Bound (bounds strides index) c (i + 1 + (k - place index 0))
      reached = record {
        inside = fits;
        below = λ m g. omega (arith, last_most, in_order (bounds strides index) f.rising m (i + (k - place index 0)) (omega arith) (omega (arith, fits)));
        above = λ m g g'. omega (arith, next_past (omega arith), in_order (bounds strides index) f.rising (i + 1 + (k - place index 0)) m g g');
      }
