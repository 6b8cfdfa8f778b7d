-- How the code holds a class: by strides, which are the ranges' lengths and the gaps between them in turn, and by an index of checkpoints, the
-- bounds that no stride leads to. What they sum to is the class's table.
use Rattle.std.specs.Prelude.{ℕ, zero, suc, ◌+◌, ◌-◌, ◌/◌, ◌%◌, ◌≤◌, ◌<◌, List, [], ◌∷◌, ◌++◌, ◌≡◌, Bool, true, ◌&&◌, length, get_or, take, drop, leb, ltb}
use Rattle.rules.specs.Classes.{rises}

-- Checkpoint i: its bound times 4,096, and its place, which is the number of strides, of both classes, before its own.
abbrev pub bound : List ℕ → ℕ → ℕ
bound index i = get_or index i 0 / 4096

abbrev pub place : List ℕ → ℕ → ℕ
place index i = get_or index i 0 % 4096

-- The number of checkpoints. After the last comes the place where its strides end.
abbrev pub count : List ℕ → ℕ
count index = length index - 1

-- The first n strides in all.
unfoldable pub total : List ℕ → ℕ → ℕ
total [] n = 0
total (s ∷ strides) zero = 0
total (s ∷ strides) (suc n) = s + total strides n

-- A bound, and all that strides lead to from it.
unfoldable pub sums : ℕ → List ℕ → List ℕ
sums from [] = from ∷ []
sums from (s ∷ strides) = from ∷ sums (from + s) strides

-- The strides from checkpoint i to the next.
abbrev pub walk : List ℕ → List ℕ → ℕ → List ℕ
walk strides index i = take (place index (i + 1) - place index i) (drop (place index i) strides)

-- The bounds that n checkpoints, from i on, and the strides after each sum to.
unfoldable pub bounds_from : List ℕ → List ℕ → ℕ → ℕ → List ℕ
bounds_from strides index i zero = []
bounds_from strides index i (suc n) = sums (bound index i) (walk strides index i) ++ bounds_from strides index (i + 1) n

-- All of them.
abbrev pub bounds : List ℕ → List ℕ → List ℕ
bounds strides index = bounds_from strides index 0 (count index)

-- No place is before the one of the checkpoint before it, nor past the strides.
unfoldable pub places_from : List ℕ → List ℕ → ℕ → ℕ → Bool
places_from strides index i zero = leb (place index i) (length strides)
places_from strides index i (suc n) = leb (place index i) (place index (i + 1)) && places_from strides index (i + 1) n

-- There is a checkpoint, and the places are in order.
abbrev pub places_rise : List ℕ → List ℕ → Bool
places_rise strides index = ltb 0 (count index) && places_from strides index 0 (count index)

-- Checkpoint r is at most c, and the one that comes so many after it, if there is one, is past c.
pub record Reached (index : List ℕ) (c by r : ℕ) : Type 0 where
  pub within : r < count index
  pub most : bound index r ≤ c
  pub next : r + by < count index → c < bound index (r + by)

-- The strides from at to r are in all at most so much, and with the next, if it is before end, they are more.
pub record Passed (strides : List ℕ) (at end left r : ℕ) : Type 0 where
  pub from : at ≤ r
  pub to : r ≤ end
  pub most : total strides r ≤ total strides at + left
  pub next : r < end → total strides at + left < total strides (r + 1)

-- Strides and an index that one can search in.
pub record Form (strides index : List ℕ) : Type 0 where
  pub placed : places_rise strides index ≡ true
  pub rising : rises (bounds strides index) ≡ true
