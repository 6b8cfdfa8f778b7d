-- #103: places add up over the end of a character, so a reader may go on from a place that it knows. Assumes nothing.
use Prim.Native.Nat.{ℕ, zero, suc, ◌+◌, ◌-◌, ◌≤◌, ◌<◌}
use native.Mathlib.Omega.{arith}
use native.Mathlib.Decide.{dec_lt}
use mathlib.Core.Path.{◌≡◌, refl, sym, ap, ap₂, ◌∙◌}
use mathlib.Core.List.{List, [], ◌∷◌, ◌++◌}
use mathlib.Core.Bool.{cond}
use lib.Dec.{eqb}
use lib.ListN.{length, drop}
use borrow.Author.Tests.{eq-eqb, ne_eqb}
use Rattle.rules.specs.Utf8.{Char, width, char_at, chars}
use Rattle.rules.specs.Places.{Place, Counted, before, line_ends, last_line, units_of, place_of}
use Rattle.rules.proofs.Decoding.{chars_end, fits_at, broken-at, inside-at}
use Rattle.rules.proofs.Places.{counted_at, before-step, before_none, lines_cons, units-cons, column_all, column_rest}
use Rattle.rules.proofs.CountSteps.{column_same}

-- No character that begins before an index runs past it.
abbrev pub Edge : List ℕ → ℕ → Type 0
Edge s i = (p : ℕ) → p < i → p < length s → p + width (char_at (drop p s)) ≤ i

-- A text's start is one, and so is the end of each character that begins at one.
pub edge_start : (s : List ℕ) → Edge s 0
edge_start s p l h = absurd (omega arith)

pub edge-step : (s : List ℕ) (i : ℕ) → i < length s → Edge s i → Edge s (i + width (char_at (drop i s)))
edge-step s i h edge p l k = go (dec_lt p i) (dec_lt i p)
  where
    go : Dec (p < i) → Dec (i < p) → p + width (char_at (drop p s)) ≤ i + width (char_at (drop i s))
    go (yes b) x = omega (arith, edge p b k)
    go (no b) (yes a) =
        let t = inside-at s i p h a l in
        omega (arith, ap width (broken-at s p k t.0 (omega (arith, t.1))))
    go (no b) (no a) =
        let e : p ≡ i = omega arith in
        omega (arith, ap (λ (n : ℕ). width (char_at (drop n s))) e)

-- A place, and one that is counted from it on.
abbrev pub onward : Place → Place → Place
onward p q = record { line = p.line + q.line; column = cond (eqb q.line 0) p.column 0 + q.column }

-- What is counted in two parts.
lines_sum : (us vs : List Counted) → line_ends (us ++ vs) ≡ line_ends us + line_ends vs
unfolding line_ends
lines_sum [] vs = omega arith
lines_sum (c ∷ us) vs = omega (arith, lines_sum us vs)

units_sum : (us vs : List Counted) → units_of (us ++ vs) ≡ units_of us + units_of vs
unfolding units_of
units_sum [] vs = omega arith
units_sum (c ∷ us) vs = omega (arith, units_sum us vs)

column_some : (us vs : List Counted) → 0 < line_ends vs → units_of (last_line (us ++ vs)) ≡ units_of (last_line vs)
column_some [] vs h = refl
column_some (c ∷ us) vs h = column_rest c (us ++ vs) (λ e. omega (arith, lines_cons c (us ++ vs), lines_sum us vs)) ∙ column_some us vs h

column_none : (us vs : List Counted) → line_ends vs ≡ 0 → units_of (last_line (us ++ vs)) ≡ units_of (last_line us) + units_of (last_line vs)
unfolding last_line units_of
column_none [] vs e = omega arith
column_none (c ∷ us) vs e = go (dec_lt 0 (line_ends (c ∷ us))) (column_none us vs e)
  where
    l : line_ends (c ∷ (us ++ vs)) ≡ line_ends (c ∷ us)
    l = omega (arith, lines_cons c (us ++ vs), lines_cons c us, lines_sum us vs)

    go : Dec (0 < line_ends (c ∷ us)) → units_of (last_line (us ++ vs)) ≡ units_of (last_line us) + units_of (last_line vs)
        → units_of (last_line (c ∷ (us ++ vs))) ≡ units_of (last_line (c ∷ us)) + units_of (last_line vs)
    go (yes h) i = omega (arith, i, column_rest c (us ++ vs) (λ e. omega (arith, l)), column_rest c us (λ e. omega arith))
    go (no h) i = omega (arith, column_all c (us ++ vs) (omega (arith, l)), column_all c us (omega arith), units-cons c (us ++ vs), units-cons c us, units_sum us vs, column_same vs e)

-- The characters before an offset past an edge: those before the edge, and those from it on.
module _ (s : List ℕ) (i j : ℕ) (edge : Edge s i) where
  abbrev Sum : ℕ → ℕ → Type 0
  Sum k p = before (k + j) (chars (drop p s)) ≡ before k (chars (drop p s)) ++ before j (chars (drop i s))

  sum_none : (k p : ℕ) → k ≡ 0 → p ≡ i → Sum k p
  sum_none k p z e =
      ap₂ (λ (n p : ℕ). before n (chars (drop p s))) (omega arith) e
      ∙ sym (ap (λ (ks : List Counted). ks ++ before j (chars (drop i s))) (ap (λ (n : ℕ). before n (chars (drop p s))) z ∙ before_none s p))

  before_sum : (fuel k p : ℕ) → k ≤ fuel → p + k ≡ i → Sum k p
  unfolding before
  before_sum zero k p f e = sum_none k p (omega arith) (omega arith)
  before_sum (suc fuel) k p f e = at (dec_lt 0 k) (λ m q. before_sum fuel m q)
    where
      go : Dec (p < length s) → ((m q : ℕ) → m ≤ fuel → q + m ≡ i → Sum m q) → 0 < k → Sum k p
      go (yes h) ih z =
          let w = width (char_at (drop p s)) in
          let l = edge p (omega arith) h in
          let y = (fits_at s p h).0 in
          let n : k + j - w ≡ (k - w) + j = omega arith in
          before-step s p h (k + j) (omega arith)
          ∙ ap (λ (m : ℕ). counted_at s p ∷ before m (chars (drop (p + w) s))) n
          ∙ ap (λ (ks : List Counted). counted_at s p ∷ ks) (ih (k - w) (p + w) (omega arith) (omega arith))
          ∙ sym (ap (λ (ks : List Counted). ks ++ before j (chars (drop i s))) (before-step s p h k (omega arith)))
      go (no h) ih z =
          ap (before (k + j)) (chars_end s p (omega arith))
          ∙ sym (ap₂ (λ (cs ds : List Char). before k cs ++ before j ds) (chars_end s p (omega arith)) (chars_end s i (omega arith)))

      at : Dec (0 < k) → ((m q : ℕ) → m ≤ fuel → q + m ≡ i → Sum m q) → Sum k p
      at (yes z) ih = go (dec_lt p (length s)) ih z
      at (no z) ih = sum_none k p (omega arith) (omega arith)

  pub places_add : place_of s (i + j) ≡ onward (place_of s i) (place_of (drop i s) j)
  unfolding place_of
  places_add = ap₂ (λ (l c : ℕ). record { line = l; column = c }) (ap line_ends e ∙ lines_sum us vs) (ap (λ (ks : List Counted). units_of (last_line ks)) e ∙ go (dec_lt 0 (line_ends vs)))
    where
      us : List Counted
      us = before i (chars s)

      vs : List Counted
      vs = before j (chars (drop i s))

      e : before (i + j) (chars s) ≡ us ++ vs
      e = before_sum i i 0 (omega arith) (omega arith)

      go : Dec (0 < line_ends vs) → units_of (last_line (us ++ vs)) ≡ cond (eqb (line_ends vs) 0) (units_of (last_line us)) 0 + units_of (last_line vs)
      go (yes h) = rw (ne_eqb (line_ends vs) 0 (λ e. omega arith)) (omega (arith, column_some us vs h))
      go (no h) = rw (eq-eqb (line_ends vs) 0 (omega arith)) (column_none us vs (omega arith))
