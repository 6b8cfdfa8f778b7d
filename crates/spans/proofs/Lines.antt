-- A place is two sums over bytes. Assumes nothing.
use Prim.Native.Nat.{ℕ, zero, suc, ◌+◌, ◌-◌, ◌≤◌, ◌<◌}
use mathlib.Core.Path.{◌≡◌, refl, sym, ap, ◌∙◌}
use mathlib.Core.List.{List, [], ◌∷◌}
use mathlib.Core.Logic.{◌⊎◌, inl, inr}
use native.Mathlib.Omega.{arith}
use native.Mathlib.Decide.{dec_lt, dec_le}
use lib.ListN.{length, get_or, drop}
use Rattle.rules.specs.Utf8.{Char, width, char_at, chars}
use Rattle.rules.specs.Places.{Counted, units, before, line_ends, last_line, units_of, place_in, place_of}
use Rattle.rules.proofs.Decoding.{ascii_at, broken-at, fits_at, inside-at}
use Rattle.rules.proofs.Places.{ends_none, counted_at, before-step, before_stop, before_none, lines_none, units_none, lines_cons, units-cons, column_none, column_all, column_rest, units-width, width_most}
use Rattle.spans.specs.Sums.{bit, between, end_at, surplus_at, Starts, Edge}
use Rattle.spans.proofs.Sums.{sum_none, sum_join, sum_first, sum_zero, sum_some}

module _ (s : List ℕ) where
  abbrev size : ℕ → ℕ
  size i = width (char_at (drop i s))

  -- A byte of a longer character ends no line, and only its first byte adds to the surplus.
  high_end : (k : ℕ) → 0x80 ≤ get_or s k 0 → end_at s k ≡ 0
  high_end k h = ap bit (ends_none (get_or s k 0) (get_or s (k + 1) 0) h)

  tail_end : (i k : ℕ) → i < length s → i < k → k < i + size i → end_at s k ≡ 0
  tail_end i k h l u = high_end k (inside-at s i k h l u).0

  tail_surplus : (i k : ℕ) → i < length s → i < k → k < i + size i → surplus_at s k ≡ 0
  tail_surplus i k h l u =
      let t = inside-at s i k h l u in
      let f = fits_at s i h in
      ap (λ (c : Char). width c - units c) (broken-at s k (omega arith) t.0 (omega arith))

  wide_high : (i : ℕ) → i < length s → 1 < size i → 0x80 ≤ get_or s i 0
  wide_high i h w = go (dec_lt (get_or s i 0) 0x80)
    where
      go : Dec (get_or s i 0 < 0x80) → 0x80 ≤ get_or s i 0
      go (yes l) = absurd (omega (arith, ap width (ascii_at s i h l)))
      go (no l) = omega arith

  -- What one character adds to the sums.
  module _ (i j : ℕ) (h : i < length s) (l : i + size i ≤ j) where
    abbrev next : ℕ
    next = i + size i

    sum_on : (f : ℕ → ℕ) → ((k : ℕ) → i < k → k < next → f k ≡ 0) → between f i j ≡ f i + between f next j
    sum_on f tails =
        let p = fits_at s i h in
        omega (
          arith,
          sum_first f i j (omega arith),
          sum_join f (i + 1) next j (omega arith) l,
          sum_zero f (i + 1) next (omega arith) (λ k m u. tails k (omega arith) u),
        )

    ends_on : between (end_at s) i j ≡ end_at s i + between (end_at s) next j
    ends_on = sum_on (end_at s) (λ k m u. tail_end i k h m u)

    surplus_on : between (surplus_at s) i j ≡ surplus_at s i + between (surplus_at s) next j
    surplus_on = sum_on (surplus_at s) (λ k m u. tail_surplus i k h m u)

    before_on : before (j - i) (chars (drop i s)) ≡ counted_at s i ∷ before (j - next) (chars (drop next s))
    before_on =
        let e : (j - i) - size i ≡ j - next = omega arith in
        before-step s i h (j - i) (omega arith) ∙ ap (λ (n : ℕ). counted_at s i ∷ before n (chars (drop next s))) e

  before_same : (i : ℕ) → before (i - i) (chars (drop i s)) ≡ []
  before_same i = let e : i - i ≡ 0 = omega arith in ap (λ (n : ℕ). before n (chars (drop i s))) e ∙ before_none s i

  -- The edge at or before an offset: a character of more than one byte begins with a byte that is no tail, so none before it goes on past it.
  lead : (i : ℕ) → i < length s → 1 < size i → 0xC2 ≤ get_or s i 0
  lead i h w = go (dec_lt (get_or s i 0) 0xC2)
    where
      go : Dec (get_or s i 0 < 0xC2) → 0xC2 ≤ get_or s i 0
      go (yes l) = absurd (omega (arith, ap width (broken-at s i h (wide_high i h w) l)))
      go (no l) = omega arith

  pub edge-before : (offset e : ℕ) → e < offset → offset ≤ length s → offset < e + size e → Edge s offset e
  edge-before offset e l top w = record { low = omega arith; whole = λ p u. go p u (dec_lt e (p + size p)); inside = inr (omega arith, w) }
    where
      go : (p : ℕ) → p < e → Dec (e < p + size p) → p + size p ≤ e
      go p u (yes v) = absurd (omega (arith, (inside-at s p e (omega arith) u v).1, lead e (omega arith) (omega arith)))
      go p u (no v) = omega arith

  pub edge_here : (offset : ℕ) → offset ≤ length s → ((p : ℕ) → p < offset → offset < p + 4 → p + size p ≤ offset) → Edge s offset offset
  edge_here offset top f = record { low = omega arith; whole = λ p u. go p u (dec_lt offset (p + 4)); inside = inl refl }
    where
      go : (p : ℕ) → p < offset → Dec (offset < p + 4) → p + size p ≤ offset
      go p u (yes v) = f p u v
      go p u (no v) = omega (arith, width_most s p (omega arith))

  abbrev read : ℕ → ℕ → List Counted
  read i j = before (j - i) (chars (drop i s))

  read_none : (i j : ℕ) → i ≡ j → read i j ≡ []
  read_none i j e = ap (read i) (sym e) ∙ before_same i

  none_at : (f : ℕ → ℕ) (i j : ℕ) → i ≡ j → between f i j ≡ 0
  none_at f i j e = ap (between f i) (sym e) ∙ sum_none f i

  -- The line ends between two indices.
  pub lines_by : (fuel i j : ℕ) → j ≤ i + fuel → i ≤ j → j ≤ length s → line_ends (read i j) ≡ between (end_at s) i j
  lines_by zero i j f l m = let e : i ≡ j = omega arith in ap line_ends (read_none i j e) ∙ lines_none ∙ sym (none_at (end_at s) i j e)
  lines_by (suc fuel) i j f l m = go (dec_lt i j) (dec_le (i + size i) j) (λ k p. lines_by fuel k j p)
    where
      go : Dec (i < j) → Dec (i + size i ≤ j) → ((k : ℕ) → j ≤ k + fuel → k ≤ j → j ≤ length s → line_ends (read k j) ≡ between (end_at s) k j)
          → line_ends (read i j) ≡ between (end_at s) i j
      go (no n) d ih = let e : i ≡ j = omega arith in ap line_ends (read_none i j e) ∙ lines_none ∙ sym (none_at (end_at s) i j e)
      go (yes n) (yes w) ih =
          let p = fits_at s i (omega arith) in
          omega (
            arith,
            ap line_ends (before_on i j (omega arith) w),
            lines_cons (counted_at s i) (read (i + size i) j),
            ih (i + size i) (omega arith) w m,
            ends_on i j (omega arith) w,
          )
      go (yes n) (no w) ih =
          let h : i < length s = omega arith in
          let first = high_end i (wide_high i h (omega arith)) in
          let rest = sum_zero (end_at s) (i + 1) j (omega arith) (λ k p u. tail_end i k h (omega arith) (omega arith)) in
          ap line_ends (before_stop s i h (j - i) (omega arith)) ∙ lines_none ∙ sym (omega (arith, sum_first (end_at s) i j n, first, rest))

  -- Up to an index that no character goes on past.
  module _ (e : ℕ) (top : e ≤ length s) (whole : (p : ℕ) → p < e → p + size p ≤ e) where
    -- The units of all characters between.
    units_by : (fuel i : ℕ) → e ≤ i + fuel → i ≤ e → units_of (read i e) + between (surplus_at s) i e ≡ e - i
    units_by zero i f l = let z : i ≡ e = omega arith in omega (arith, ap units_of (read_none i e z) ∙ units_none, none_at (surplus_at s) i e z)
    units_by (suc fuel) i f l = go (dec_lt i e) (λ k p. units_by fuel k p)
      where
        go : Dec (i < e) → ((k : ℕ) → e ≤ k + fuel → k ≤ e → units_of (read k e) + between (surplus_at s) k e ≡ e - k) → units_of (read i e) + between (surplus_at s) i e ≡ e - i
        go (no n) ih = let z : i ≡ e = omega arith in omega (arith, ap units_of (read_none i e z) ∙ units_none, none_at (surplus_at s) i e z)
        go (yes n) ih =
            let h : i < length s = omega arith in
            let w = whole i n in
            let p = fits_at s i h in
            omega (
              arith,
              ap units_of (before_on i e h w),
              units-cons (counted_at s i) (read (i + size i) e),
              ih (i + size i) (omega arith) w,
              surplus_on i e h w,
              units-width s i h,
            )

    -- no line ends with a byte of the character at i, but with all of it
    past_first : (i a : ℕ) → i < e → i < a → end_at s (a - 1) ≡ 1 → i + size i ≤ a
    past_first i a n l b = go (dec_lt a (i + size i)) (dec_lt i (a - 1))
      where
        h : i < length s
        h = omega arith

        go : Dec (a < i + size i) → Dec (i < a - 1) → i + size i ≤ a
        go (yes u) (yes v) = absurd (omega (arith, b, tail_end i (a - 1) h v (omega arith)))
        go (yes u) (no v) = let q : a - 1 ≡ i = omega arith in absurd (omega (arith, b, ap (end_at s) q, high_end i (wide_high i h (omega arith))))
        go (no u) v = omega arith

    -- The units of those after the last line end, where a line starts at a.
    abbrev Column : ℕ → ℕ → Type 0
    Column a i = units_of (last_line (read i e)) + between (surplus_at s) a e ≡ e - a

    module _ (a : ℕ) (u : a ≤ e) (z : between (end_at s) a e ≡ 0) where
      column_end : (i : ℕ) → i ≡ e → i ≤ a → Column a i
      column_end i q l =
          omega (arith, ap (λ (cs : List Counted). units_of (last_line cs)) (read_none i e q) ∙ column_none, none_at (surplus_at s) a e (omega arith))

      module _ (i : ℕ) (n : i < e) (l : i ≤ a) (b : i < a → end_at s (a - 1) ≡ 1) where
        split : read i e ≡ counted_at s i ∷ read (i + size i) e
        split = before_on i e (omega arith) (whole i n)

        lines : line_ends (counted_at s i ∷ read (i + size i) e) ≡ between (end_at s) i e
        lines = sym (ap line_ends split) ∙ lines_by e i e (omega arith) (omega arith) top

        same : between (end_at s) i e ≡ 0 → Dec (i < a) → a ≡ i
        same d (yes v) = absurd (omega (arith, b v, sum_some (end_at s) i e (a - 1) (omega arith) (omega arith)))
        same d (no v) = omega arith

        -- no line ends
        column_flat : between (end_at s) i e ≡ 0 → Column a i
        column_flat d =
            let q = column_all (counted_at s i) (read (i + size i) e) (lines ∙ d) in
            omega (
              arith,
              ap (λ (cs : List Counted). units_of (last_line cs)) split ∙ q ∙ sym (ap units_of split),
              units_by e i (omega arith) (omega arith),
              same d (dec_lt i a),
              ap (λ (k : ℕ). between (surplus_at s) k e) (same d (dec_lt i a)),
            )

        begun : 0 < between (end_at s) i e → Dec (i < a) → i < a
        begun d (yes v) = v
        begun d (no v) = let q : a ≡ i = omega arith in absurd (omega (arith, d, z, ap (λ (k : ℕ). between (end_at s) k e) q))

        -- one does
        column_on : 0 < between (end_at s) i e → ((i + size i ≤ a) → Column a (i + size i)) → Column a i
        column_on d ih =
            let v = begun d (dec_lt i a) in
            let q = column_rest (counted_at s i) (read (i + size i) e) (λ y. omega (arith, d, sym lines, y)) in
            omega (arith, ap (λ (cs : List Counted). units_of (last_line cs)) split ∙ q, ih (past_first i a n v (b v)))

      column_by : (fuel i : ℕ) → e ≤ i + fuel → i ≤ a → (i < a → end_at s (a - 1) ≡ 1) → Column a i
      column_by zero i f l b = column_end i (omega arith) l
      column_by (suc fuel) i f l b = go (dec_lt i e) (dec_lt 0 (between (end_at s) i e)) (λ k p. column_by fuel k p)
        where
          go : Dec (i < e) → Dec (0 < between (end_at s) i e) → ((k : ℕ) → e ≤ k + fuel → k ≤ a → (k < a → end_at s (a - 1) ≡ 1) → Column a k) → Column a i
          go (no n) d ih = column_end i (omega arith) l
          go (yes n) (no d) ih = column_flat i n l b (omega arith)
          go (yes n) (yes d) ih = column_on i n l b d (λ q. ih (i + size i) (let w = fits_at s i (omega arith) in omega arith) q (λ v. b (omega arith)))

    -- An offset inside the character at e has the same characters before it.
    module _ (offset : ℕ) (o : e ≤ offset) (h : e < length s) (w : offset < e + size e) where
      inside_end : (i : ℕ) → i ≡ e → read i offset ≡ read i e
      inside_end i q = ap (λ (k : ℕ). read k offset) q ∙ before_stop s e h (offset - e) (omega arith) ∙ sym (read_none i e q)

      inside_by : (fuel i : ℕ) → e ≤ i + fuel → i ≤ e → read i offset ≡ read i e
      inside_by zero i f l = inside_end i (omega arith)
      inside_by (suc fuel) i f l = go (dec_lt i e) (λ k p. inside_by fuel k p)
        where
          go : Dec (i < e) → ((k : ℕ) → e ≤ k + fuel → k ≤ e → read k offset ≡ read k e) → read i offset ≡ read i e
          go (no n) ih = inside_end i (omega arith)
          go (yes n) ih =
              let v = whole i n in
              let p = fits_at s i (omega arith) in
              before_on i offset (omega arith) (omega arith)
              ∙ ap (λ (cs : List Counted). counted_at s i ∷ cs) (ih (i + size i) (omega arith) v)
              ∙ sym (before_on i e (omega arith) v)

  -- The place of an offset, by the edge that it is at or after, the line that this is in, and that line's surplus.
  module _ (offset e a n : ℕ) (top : offset ≤ length s) (edge : Edge s offset e) (line : Starts s 0 e a n) where
    at_edge : read 0 offset ≡ read 0 e
    at_edge = go edge.inside
      where
        go : (e ≡ offset) ⊎ ((e < length s) × (offset < e + size e)) → read 0 offset ≡ read 0 e
        go (inl q) = ap (read 0) (sym q)
        go (inr q) = inside_by e (omega (arith, edge.low)) edge.whole offset edge.low q.0 q.1 e 0 (omega arith) (omega arith)

    column_is : units_of (last_line (read 0 e)) + n ≡ e - a
    column_is =
        let l = edge.low in
        omega (arith, line.more, column_by e (omega arith) edge.whole a line.high line.none e 0 (omega arith) line.low line.after)

    pub surplus_fits : n ≤ e - a
    surplus_fits = omega (arith, column_is)

    pub place-sums : place_of s offset ≡ record { line = between (end_at s) 0 a; column = (e - a) - n }
    unfolding place_of
    place-sums =
        let l = edge.low in
        let z : offset - 0 ≡ offset = omega arith in
        let lines : line_ends (read 0 e) ≡ between (end_at s) 0 a =
        lines_by e 0 e (omega arith) (omega arith) (omega arith) ∙ omega (arith, sum_join (end_at s) 0 a e (omega arith) line.high, line.none) in
        let column : units_of (last_line (read 0 e)) ≡ (e - a) - n = omega (arith, column_is) in
        ap place_in (ap (λ (m : ℕ). before m (chars s)) (sym z) ∙ at_edge) ∙ ap (λ (m : ℕ). record { line = m; column = units_of (last_line (read 0 e)) }) lines ∙ ap (λ (m : ℕ). record { line = between (end_at s) 0 a; column = m }) column

-- A line that is sought further back, past bytes without a line end, has their surplus too.
pub starts_far : {s : List ℕ} {i upto r m n : ℕ} → Starts s 0 i r m → i ≤ upto → between (end_at s) i upto ≡ 0 → n ≡ between (surplus_at s) i upto → Starts s 0 upto r (n + m)
starts_far {s} {i} {upto} {r} {m} {n} p h z e =
    let l = p.high in
    record {
      low = p.low;
      high = omega arith;
      none = omega (arith, p.none, z, sum_join (end_at s) r i upto p.high h);
      after = p.after;
      more = omega (arith, p.more, e, sum_join (surplus_at s) r i upto p.high h);
    }

-- A line that starts between two indices starts there in the whole text too.
pub starts_near : {s : List ℕ} {from upto r n : ℕ} → Starts s from upto r n → from < r → Starts s 0 upto r n
starts_near {s} {from} {upto} {r} {n} p h = record { low = omega arith; high = p.high; none = p.none; after = λ z. p.after h; more = p.more }
