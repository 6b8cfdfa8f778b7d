-- The place of an offset, character by character, from any index on; and how large it gets. Assumes nothing.
use Prim.Native.Nat.{ℕ, zero, suc, ◌+◌, ◌-◌, ◌%◌, ◌≤◌, ◌<◌}
use native.Mathlib.Omega.{arith}
use native.Mathlib.Decide.{dec_lt, dec_le}
use mathlib.Core.Path.{◌≡◌, refl, sym, ap, ◌∙◌, subst}
use mathlib.Core.List.{List, [], ◌∷◌}
use mathlib.Core.Bool.{Bool, true, false, not, cond, ◌&&◌, ◌||◌}
use lib.Dec.{eqb}
use lib.ListN.{length, get_or, drop}
use lib.Seq.{get_or-drop}
use native.Mathlib.Nat.{add-zero}
use borrow.Author.Tests.{le-leb, lt-leb, ne_eqb}
use Rattle.rules.specs.Characters.{line_feed, carriage_return}
use Rattle.rules.specs.Utf8.{within, Char, width, well_formed, char_of, code_of, char_at, chars}
use Rattle.rules.specs.Lexeme.{first}
use Rattle.rules.specs.Places.{units, ends_line, Counted, before, line_ends, last_line, units_of, place_of}
use Rattle.rules.proofs.Decoding.{Form, none, one, two, three, four, form_of, form_most, low_of, broken_range, width-broken, width-formed, some_left, ascii_at, chars-at, chars_end, fits_at, code_high}
use Rattle.rules.proofs.Bytes.{next_is}

-- Units: a form of four bytes has two, and any other one.
module _ (t : List ℕ) where
  pub units_four : well_formed t ≡ 4 → units (char_at t) ≡ 2
  unfolding char_of code_of
  units_four e = go (form_of t) e
    where
      go : {w : ℕ} → Form (get_or t 0 0) (get_or t 1 0) (get_or t 2 0) (get_or t 3 0) w → w ≡ 4 → units (char_of w t) ≡ 2
      go none e = absurd (omega arith)
      go (one a) e = absurd (omega arith)
      go (two a a2 b) e = absurd (omega arith)
      go (three a a2 b c) e = absurd (omega arith)
      go (four a a2 b c d) e =
          let x : get_or t 0 0 % 8 + 0xF0 ≡ get_or t 0 0 = omega arith in
          let y = low_of b in
          rw (le-leb 0x10000 (char_of 4 t).code (omega arith), le-leb (char_of 4 t).code 0x10FFFF (omega arith))

  pub units_other : (well_formed t ≡ 4 → ⊥) → units (char_at t) ≡ 1
  unfolding char_of code_of
  units_other n = go (form_of t) n
    where
      go : {w : ℕ} → Form (get_or t 0 0) (get_or t 1 0) (get_or t 2 0) (get_or t 3 0) w → (w ≡ 4 → ⊥) → units (char_of w t) ≡ 1
      go none e = refl
      go (one a) e = rw (lt-leb 0x10000 (char_of 1 t).code (omega arith))
      go (two a a2 b) e = rw (lt-leb 0x10000 (char_of 2 t).code (omega arith))
      go (three a a2 b c) e = rw (lt-leb 0x10000 (char_of 3 t).code (omega arith))
      go (four a a2 b c d) e = absurd (e refl)

-- The characters before an offset, one at a time.
module _ (n : ℕ) (c : Char) (cs : List Char) where
  pub before_whole : width c ≤ n → before n (c ∷ cs) ≡ record { units = units c; ends = ends_line c.code (first cs) } ∷ before (n - width c) cs
  unfolding before
  before_whole h = rw (le-leb (width c) n h, before)

  pub before-cut : n < width c → before n (c ∷ cs) ≡ []
  unfolding before
  before-cut h = rw (lt-leb (width c) n h, before)

-- A line ends with a byte, by the next one: no byte of a longer character is LF or CR.
abbrev pub ends_at : List ℕ → ℕ → Bool
ends_at s i = ends_line (get_or s i 0) (get_or s (i + 1) 0)

pub ends_none : (a b : ℕ) → 0x80 ≤ a → ends_line a b ≡ false
ends_none a b h = rw (ne_eqb a line_feed (λ e. omega arith), ne_eqb a carriage_return (λ e. omega arith))

module _ (s : List ℕ) (i : ℕ) where
  abbrev size : ℕ
  size = width (char_at (drop i s))

  abbrev pub counted_at : Counted
  counted_at = record { units = units (char_at (drop i s)); ends = ends_at s i }

  ends_of : i < length s → ends_line (char_at (drop i s)).code (first (chars (drop (i + size) s))) ≡ ends_at s i
  ends_of h = go (dec_lt (get_or s i 0) 0x80)
    where
      go : Dec (get_or s i 0 < 0x80) → ends_line (char_at (drop i s)).code (first (chars (drop (i + size) s))) ≡ ends_at s i
      go (yes l) =
          ap (λ (c : Char). ends_line c.code (first (chars (drop (i + width c) s)))) (ascii_at s i h l)
          ∙ ap (λ (t : Bool). eqb (get_or s i 0) line_feed || (eqb (get_or s i 0) carriage_return && not t)) (next_is line_feed (omega arith) (omega arith) s (i + 1))
      go (no l) =
          let e : get_or (drop i s) 0 0 ≡ get_or s i 0 = get_or-drop i s 0 0 ∙ ap (λ (n : ℕ). get_or s n 0) (add-zero i) in
          ends_none (char_at (drop i s)).code (first (chars (drop (i + size) s))) (code_high (drop i s) (omega arith))
          ∙ sym (ends_none (get_or s i 0) (get_or s (i + 1) 0) (omega arith))

  module _ (h : i < length s) (n : ℕ) where
    pub before-step : size ≤ n → before n (chars (drop i s)) ≡ counted_at ∷ before (n - size) (chars (drop (i + size) s))
    before-step l =
        ap (before n) (chars-at s i h)
        ∙ before_whole n (char_at (drop i s)) (chars (drop (i + size) s)) l
        ∙ ap (λ (t : Bool). record { units = units (char_at (drop i s)); ends = t } ∷ before (n - size) (chars (drop (i + size) s))) (ends_of h)

    pub before_stop : n < size → before n (chars (drop i s)) ≡ []
    before_stop l = ap (before n) (chars-at s i h) ∙ before-cut n (char_at (drop i s)) (chars (drop (i + size) s)) l

  pub before_none : before 0 (chars (drop i s)) ≡ []
  unfolding before
  before_none = go (dec_lt i (length s))
    where
      go : Dec (i < length s) → before 0 (chars (drop i s)) ≡ []
      go (yes h) = before_stop h 0 (fits_at s i h).0
      go (no h) = ap (before 0) (chars_end s i (omega arith))

pub lines_none : line_ends [] ≡ 0
unfolding line_ends
lines_none = refl

pub units_none : units_of [] ≡ 0
unfolding units_of
units_none = refl

pub column_none : units_of (last_line []) ≡ 0
unfolding last_line units_of
column_none = refl

before-nil : (n : ℕ) → units_of (before n []) ≡ 0
unfolding before units_of
before-nil n = refl

-- What is counted, with one character more at the front.
module _ (c : Counted) (cs : List Counted) where
  pub lines_cons : line_ends (c ∷ cs) ≡ cond c.ends 1 0 + line_ends cs
  unfolding line_ends
  lines_cons = refl

  pub units-cons : units_of (c ∷ cs) ≡ c.units + units_of cs
  unfolding units_of
  units-cons = refl

  pub column_all : line_ends (c ∷ cs) ≡ 0 → units_of (last_line (c ∷ cs)) ≡ units_of (c ∷ cs)
  unfolding last_line
  column_all e = rw (e, last_line)

  pub column_rest : (line_ends (c ∷ cs) ≡ 0 → ⊥) → units_of (last_line (c ∷ cs)) ≡ units_of (last_line cs)
  unfolding last_line
  column_rest e = rw (ne_eqb (line_ends (c ∷ cs)) 0 e, last_line)

-- A character has no more units than bytes, and no more than four bytes.
module _ (s : List ℕ) (i : ℕ) (h : i < length s) where
  abbrev here : List ℕ
  here = drop i s

  pub units-width : units (char_at here) ≤ width (char_at here)
  units-width = go (dec_lt (well_formed here) 4)
    where
      go : Dec (well_formed here < 4) → units (char_at here) ≤ width (char_at here)
      go (yes l) = let u = units_other here (λ e. omega arith) in let n = (fits_at s i h).0 in omega arith
      go (no l) =
          let e : well_formed here ≡ 4 = omega (arith, form_most (form_of here)) in
          omega (arith, units_four here e, width-formed here 3 (some_left s i h) e)

  pub width_most : width (char_at here) ≤ 4
  width_most = go (well_formed here) refl
    where
      go : (w : ℕ) → well_formed here ≡ w → width (char_at here) ≤ 4
      go zero e = omega (arith, width-broken here (some_left s i h) e, (broken_range here).1)
      go (suc w) e = omega (arith, width-formed here w (some_left s i h) e, form_most (form_of here))

-- Each that is counted has a unit at least, so a line end is no more than its units.
abbrev Some : List Counted → Type 0
Some [] = Unit {0}
Some (c ∷ cs) = (0 < c.units) × Some cs

bit_most : (b : Bool) → cond b 1 0 ≤ 1
bit_most true = omega arith
bit_most false = omega arith

place-units : (cs : List Counted) → Some cs → line_ends cs + units_of (last_line cs) ≤ units_of cs
unfolding line_ends last_line units_of
place-units [] p = omega arith
place-units (c ∷ cs) p = go (dec_lt 0 (line_ends (c ∷ cs))) (place-units cs p.1)
  where
    go : Dec (0 < line_ends (c ∷ cs)) → line_ends cs + units_of (last_line cs) ≤ units_of cs → line_ends (c ∷ cs) + units_of (last_line (c ∷ cs)) ≤ units_of (c ∷ cs)
    go (yes l) m = omega (arith, column_rest c cs (λ e. omega arith), bit_most c.ends, p.0, lines_cons c cs, units-cons c cs)
    go (no l) m = omega (arith, column_all c cs (omega arith))

units_some : (c : Char) → 0 < units c
units_some c = go (within 0x10000 0x10FFFF c.code)
  where
    go : (b : Bool) → 0 < cond b 2 1
    go true = omega arith
    go false = omega arith

before_some : (n : ℕ) (cs : List Char) → Some (before n cs)
unfolding before
before_some n [] = tt
before_some n (c ∷ cs) = go (dec_le (width c) n) (λ m. before_some m cs)
  where
    go : Dec (width c ≤ n) → ((m : ℕ) → Some (before m cs)) → Some (before n (c ∷ cs))
    go (yes l) ih = subst Some (sym (before_whole n c cs l)) (units_some c, ih (n - width c))
    go (no l) ih = subst Some (sym (before-cut n c cs (omega arith))) tt

before-units : (s : List ℕ) (fuel i n : ℕ) → n ≤ fuel → units_of (before n (chars (drop i s))) ≤ n
before-units s zero i n f = let e : n ≡ 0 = omega arith in omega (arith, ap (λ (m : ℕ). units_of (before m (chars (drop i s)))) e, ap units_of (before_none s i), units_none)
before-units s (suc fuel) i n f = go (dec_lt i (length s)) (λ j m l. before-units s fuel j m l)
  where
    at : i < length s → Dec (width (char_at (drop i s)) ≤ n) → ((j m : ℕ) → m ≤ fuel → units_of (before m (chars (drop j s))) ≤ m) → units_of (before n (chars (drop i s))) ≤ n
    at h (yes l) ih =
        let w = width (char_at (drop i s)) in
        let p = (fits_at s i h).0 in
        omega (arith, ap units_of (before-step s i h n l), units-cons (counted_at s i) (before (n - w) (chars (drop (i + w) s))), ih (i + w) (n - w) (omega arith), units-width s i h)
    at h (no l) ih = omega (arith, ap units_of (before_stop s i h n (omega arith)), units_none)

    go : Dec (i < length s) → ((j m : ℕ) → m ≤ fuel → units_of (before m (chars (drop j s))) ≤ m) → units_of (before n (chars (drop i s))) ≤ n
    go (yes h) ih = at h (dec_le (width (char_at (drop i s))) n) ih
    go (no h) ih = omega (arith, ap (λ (cs : List Char). units_of (before n cs)) (chars_end s i (omega arith)), before-nil n)

-- no more than the bytes before the offset
pub place_most : (s : List ℕ) (offset : ℕ) → (place_of s offset).line + (place_of s offset).column ≤ offset
unfolding place_of
place_most s offset = omega (arith, place-units (before offset (chars s)) (before_some offset (chars s)), before-units s offset 0 offset (omega arith))
