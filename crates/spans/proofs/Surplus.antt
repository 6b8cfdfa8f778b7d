-- What a character has more of bytes than of units, by its first bytes. Assumes nothing.
use Prim.Native.Nat.{ℕ, zero, suc, ◌+◌, ◌-◌, ◌≤◌, ◌<◌}
use mathlib.Core.Path.{◌≡◌, refl, sym, ap, ap₂, ◌∙◌}
use mathlib.Core.List.{List}
use mathlib.Core.Bool.{Bool, true, false, not, cond, ◌&&◌, and-false}
use native.Mathlib.Omega.{arith}
use native.Mathlib.Decide.{dec_lt}
use lib.Dec.{leb, eqb}
use lib.ListN.{length, get_or, drop}
use mir.Val.{bool_byte}
use borrow.Author.Tests.{le-leb, lt-leb, ne_eqb, eq-eqb, leb-true, leb-false, eqb-true, eqb-false, not-true}
use Rattle.rules.specs.Utf8.{within, utf8_tail, utf8_two, utf8_three, utf8_four, formed, well_formed, begun, width, char_at}
use Rattle.rules.proofs.Tests.{and_both}
use Rattle.rules.proofs.Decoding.{three-first, three_surrogate, three_other, four_first, four_last, four_other, four_above, at_index, begun_index, begun_low, begun_middle, begun_high, formed-one, formed_low, formed-two, formed-three, formed_four, form_of, form_most, broken_range, width-broken, width-formed, some_left}
use Rattle.rules.proofs.Places.{units_four, units_other}
use Rattle.spans.specs.Sums.{bit, surplus_at, goes_on, surplus_by, marked, mark_at}
use Rattle.spans.specs.declared.places.Mark.TheVariants.{Lead, Two, Three, Four}

and-true : (x : Bool) → (x && true) ≡ x
and-true true = refl
and-true false = refl

pub bit_most : (t : Bool) → bit t ≤ 1
bit_most true = omega arith
bit_most false = omega arith

-- as the code converts a test
pub byte_bit : (t : Bool) → bool_byte t ≡ bit t
byte_bit true = refl
byte_bit false = refl

-- a tail that is bounded more
from_low : (lo b : ℕ) → 0x80 ≤ lo → (utf8_tail b && leb lo b) ≡ within lo 0xBF b
from_low lo b h = go (leb lo b) refl
  where
    go : (t : Bool) → leb lo b ≡ t → (utf8_tail b && leb lo b) ≡ within lo 0xBF b
    go true e = simp (e, le-leb 0x80 b (let k = leb-true lo b e in omega arith), and-true)
    go false e = simp (e, and-false)

upto_high : (hi b : ℕ) → hi < 0xBF → (utf8_tail b && not (leb (suc hi) b)) ≡ within 0x80 hi b
upto_high hi b h = go (leb (suc hi) b) refl
  where
    go : (t : Bool) → leb (suc hi) b ≡ t → (utf8_tail b && not (leb (suc hi) b)) ≡ within 0x80 hi b
    go true e = let k = leb-true (suc hi) b e in simp (e, lt-leb b hi (omega arith), and-false)
    go false e = let k = leb-false (suc hi) b e in simp (e, le-leb b 0xBF (omega arith), le-leb b hi (omega arith), and-true)

-- The second byte, by the first.
module _ (a b : ℕ) where
  goes_low : a < 0xC2 → goes_on a b ≡ false
  goes_low h = simp (lt-leb 0xC2 a h)

  goes_above : 0xF4 < a → goes_on a b ≡ false
  goes_above h = simp (lt-leb a 0xF4 h, and-false)

  goes_plain : 0xC2 ≤ a → a < 0xF4 → (a ≡ 0xE0 → ⊥) → (a ≡ 0xED → ⊥) → (a ≡ 0xF0 → ⊥) → goes_on a b ≡ utf8_tail b
  goes_plain l h x y z =
      simp (le-leb 0xC2 a l, le-leb a 0xF4 (omega arith), ne_eqb a 0xE0 x, ne_eqb a 0xED y, ne_eqb a 0xF0 z, ne_eqb a 0xF4 (λ e. omega arith), and-true)

  goes_first : a ≡ 0xE0 → goes_on a b ≡ within 0xA0 0xBF b
  goes_first e = rw e (simp and-true (from_low 0xA0 b (omega arith)))

  goes_surrogate : a ≡ 0xED → goes_on a b ≡ within 0x80 0x9F b
  goes_surrogate e = rw e (simp and-true (upto_high 0x9F b (omega arith)))

  goes_four : a ≡ 0xF0 → goes_on a b ≡ within 0x90 0xBF b
  goes_four e = rw e (simp and-true (from_low 0x90 b (omega arith)))

  goes_last : a ≡ 0xF4 → goes_on a b ≡ within 0x80 0x8F b
  goes_last e = rw e (upto_high 0x8F b (omega arith))

  -- UTF8-3 and UTF8-4 by the second byte
  three_goes : (c : ℕ) → 0xE0 ≤ a → a < 0xF0 → utf8_three a b c ≡ (goes_on a b && utf8_tail c)
  three_goes c l h = go (eqb a 0xE0) refl (eqb a 0xED) refl
    where
      go : (t : Bool) → eqb a 0xE0 ≡ t → (u : Bool) → eqb a 0xED ≡ u → utf8_three a b c ≡ (goes_on a b && utf8_tail c)
      go true p u q = let e = eqb-true a 0xE0 p in three-first a b c e ∙ ap (λ (x : Bool). x && utf8_tail c) (sym (goes_first e))
      go false p true q = let e = eqb-true a 0xED q in three_surrogate a b c e ∙ ap (λ (x : Bool). x && utf8_tail c) (sym (goes_surrogate e))
      go false p false q =
          three_other a b c (omega (arith, eqb-false a 0xE0 p)) h (eqb-false a 0xED q)
          ∙ ap (λ (x : Bool). x && utf8_tail c) (sym (goes_plain (omega arith) (omega arith) (eqb-false a 0xE0 p) (eqb-false a 0xED q) (λ e. omega arith)))

  four_goes : (c d : ℕ) → 0xF0 ≤ a → utf8_four a b c d ≡ (goes_on a b && utf8_tail c && utf8_tail d)
  four_goes c d l = go (dec_lt 0xF0 a) (dec_lt a 0xF4) (dec_lt 0xF4 a)
    where
      by : {x : Bool} → utf8_four a b c d ≡ (x && utf8_tail c && utf8_tail d) → goes_on a b ≡ x → utf8_four a b c d ≡ (goes_on a b && utf8_tail c && utf8_tail d)
      by e f = e ∙ ap (λ (x : Bool). x && utf8_tail c && utf8_tail d) (sym f)

      go : Dec (0xF0 < a) → Dec (a < 0xF4) → Dec (0xF4 < a) → utf8_four a b c d ≡ (goes_on a b && utf8_tail c && utf8_tail d)
      go (no m) x y = let e : a ≡ 0xF0 = omega arith in by (four_first a b c d e) (goes_four e)
      go (yes m) (yes x) y = by (four_other a b c d m x) (goes_plain (omega arith) x (λ e. omega arith) (λ e. omega arith) (λ e. omega arith))
      go (yes m) (no x) (yes y) = by (four_above a b c d y) (goes_above y)
      go (yes m) (no x) (no y) = let e : a ≡ 0xF4 = omega arith in by (four_last a b c d e) (goes_last e)

-- What the character at an index adds, by its form.
module _ (s : List ℕ) (i : ℕ) (h : i < length s) where
  abbrev a : ℕ
  a = get_or s i 0

  abbrev b : ℕ
  b = get_or s (i + 1) 0

  abbrev c : ℕ
  c = get_or s (i + 2) 0

  abbrev d : ℕ
  d = get_or s (i + 3) 0

  by_form : (w : ℕ) → formed a b c d ≡ suc w → surplus_at s i ≡ cond (eqb (suc w) 4) 2 w
  by_form w e = go (dec_lt w 3)
    where
      f : well_formed (drop i s) ≡ suc w
      f = at_index s i ∙ e

      go : Dec (w < 3) → surplus_at s i ≡ cond (eqb (suc w) 4) 2 w
      go (yes l) =
          rw (ne_eqb (suc w) 4 (λ g. omega arith))
          (omega (arith, units_other (drop i s) (λ g. omega (arith, f)), width-formed (drop i s) w (some_left s i h) f))
      go (no l) =
          let m : suc w ≡ 4 = omega (arith, f, form_most (form_of (drop i s))) in
          rw (eq-eqb (suc w) 4 m) (omega (arith, units_four (drop i s) (f ∙ m), width-formed (drop i s) w (some_left s i h) f))

  -- a broken one by what is begun
  by_begun : (n : ℕ) → formed a b c d ≡ 0 → begun a b c ≡ suc n → surplus_at s i ≡ n
  by_begun n e g =
      let f = at_index s i ∙ e in
      omega (arith, units_other (drop i s) (λ g. omega arith), width-broken (drop i s) (some_left s i h) f, begun_index s i ∙ g)

  -- by the second byte and the third
  in_two : (t : Bool) → formed a b c d ≡ cond t 2 0 → begun a b c ≡ 1 → surplus_at s i ≡ bit t
  in_two true e g = by_form 1 e
  in_two false e g = by_begun 0 e g

  in_three : (t u : Bool) → formed a b c d ≡ cond (t && u) 3 0 → begun a b c ≡ cond (t && true) 2 1 → surplus_at s i ≡ bit t + bit (t && u)
  in_three true true e g = by_form 2 e
  in_three true false e g = by_begun 1 e g
  in_three false u e g = by_begun 0 e g

  in_four : (t u v : Bool) → formed a b c d ≡ cond (t && u && v) 4 0 → begun a b c ≡ cond (t && u && true) 3 (cond (t && true && true) 2 1) → surplus_at s i ≡ bit t + bit (t && u)
  in_four true true true e g = by_form 3 e
  in_four true true false e g = by_begun 2 e g
  in_four true false v e g = by_begun 1 e g
  in_four false u v e g = by_begun 0 e g

  pub surplus_low : a < 0xC2 → surplus_at s i ≡ 0
  surplus_low l = go (dec_lt a 0x80)
    where
      go : Dec (a < 0x80) → surplus_at s i ≡ 0
      go (yes m) = by_form 0 (formed-one a b c d m)
      go (no m) = by_begun 0 (formed_low a b c d (omega arith) l) (begun_low a b c (omega arith))

  parts : 0xE0 ≤ a → surplus_at s i ≡ bit (goes_on a b) + bit (goes_on a b && utf8_tail c)
  parts l = go (dec_lt a 0xF0)
    where
      go : Dec (a < 0xF0) → surplus_at s i ≡ bit (goes_on a b) + bit (goes_on a b && utf8_tail c)
      go (yes u) =
          in_three (goes_on a b) (utf8_tail c)
          (formed-three a b c d l u ∙ ap (λ (t : Bool). cond t 3 0) (three_goes a b c l u))
          (begun_middle a b c l u ∙ ap (λ (t : Bool). cond t 2 1) (three_goes a b 0x80 l u))
      go (no u) =
          let m : 0xF0 ≤ a = omega arith in
          in_four (goes_on a b) (utf8_tail c) (utf8_tail d)
          (formed_four a b c d m ∙ ap (λ (t : Bool). cond t 4 0) (four_goes a b c d m))
          (begun_high a b c m ∙ ap₂ (λ (t u : Bool). cond t 3 (cond u 2 1)) (four_goes a b c 0x80 m) (four_goes a b 0x80 0x80 m))

  first_two : 0xC2 ≤ a → a < 0xE0 → surplus_at s i ≡ bit (utf8_tail b)
  first_two l u = in_two (utf8_tail b) (formed-two a b c d l u) (begun_low a b c u)

  -- a unit for each byte but for the second and the third
  pub surplus_parts : surplus_at s i ≡ surplus_by a b c
  surplus_parts = go (dec_lt a 0xC2) (dec_lt a 0xE0)
    where
      go : Dec (a < 0xC2) → Dec (a < 0xE0) → surplus_at s i ≡ bit (goes_on a b) + bit ((goes_on a b && leb 0xE0 a) && utf8_tail c)
      go (yes l) x = surplus_low l ∙ sym (rw (goes_low a b l))
      go (no l) (yes u) =
          let g = goes_plain a b (omega arith) (omega arith) (λ e. omega arith) (λ e. omega arith) (λ e. omega arith) in
          omega (arith, first_two (omega arith) u, ap bit g, no_third u)
        where
          no_third : a < 0xE0 → bit ((goes_on a b && leb 0xE0 a) && utf8_tail c) ≡ 0
          no_third u = rw (lt-leb 0xE0 a u, and-false (goes_on a b))
      go (no l) (no u) =
          let e : (goes_on a b && leb 0xE0 a) ≡ goes_on a b = rw (le-leb 0xE0 a (omega arith)) (and-true (goes_on a b)) in
          parts (omega arith) ∙ sym (ap (λ (t : Bool). bit (goes_on a b) + bit (t && utf8_tail c)) e)

  pub surplus_most : surplus_at s i ≤ 2
  surplus_most = omega (arith, surplus_parts, bit_most (goes_on a b), bit_most ((goes_on a b && leb 0xE0 a) && utf8_tail c))

  -- by its length
  pub surplus_wide : width (char_at (drop i s)) ≡ 4 → surplus_at s i ≡ 2
  surplus_wide e = go (formed a b c d) refl
    where
      go : (w : ℕ) → formed a b c d ≡ w → surplus_at s i ≡ 2
      go zero f = absurd (omega (arith, width-broken (drop i s) (some_left s i h) (at_index s i ∙ f), (broken_range (drop i s)).1))
      go (suc w) f = let m : suc w ≡ 4 = omega (arith, width-formed (drop i s) w (some_left s i h) (at_index s i ∙ f)) in by_form 3 (f ∙ m)

  pub surplus_other : (width (char_at (drop i s)) ≡ 4 → ⊥) → surplus_at s i ≡ width (char_at (drop i s)) - 1
  surplus_other n = ap (λ (m : ℕ). width (char_at (drop i s)) - m) (units_other (drop i s) (λ f. n (width-formed (drop i s) 3 (some_left s i h) f)))

  -- below E0
  pub surplus_two : a < 0xE0 → surplus_at s i ≡ mark_at Two s i
  unfolding marked
  surplus_two u = go (dec_lt a 0xC2)
    where
      go : Dec (a < 0xC2) → surplus_at s i ≡ bit (utf8_two a b)
      go (yes l) = surplus_low l ∙ sym (rw (lt-leb 0xC2 a l))
      go (no l) = first_two (omega arith) u ∙ sym (rw (le-leb 0xC2 a (omega arith), le-leb a 0xDF (omega arith)))

  -- two, where it goes on to a third byte
  twice : goes_on a b ≡ true → 0xE0 ≤ a → utf8_tail c ≡ true → surplus_at s i ≡ 2
  twice g l t = parts l ∙ ap₂ (λ (x y : Bool). bit x + bit (x && y)) g t

  pub surplus_three : a < 0xF0 → marked Three a b c ≡ true → (surplus_at s i ≡ 2) × (mark_at Lead s i ≡ 1)
  unfolding marked
  surplus_three u e =
      let k = and_both (leb 0xE1 a && not (eqb a 0xED)) (utf8_tail b && utf8_tail c) e in
      let f = and_both (leb 0xE1 a) (not (eqb a 0xED)) k.0 in
      let t = and_both (utf8_tail b) (utf8_tail c) k.1 in
      let m = leb-true 0xE1 a f.0 in (
        twice (goes_plain a b (omega arith) (omega arith) (λ e. omega arith) (eqb-false a 0xED (not-true _ f.1)) (λ e. omega arith) ∙ t.0) (omega arith) t.1,
        ap bit (le-leb 0xC2 a (omega arith)),
      )

  pub surplus_four : marked Four a b c ≡ true → (surplus_at s i ≡ 2) × (mark_at Lead s i ≡ 1)
  unfolding marked
  surplus_four o =
      let k = and_both (eqb a 0xF0 && within 0x90 0xBF b) (utf8_tail c) o in
      let f = and_both (eqb a 0xF0) (within 0x90 0xBF b) k.0 in
      let e = eqb-true a 0xF0 f.0 in
      (twice (goes_four a b e ∙ f.1) (omega arith) k.1, ap bit (le-leb 0xC2 a (omega arith)))

  -- none, where it is no lead
  pub surplus_none : mark_at Lead s i ≡ 0 → surplus_at s i ≡ 0
  unfolding marked
  surplus_none e = go (dec_lt a 0xC2)
    where
      go : Dec (a < 0xC2) → surplus_at s i ≡ 0
      go (yes l) = surplus_low l
      go (no l) = absurd (omega (arith, e, ap bit (le-leb 0xC2 a (omega arith))))

-- After a byte that adds comes a tail, which adds nothing.
pub surplus_next : (s : List ℕ) (i : ℕ) → i + 1 < length s → 0 < surplus_at s i → surplus_at s (i + 1) ≡ 0
surplus_next s i h p = go (goes_on (get_or s i 0) (get_or s (i + 1) 0)) refl
  where
    none : goes_on (get_or s i 0) (get_or s (i + 1) 0) ≡ false → surplus_by (get_or s i 0) (get_or s (i + 1) 0) (get_or s (i + 2) 0) ≡ 0
    none e = rw e

    go : (t : Bool) → goes_on (get_or s i 0) (get_or s (i + 1) 0) ≡ t → surplus_at s (i + 1) ≡ 0
    go false e = absurd (omega (arith, surplus_parts s i (omega arith), none e))
    go true e =
        let t = (and_both (leb 0xC2 (get_or s i 0)) (utf8_tail (get_or s (i + 1) 0)) (and_both (leb 0xC2 (get_or s i 0) && utf8_tail (get_or s (i + 1) 0)) _ e).0).1 in
        let l = leb-true (get_or s (i + 1) 0) 0xBF (and_both (leb 0x80 (get_or s (i + 1) 0)) (leb (get_or s (i + 1) 0) 0xBF) t).1 in
        surplus_low s (i + 1) h (omega arith)
