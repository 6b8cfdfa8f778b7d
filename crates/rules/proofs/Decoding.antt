-- The laws of decoding that proofs of code cite: a character's form by its first byte, where a character ends, the characters and the
-- longest valid prefix of a text from an index on, and that no byte of ASCII lies inside a character.
-- Assumes nothing.
use Prim.Native.Nat.{ℕ, zero, suc, ◌+◌, ◌-◌, ◌*◌, ◌%◌, ◌≤◌, ◌<◌}
use mathlib.Core.Path.{◌≡◌, refl, ap, ◌∙◌}
use mathlib.Core.List.{List, [], ◌∷◌}
use mathlib.Core.Bool.{Bool, true, false, cond, ◌&&◌, ◌||◌, and-false, or-false}
use native.Mathlib.Nat.{add-zero, not-suc-le-zero}
use native.Mathlib.Omega.{arith}
use borrow.Author.Tests.{le-leb, lt-leb, ne_eqb, leb-true, leb-false, ltb-true, ltb-false}
use lib.ListN.{length, get_or, take, drop, drop_of_length-le, length-drop, length-take, get_or-eq_default}
use lib.Seq.{get_or-drop, drop-drop, drop-cons}
use lib.Dec.{T, leb, ltb, eqb, leb→le, eqb→eq}
use Rattle.rules.specs.Utf8.{within, utf8_tail, utf8_one, utf8_two, utf8_three, utf8_four, formed, well_formed, begun, broken_length, code_of, Char, width, no_code, char_of, char_at, chars_after, chars, valid_after, valid_length}

-- the form at an index, by the four bytes from it on, and what is begun there, by three
pub at_index : (s : List ℕ) (i : ℕ) → well_formed (drop i s) ≡ formed (get_or s i 0) (get_or s (i + 1) 0) (get_or s (i + 2) 0) (get_or s (i + 3) 0)
at_index s i = simp (get_or-drop, add-zero)

pub begun_index : (s : List ℕ) (i : ℕ) → broken_length (drop i s) ≡ begun (get_or s i 0) (get_or s (i + 1) 0) (get_or s (i + 2) 0)
begun_index s i = simp (get_or-drop, add-zero)

-- The rules that a first byte leaves.
module _ (a : ℕ) where
  two_below : (b : ℕ) → a < 0xC2 → utf8_two a b ≡ false
  two_below b h = simp (lt-leb 0xC2 a (omega arith))

  two_above : (b : ℕ) → 0xDF < a → utf8_two a b ≡ false
  two_above b h = simp (le-leb 0xC2 a (omega arith), lt-leb a 0xDF (omega arith))

  pub three_below : (b c : ℕ) → a < 0xE0 → utf8_three a b c ≡ false
  three_below b c h = simp (ne_eqb a 0xE0 (λ e. omega arith), lt-leb 0xE1 a (omega arith), ne_eqb a 0xED (λ e. omega arith), lt-leb 0xEE a (omega arith))

  pub three_above : (b c : ℕ) → 0xEF < a → utf8_three a b c ≡ false
  three_above b c h =
      simp (
        ne_eqb a 0xE0 (λ e. omega arith),
        le-leb 0xE1 a (omega arith),
        lt-leb a 0xEC (omega arith),
        ne_eqb a 0xED (λ e. omega arith),
        le-leb 0xEE a (omega arith),
        lt-leb a 0xEF (omega arith),
      )

  pub four_below : (b c d : ℕ) → a < 0xF0 → utf8_four a b c d ≡ false
  four_below b c d h = simp (ne_eqb a 0xF0 (λ e. omega arith), lt-leb 0xF1 a (omega arith), ne_eqb a 0xF4 (λ e. omega arith))

  pub four_above : (b c d : ℕ) → 0xF4 < a → utf8_four a b c d ≡ false
  four_above b c d h = simp (ne_eqb a 0xF0 (λ e. omega arith), le-leb 0xF1 a (omega arith), lt-leb a 0xF3 (omega arith), ne_eqb a 0xF4 (λ e. omega arith))

  -- the alternatives of UTF8-3 and UTF8-4, by the first byte
  pub three-first : (b c : ℕ) → a ≡ 0xE0 → utf8_three a b c ≡ (within 0xA0 0xBF b && utf8_tail c)
  three-first b c e = rw e (simp or-false)

  pub three_surrogate : (b c : ℕ) → a ≡ 0xED → utf8_three a b c ≡ (within 0x80 0x9F b && utf8_tail c)
  three_surrogate b c e = rw e (simp or-false)

  pub three_other : (b c : ℕ) → 0xE0 < a → a < 0xF0 → (a ≡ 0xED → ⊥) → utf8_three a b c ≡ (utf8_tail b && utf8_tail c)
  three_other b c l h n = go (leb a 0xEC) refl
    where
      go : (t : Bool) → leb a 0xEC ≡ t → utf8_three a b c ≡ (utf8_tail b && utf8_tail c)
      go true e =
          let u = leb-true a 0xEC e in
          simp (ne_eqb a 0xE0 (λ e. omega arith), le-leb 0xE1 a (omega arith), e, ne_eqb a 0xED n, lt-leb 0xEE a (omega arith), or-false)
      go false e =
          let u = leb-false a 0xEC e in
          let v : 0xEE ≤ a = omega (arith, n) in
          simp (ne_eqb a 0xE0 (λ e. omega arith), le-leb 0xE1 a (omega arith), e, ne_eqb a 0xED n, le-leb 0xEE a v, le-leb a 0xEF (omega arith))

  pub four_first : (b c d : ℕ) → a ≡ 0xF0 → utf8_four a b c d ≡ (within 0x90 0xBF b && utf8_tail c && utf8_tail d)
  four_first b c d e = rw e (simp or-false)

  pub four_last : (b c d : ℕ) → a ≡ 0xF4 → utf8_four a b c d ≡ (within 0x80 0x8F b && utf8_tail c && utf8_tail d)
  four_last b c d e = rw e

  pub four_other : (b c d : ℕ) → 0xF0 < a → a < 0xF4 → utf8_four a b c d ≡ (utf8_tail b && utf8_tail c && utf8_tail d)
  four_other b c d l h =
      simp (ne_eqb a 0xF0 (λ e. omega arith), le-leb 0xF1 a (omega arith), le-leb a 0xF3 (omega arith), ne_eqb a 0xF4 (λ e. omega arith), or-false)

-- a form of four bytes is not cut short: past the end of a text a byte reads as 0
pub four_short : (a b c d : ℕ) → d ≡ 0 → utf8_four a b c d ≡ false
four_short a b c d e = rw e (simp and-false)

-- the form, by the first byte
module _ (a b c d : ℕ) where
  pub formed-one : a < 0x80 → formed a b c d ≡ 1
  unfolding formed
  formed-one h = rw (le-leb a 0x7F (omega arith))

  pub formed_low : 0x80 ≤ a → a < 0xC2 → formed a b c d ≡ 0
  unfolding formed
  formed_low l h = simp (lt-leb a 0x7F (omega arith), two_below a b h, three_below a b c (omega arith), four_below a b c d (omega arith))

  pub formed-two : 0xC2 ≤ a → a < 0xE0 → formed a b c d ≡ cond (utf8_tail b) 2 0
  unfolding formed
  formed-two l h =
      simp (lt-leb a 0x7F (omega arith), le-leb 0xC2 a l, le-leb a 0xDF (omega arith), three_below a b c h, four_below a b c d (omega arith))

  pub formed-three : 0xE0 ≤ a → a < 0xF0 → formed a b c d ≡ cond (utf8_three a b c) 3 0
  unfolding formed
  formed-three l h = rw (lt-leb a 0x7F (omega arith)) (rw (two_above a b (omega arith)) (rw (four_below a b c d h)))

  pub formed_four : 0xF0 ≤ a → formed a b c d ≡ cond (utf8_four a b c d) 4 0
  unfolding formed
  formed_four l = rw (lt-leb a 0x7F (omega arith)) (rw (two_above a b (omega arith)) (rw (three_above a b c (omega arith))))

abbrev pub Tail : ℕ → Type 0
Tail b = (0x80 ≤ b) × (b ≤ 0xBF)

-- What a form says of its bytes, by its length. The first two bytes as one number show what is no overlong form and no number past U+10FFFF.
pub data Form (a b c d : ℕ) : ℕ → Type 0 where
  none : Form a b c d 0
  one : a < 0x80 → Form a b c d 1
  two : 0xC2 ≤ a → a ≤ 0xDF → Tail b → Form a b c d 2
  three : 0xE0A0 ≤ a * 256 + b → a ≤ 0xEF → Tail b → Tail c → Form a b c d 3
  four : 0xF090 ≤ a * 256 + b → a * 256 + b ≤ 0xF48F → Tail b → Tail c → Tail d → Form a b c d 4

cond_ind : (F : ℕ → Type 0) (t : Bool) (x y : ℕ) → (T t → F x) → F y → F (cond t x y)
cond_ind F true x y f g = f tt
cond_ind F false x y f g = g

or_ind : {F : Type 0} (a b : Bool) → T (a || b) → (T a → F) → (T b → F) → F
or_ind true b t f g = f tt
or_ind false b t f g = g t

and_T : (a b : Bool) → T (a && b) → T a × T b
and_T true b t = (tt, t)
and_T false b t = absurd t

in_range : (lo hi b : ℕ) → T (within lo hi b) → (lo ≤ b) × (b ≤ hi)
in_range lo hi b t = let p = and_T (leb lo b) (leb b hi) t in (leb→le lo b p.0, leb→le b hi p.1)

in_point : (n b : ℕ) → T (eqb b n) → (n ≤ b) × (b ≤ n)
in_point n b t = let e = eqb→eq b n t in (omega arith, omega arith)

-- an alternative of UTF8-3 or UTF8-4: first bytes l to h, by the test x, with second bytes lo to hi
module _ (a b c d l h lo hi : ℕ) (x : Bool) (first : T x → (l ≤ a) × (a ≤ h)) (tail : (0x80 ≤ lo) × (hi ≤ 0xBF)) where
  three_of : 0xE0A0 ≤ l * 256 + lo → h ≤ 0xEF → T (x && within lo hi b && utf8_tail c) → Form a b c d 3
  three_of from upto t =
      let p = and_T (x && within lo hi b) (utf8_tail c) t in
      let q = and_T x (within lo hi b) p.0 in
      let ra = first q.0 in
      let rb = in_range lo hi b q.1 in
      let rc = in_range 0x80 0xBF c p.1 in
      three (omega arith) (omega arith) (omega arith, omega arith) rc

  four_of : 0xF090 ≤ l * 256 + lo → h * 256 + hi ≤ 0xF48F → T (x && within lo hi b && utf8_tail c && utf8_tail d) → Form a b c d 4
  four_of from upto t =
      let o = and_T (x && within lo hi b && utf8_tail c) (utf8_tail d) t in
      let p = and_T (x && within lo hi b) (utf8_tail c) o.0 in
      let q = and_T x (within lo hi b) p.0 in
      let ra = first q.0 in
      let rb = in_range lo hi b q.1 in
      let rc = in_range 0x80 0xBF c p.1 in
      let rd = in_range 0x80 0xBF d o.1 in
      four (omega arith) (omega arith) (omega arith, omega arith) rc rd

module _ (a b c d : ℕ) where
  by_two : T (utf8_two a b) → Form a b c d 2
  by_two t =
      let p = and_T (within 0xC2 0xDF a) (utf8_tail b) t in
      let ra = in_range 0xC2 0xDF a p.0 in
      two ra.0 ra.1 (in_range 0x80 0xBF b p.1)

  by_three : T (utf8_three a b c) → Form a b c d 3
  by_three t =
      let e0 = eqb a 0xE0 && within 0xA0 0xBF b && utf8_tail c in
      let e1 = within 0xE1 0xEC a && utf8_tail b && utf8_tail c in
      let ed = eqb a 0xED && within 0x80 0x9F b && utf8_tail c in
      let ee = within 0xEE 0xEF a && utf8_tail b && utf8_tail c in
      or_ind (e0 || e1 || ed) ee t
      (λ t. or_ind (e0 || e1) ed t
      (λ t. or_ind e0 e1 t
      (three_of a b c d 0xE0 0xE0 0xA0 0xBF (eqb a 0xE0) (in_point 0xE0 a) (omega arith, omega arith) (omega arith) (omega arith))
      (three_of a b c d 0xE1 0xEC 0x80 0xBF (within 0xE1 0xEC a) (in_range 0xE1 0xEC a) (omega arith, omega arith) (omega arith) (omega arith)))
      (three_of a b c d 0xED 0xED 0x80 0x9F (eqb a 0xED) (in_point 0xED a) (omega arith, omega arith) (omega arith) (omega arith)))
      (three_of a b c d 0xEE 0xEF 0x80 0xBF (within 0xEE 0xEF a) (in_range 0xEE 0xEF a) (omega arith, omega arith) (omega arith) (omega arith))

  by_four : T (utf8_four a b c d) → Form a b c d 4
  by_four t =
      let f0 = eqb a 0xF0 && within 0x90 0xBF b && utf8_tail c && utf8_tail d in
      let f1 = within 0xF1 0xF3 a && utf8_tail b && utf8_tail c && utf8_tail d in
      let f4 = eqb a 0xF4 && within 0x80 0x8F b && utf8_tail c && utf8_tail d in
      or_ind (f0 || f1) f4 t
      (λ t. or_ind f0 f1 t
      (four_of a b c d 0xF0 0xF0 0x90 0xBF (eqb a 0xF0) (in_point 0xF0 a) (omega arith, omega arith) (omega arith) (omega arith))
      (four_of a b c d 0xF1 0xF3 0x80 0xBF (within 0xF1 0xF3 a) (in_range 0xF1 0xF3 a) (omega arith, omega arith) (omega arith) (omega arith)))
      (four_of a b c d 0xF4 0xF4 0x80 0x8F (eqb a 0xF4) (in_point 0xF4 a) (omega arith, omega arith) (omega arith) (omega arith))

  pub form : Form a b c d (formed a b c d)
  unfolding formed
  form =
      let F = Form a b c d in
      cond_ind F (utf8_one a) _ _ (λ t. one (let h = leb→le a 0x7F t in omega arith))
      (cond_ind F (utf8_two a b) _ _ by_two
      (cond_ind F (utf8_three a b c) _ _ by_three
      (cond_ind F (utf8_four a b c d) _ _ by_four none)))

-- the form of a text's first character, by its length
pub form_of : (t : List ℕ) → Form (get_or t 0 0) (get_or t 1 0) (get_or t 2 0) (get_or t 3 0) (well_formed t)
form_of t = form (get_or t 0 0) (get_or t 1 0) (get_or t 2 0) (get_or t 3 0)

-- What a broken character's length says of its bytes: #105, "the longest run of bytes there that begins some well-formed character".
pub data Begun (a b c : ℕ) : ℕ → Type 0 where
  one : Begun a b c 1
  two : 0xE0A0 ≤ a * 256 + b → Tail b → Begun a b c 2
  three : 0xF090 ≤ a * 256 + b → Tail b → Tail c → Begun a b c 3

module _ (a b c : ℕ) where
  by_third : T (utf8_three a b 0x80) → Begun a b c 2
  by_third t = go (by_three a b 0x80 0 t)
    where
      go : Form a b 0x80 0 3 → Begun a b c 2
      go (three l h tb tc) = two l tb

  by_fourth : (x : ℕ) → T (utf8_four a b x 0x80) → (0xF090 ≤ a * 256 + b) × Tail b × Tail x
  by_fourth x t = go (by_four a b x 0x80 t)
    where
      go : Form a b x 0x80 4 → (0xF090 ≤ a * 256 + b) × Tail b × Tail x
      go (four l h tb tc td) = (l, tb, tc)

  begun_form : Begun a b c (begun a b c)
  unfolding begun
  begun_form =
      let F = Begun a b c in
      cond_ind F (utf8_four a b c 0x80) _ _ (λ t. let p = by_fourth c t in three p.0 p.1 p.2)
      (cond_ind F (utf8_three a b 0x80 || utf8_four a b 0x80 0x80) _ _
      (λ t. or_ind (utf8_three a b 0x80) (utf8_four a b 0x80 0x80) t by_third (λ t. let p = by_fourth 0x80 t in two (let l = p.0 in omega arith) p.1))
      one)

  -- a first byte below E0 begins no run of more
  pub begun_low : a < 0xE0 → begun a b c ≡ 1
  unfolding begun
  begun_low h = rw (four_below a b c 0x80 (omega arith), three_below a b 0x80 h, four_below a b 0x80 0x80 (omega arith))

  -- by a first byte of E0 to EF, and of F0 or more
  pub begun_middle : 0xE0 ≤ a → a < 0xF0 → begun a b c ≡ cond (utf8_three a b 0x80) 2 1
  unfolding begun
  begun_middle l h = rw (four_below a b c 0x80 h, four_below a b 0x80 0x80 h, or-false (utf8_three a b 0x80))

  pub begun_high : 0xF0 ≤ a → begun a b c ≡ cond (utf8_four a b c 0x80) 3 (cond (utf8_four a b 0x80 0x80) 2 1)
  unfolding begun
  begun_high l = rw (three_above a b 0x80 (omega arith))

begun_tails : {a b c n : ℕ} → Begun a b c n → (0 < n) × (n ≤ 3) × (1 < n → Tail b) × (2 < n → Tail c)
begun_tails one = (omega arith, omega arith, λ u. absurd (omega arith), λ u. absurd (omega arith))
begun_tails (two l b) = (omega arith, omega arith, λ u. b, λ u. absurd (omega arith))
begun_tails (three l b c) = (omega arith, omega arith, λ u. b, λ u. c)

begun_of : (t : List ℕ) → Begun (get_or t 0 0) (get_or t 1 0) (get_or t 2 0) (broken_length t)
begun_of t = begun_form (get_or t 0 0) (get_or t 1 0) (get_or t 2 0)

-- A broken character has one byte to three.
pub broken_range : (t : List ℕ) → (0 < broken_length t) × (broken_length t ≤ 3)
broken_range t = let p = begun_tails (begun_of t) in (p.0, p.1)

-- a byte that is not 0 lies within its text
pub within_text : (t : List ℕ) (k : ℕ) → 0 < get_or t k 0 → k < length t
within_text t k h = go (ltb k (length t)) refl
  where
    go : (x : Bool) → ltb k (length t) ≡ x → k < length t
    go true e = ltb-true k (length t) e
    go false e = let z = get_or-eq_default t 0 (ltb-false k (length t) e) in absurd (omega arith)

-- a character ends within its text
pub ends_within : (t : List ℕ) → 0 < length t → well_formed t ≤ length t
ends_within t h = go (form_of t)
  where
    go : {w : ℕ} → Form (get_or t 0 0) (get_or t 1 0) (get_or t 2 0) (get_or t 3 0) w → w ≤ length t
    go none = omega arith
    go (one a) = omega arith
    go (two a a2 b) = omega (arith, within_text t 1 (omega (arith, b)))
    go (three a a2 b c) = omega (arith, within_text t 2 (omega (arith, c)))
    go (four a a2 b c d) = omega (arith, within_text t 3 (omega (arith, d)))

pub broken-within : (t : List ℕ) → 0 < length t → broken_length t ≤ length t
broken-within t h = go (begun_of t)
  where
    go : {n : ℕ} → Begun (get_or t 0 0) (get_or t 1 0) (get_or t 2 0) n → n ≤ length t
    go one = omega arith
    go (two l b) = omega (arith, within_text t 1 (omega (arith, b)))
    go (three l b c) = omega (arith, within_text t 2 (omega (arith, c)))

-- The character at the front of a text that is not empty: its bytes, and what stands after it.
broken_of : (t : List ℕ) → broken_length t ≤ length t → width (char_of 0 t) ≡ broken_length t
unfolding char_of
broken_of t h = simp length-take (omega arith)

width_of : (w : ℕ) (t : List ℕ) → suc w ≤ length t → width (char_of (suc w) t) ≡ suc w
unfolding char_of
width_of w t h = simp length-take (omega arith)

-- by its form, and where there is none, by what is begun
pub width-broken : (t : List ℕ) → 0 < length t → well_formed t ≡ 0 → width (char_at t) ≡ broken_length t
width-broken t h e = ap (λ (w : ℕ). width (char_of w t)) e ∙ broken_of t (broken-within t h)

pub width-formed : (t : List ℕ) (w : ℕ) → 0 < length t → well_formed t ≡ suc w → width (char_at t) ≡ suc w
width-formed t w h e =
    let l = ends_within t h in
    ap (λ (w : ℕ). width (char_of w t)) e ∙ width_of w t (omega arith)

-- it has a byte, and ends within its text
pub fits : (t : List ℕ) → 0 < length t → (0 < width (char_at t)) × (width (char_at t) ≤ length t)
fits t h = go (well_formed t) refl
  where
    go : (w : ℕ) → well_formed t ≡ w → (0 < width (char_at t)) × (width (char_at t) ≤ length t)
    go zero e = let n = width-broken t h e in let p = broken_range t in let l = broken-within t h in (omega arith, omega arith)
    go (suc w) e = let n = width-formed t w h e in let l = ends_within t h in (omega arith, omega arith)

-- The characters of a text, from an index on.
chars_skip : (k : ℕ) (s : List ℕ) → chars_after k s ≡ chars (drop k s)
unfolding chars_after
chars_skip zero s = refl
chars_skip (suc k) [] = refl
chars_skip (suc k) (a ∷ s) = chars_skip k s

drop_pos : (n : ℕ) → 0 < n → (a : ℕ) (s : List ℕ) → drop (n - 1) s ≡ drop n (a ∷ s)
drop_pos zero h a s = absurd (not-suc-le-zero h)
drop_pos (suc n) h a s = let e : suc n - 1 ≡ n = omega arith in rw e

pub chars-cons : (t : List ℕ) → 0 < length t → chars t ≡ char_at t ∷ chars (drop (width (char_at t)) t)
unfolding chars_after
chars-cons [] h = absurd (not-suc-le-zero h)
chars-cons (b ∷ s) h =
    let n = width (char_at (b ∷ s)) in
    ap (λ (l : List Char). char_at (b ∷ s) ∷ l)
    (chars_skip (n - 1) s ∙ ap (λ (l : List ℕ). chars l) (drop_pos n (fits (b ∷ s) h).0 b s))

pub some_left : (s : List ℕ) (i : ℕ) → i < length s → 0 < length (drop i s)
some_left s i h = simp length-drop (omega arith)

pub chars-at : (s : List ℕ) (i : ℕ) → i < length s → chars (drop i s) ≡ char_at (drop i s) ∷ chars (drop (i + width (char_at (drop i s))) s)
chars-at s i h =
    chars-cons (drop i s) (some_left s i h)
    ∙ ap (λ (l : List ℕ). char_at (drop i s) ∷ chars l) (drop-drop (width (char_at (drop i s))) i s)

pub fits_at : (s : List ℕ) (i : ℕ) → i < length s → (0 < width (char_at (drop i s))) × (i + width (char_at (drop i s)) ≤ length s)
fits_at s i h =
    let f = fits (drop i s) (some_left s i h) in
    let l = length-drop i s in
    (f.0, omega arith)

pub chars_end : (s : List ℕ) (i : ℕ) → length s ≤ i → chars (drop i s) ≡ []
unfolding chars_after
chars_end s i h = rw (drop_of_length-le s h)

-- A byte of ASCII is a character of its own, and a byte 80 to C1 begins none.
ascii_first : (b : ℕ) (s : List ℕ) → b < 0x80 → char_at (b ∷ s) ≡ record { code = b; bytes = b ∷ [] }
unfolding char_of code_of
ascii_first b s h = ap (λ (w : ℕ). char_of w (b ∷ s)) (formed-one b (get_or s 0 0) (get_or s 1 0) (get_or s 2 0) h)

broken-first : (b : ℕ) (s : List ℕ) → 0x80 ≤ b → b < 0xC2 → char_at (b ∷ s) ≡ record { code = no_code; bytes = b ∷ [] }
unfolding char_of
broken-first b s l h =
    ap (λ (w : ℕ). char_of w (b ∷ s)) (formed_low b (get_or s 0 0) (get_or s 1 0) (get_or s 2 0) l h)
    ∙ ap (λ (n : ℕ). record { code = no_code; bytes = take n (b ∷ s) }) (begun_low b (get_or s 0 0) (get_or s 1 0) (omega arith))

module _ (s : List ℕ) (i : ℕ) (h : i < length s) where
  pub ascii_at : get_or s i 0 < 0x80 → char_at (drop i s) ≡ record { code = get_or s i 0; bytes = get_or s i 0 ∷ [] }
  ascii_at l = ap char_at (drop-cons s i 0 h) ∙ ascii_first (get_or s i 0) (drop (suc i) s) l

  pub broken-at : 0x80 ≤ get_or s i 0 → get_or s i 0 < 0xC2 → char_at (drop i s) ≡ record { code = no_code; bytes = get_or s i 0 ∷ [] }
  broken-at l u = ap char_at (drop-cons s i 0 h) ∙ broken-first (get_or s i 0) (drop (suc i) s) l u

  -- the unfolding of the characters at such a byte
  one_byte : (c : ℕ) → char_at (drop i s) ≡ record { code = c; bytes = get_or s i 0 ∷ [] }
      → chars (drop i s) ≡ record { code = c; bytes = get_or s i 0 ∷ [] } ∷ chars (drop (i + 1) s)
  one_byte c e = chars-at s i h ∙ ap (λ (c : Char). c ∷ chars (drop (i + width c) s)) e

  pub chars_ascii : get_or s i 0 < 0x80 → chars (drop i s) ≡ record { code = get_or s i 0; bytes = get_or s i 0 ∷ [] } ∷ chars (drop (i + 1) s)
  chars_ascii l = one_byte (get_or s i 0) (ascii_at l)

  pub chars-broken : 0x80 ≤ get_or s i 0 → get_or s i 0 < 0xC2 → chars (drop i s) ≡ record { code = no_code; bytes = get_or s i 0 ∷ [] } ∷ chars (drop (i + 1) s)
  chars-broken l u = one_byte no_code (broken-at l u)

-- No byte of ASCII lies inside a character, whole or broken: each after its first is a tail.
tails : {a b c d w : ℕ} → Form a b c d w → (w ≤ 4) × (1 < w → Tail b) × (2 < w → Tail c) × (3 < w → Tail d)
tails none = (omega arith, λ u. absurd (omega arith), λ u. absurd (omega arith), λ u. absurd (omega arith))
tails (one a) = (omega arith, λ u. absurd (omega arith), λ u. absurd (omega arith), λ u. absurd (omega arith))
tails (two a a2 b) = (omega arith, λ u. b, λ u. absurd (omega arith), λ u. absurd (omega arith))
tails (three a a2 b c) = (omega arith, λ u. b, λ u. c, λ u. absurd (omega arith))
tails (four a a2 b c d) = (omega arith, λ u. b, λ u. c, λ u. d)

pub form_most : {a b c d w : ℕ} → Form a b c d w → w ≤ 4
form_most f = (tails f).0

inside_form : (t : List ℕ) (k : ℕ) → 0 < k → k < well_formed t → Tail (get_or t k 0)
inside_form t zero p u = absurd (omega arith)
inside_form t (suc zero) p u = (tails (form_of t)).1 u
inside_form t (suc (suc zero)) p u = (tails (form_of t)).2 u
inside_form t (suc (suc (suc zero))) p u = (tails (form_of t)).3 u
inside_form t (suc (suc (suc (suc k)))) p u = let l = (tails (form_of t)).0 in absurd (omega arith)

inside-begun : (t : List ℕ) (k : ℕ) → 0 < k → k < broken_length t → Tail (get_or t k 0)
inside-begun t zero p u = absurd (omega arith)
inside-begun t (suc zero) p u = (begun_tails (begun_of t)).2 u
inside-begun t (suc (suc zero)) p u = (begun_tails (begun_of t)).3 u
inside-begun t (suc (suc (suc k))) p u = let l = (broken_range t).1 in absurd (omega arith)

pub inside : (t : List ℕ) (k : ℕ) → 0 < length t → 0 < k → k < width (char_at t) → Tail (get_or t k 0)
inside t k h p u = go (well_formed t) refl
  where
    go : (w : ℕ) → well_formed t ≡ w → Tail (get_or t k 0)
    go zero e = let n = width-broken t h e in inside-begun t k p (omega arith)
    go (suc w) e = let n = width-formed t w h e in inside_form t k p (omega arith)

pub inside-at : (s : List ℕ) (i k : ℕ) → i < length s → i < k → k < i + width (char_at (drop i s)) → Tail (get_or s k 0)
inside-at s i k h l u =
    let e : i + (k - i) ≡ k = omega arith in
    rw e at (rw get_or-drop at (inside (drop i s) (k - i) (some_left s i h) (omega arith) (omega arith)))

-- a tail by its low bits
pub low_of : {b : ℕ} → Tail b → b % 64 + 0x80 ≡ b
low_of h = omega arith

-- A character whose first byte is no ASCII has a code that is no ASCII's.
pub code_high : (t : List ℕ) → 0x80 ≤ get_or t 0 0 → 0x80 ≤ (char_at t).code
unfolding char_of code_of
code_high t h = go (form_of t)
  where
    go : {w : ℕ} → Form (get_or t 0 0) (get_or t 1 0) (get_or t 2 0) (get_or t 3 0) w → 0x80 ≤ (char_of w t).code
    go none = omega arith
    go (one a) = absurd (omega arith)
    go (two a a2 b) = omega arith
    go (three a a2 b c) = let e : get_or t 0 0 % 16 + 0xE0 ≡ get_or t 0 0 = omega arith in let f = low_of b in omega arith
    go (four a a2 b c d) = let e : get_or t 0 0 % 8 + 0xF0 ≡ get_or t 0 0 = omega arith in let f = low_of b in omega arith

-- the code at an index, by the character's length and the bytes from the index on
module _ (s : List ℕ) (i n : ℕ) where
  pub code_one : n ≡ 1 → code_of n (drop i s) ≡ get_or s i 0
  unfolding code_of
  code_one e = rw e (simp (get_or-drop, add-zero))

  pub code_two : n ≡ 2 → code_of n (drop i s) ≡ get_or s i 0 % 32 * 64 + get_or s (i + 1) 0 % 64
  unfolding code_of
  code_two e = rw e (simp (get_or-drop, add-zero))

  pub code_three : n ≡ 3 → code_of n (drop i s) ≡ get_or s i 0 % 16 * 4096 + get_or s (i + 1) 0 % 64 * 64 + get_or s (i + 2) 0 % 64
  unfolding code_of
  code_three e = rw e (simp (get_or-drop, add-zero))

  pub code_four : (n ≡ 1 → ⊥) → (n ≡ 2 → ⊥) → (n ≡ 3 → ⊥)
      → code_of n (drop i s) ≡ get_or s i 0 % 8 * 262144 + get_or s (i + 1) 0 % 64 * 4096 + get_or s (i + 2) 0 % 64 * 64 + get_or s (i + 3) 0 % 64
  unfolding code_of
  code_four x y z = simp (ne_eqb n 1 x, ne_eqb n 2 y, ne_eqb n 3 z, get_or-drop, add-zero)

-- The longest valid prefix, one character at a time.
valid_skip : (k : ℕ) (s : List ℕ) → valid_after k s ≡ valid_length (drop k s)
unfolding valid_after
valid_skip zero s = refl
valid_skip (suc k) [] = refl
valid_skip (suc k) (a ∷ s) = valid_skip k s

pub valid-cons : (t : List ℕ) (w : ℕ) → 0 < length t → well_formed t ≡ suc w → valid_length t ≡ suc w + valid_length (drop (suc w) t)
unfolding valid_after
valid-cons [] w h e = absurd (not-suc-le-zero h)
valid-cons (b ∷ s) w h e = rw (e, valid_after) (ap (λ (n : ℕ). suc w + n) (valid_skip w s))

pub valid_stop : (t : List ℕ) → well_formed t ≡ 0 → valid_length t ≡ 0
unfolding valid_after
valid_stop [] e = refl
valid_stop (b ∷ s) e = rw (e, valid_after)

pub valid_end : (s : List ℕ) (i : ℕ) → length s ≤ i → valid_length (drop i s) ≡ 0
unfolding valid_after
valid_end s i h = rw (drop_of_length-le s h)

pub valid-at : (s : List ℕ) (i n : ℕ) → i < length s → well_formed (drop i s) ≡ n → 0 < n → (valid_length (drop i s) ≡ n + valid_length (drop (i + n) s)) × (i + n ≤ length s)
valid-at s i zero h e z = absurd (not-suc-le-zero z)
valid-at s i (suc w) h e z =
    let some = some_left s i h in
    let l = length-drop i s in
    let f = ends_within (drop i s) some in
    (valid-cons (drop i s) w some e ∙ ap (λ (t : List ℕ). suc w + valid_length t) (drop-drop (suc w) i s), omega arith)

-- what is read already and what is valid after it are no more than the text
valid-within : (k : ℕ) (s : List ℕ) → k ≤ length s → k + valid_after k s ≤ length s
unfolding valid_after
valid-within k [] h = omega arith
valid-within (suc k) (b ∷ s) h = omega (arith, valid-within k s (omega arith))
valid-within zero (b ∷ s) h = omega (arith, go (well_formed (b ∷ s)) refl (λ k. valid-within k s))
  where
    go : (w : ℕ) → well_formed (b ∷ s) ≡ w → ((k : ℕ) → k ≤ length s → k + valid_after k s ≤ length s)
        → elim w [ zero ↦ 0 | suc w ↦ suc w + valid_after w s ] ≤ length (b ∷ s)
    go zero e ih = omega arith
    go (suc w) e ih = let l = ends_within (b ∷ s) (omega arith) in omega (arith, ih w (omega arith))

pub valid_most : (s : List ℕ) → valid_length s ≤ length s
valid_most s = omega (arith, valid-within 0 s (omega arith))
