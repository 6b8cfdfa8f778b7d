-- Numbers that a short look tells: runs of digits that end at a byte of ASCII which no word has. Assumes nothing.
use Prim.Native.Nat.{ℕ, zero, suc, ◌+◌, ◌-◌, ◌≤◌, ◌<◌}
use native.Mathlib.Omega.{arith}
use native.Mathlib.Decide.{dec_lt}
use mathlib.Core.Path.{◌≡◌, refl, sym, ap, ◌∙◌}
use mathlib.Core.List.{List}
use mathlib.Core.Bool.{Bool, true, false, not, ◌||◌, and-false}
use mathlib.Core.Logic.{◌⊎◌, inl, inr}
use borrow.Author.Tests.{not-true}
use lib.Dec.{eqb}
use lib.ListN.{length, get_or, drop}
use Rattle.runs.specs.Classes.{Skips}
use Rattle.rules.specs.Utf8.{Char, chars}
use Rattle.rules.specs.Classes.{letter, digit, alphabetic, numeric, alphanumeric}
use Rattle.rules.specs.Characters.{dot, capital_b, capital_e, capital_x, underscore, small_b, small_e, small_x}
use Rattle.rules.specs.Kinds.{Number}
use Rattle.rules.specs.Lexeme.{first}
use Rattle.rules.specs.Words.{word_character}
use Rattle.rules.specs.Dollars.{tag_byte}
use Rattle.rules.specs.Numbers.{digits, either, Opening, opening, radix_digit, fraction, Figures, exponent_mark, exponent, figures, starts_suffix, number}
use Rattle.rules.proofs.Tests.{clash, or_cases, or_left, or_right, digit_small}
use Rattle.rules.proofs.Tables.{agree, agree_at}
use Rattle.rules.proofs.Decoding.{chars_ascii}
use Rattle.rules.proofs.NumberBytes.{byte-digit, byte_stop, radix_high, digit_ascii, figures-lead, figures-dot, figures_by, opening_by, fraction-at-dot, fraction-at_none, exponent-at_none}
use Rattle.lexer.specs.Ends.{ends_at}
use Rattle.lexer.proofs.Classes.{ascii_tag}
use Rattle.lexer.proofs.Numbers.{lead_to, well, stops}
use Rattle.lexer.proofs.Decided.{neither}

-- a run of digits, up to a byte that is neither a digit nor `_`
digits_over : (s : List ℕ) (i j : ℕ) → Skips digit s i j → j < length s → digit (get_or s j 0) ≡ false → eqb (get_or s j 0) underscore ≡ false → (t : Bool) → i + digits digit t (chars (drop i s)) ≡ j
digits_over s i j r h e u t = let z = go (j - i) i (omega (arith, r.from)) (omega arith) t in omega (arith, z, r.from)
  where
    go : (n k : ℕ) → k + n ≡ j → i ≤ k → (t : Bool) → digits digit t (chars (drop k s)) ≡ n
    go zero k q a t = let x : k ≡ j = omega arith in rw x (byte_stop digit (radix_high false) refl s t j h e (rw u))
    go (suc n) k q a t = byte-digit digit (radix_high false) refl s t k (omega arith) (r.pass k a (omega arith)) ∙ ap suc (go n (k + 1) (omega arith) (omega arith) true)

-- a byte of ASCII that is a digit, or no word's, goes on no number as these letters do: computed at all 128
no_letter : (x y : ℕ) → agree (λ c. not (digit c || not (tag_byte c)) || not (either x y c)) (λ c. true) 128 ≡ true → (c : ℕ) → c < 0x80 → (digit c || not (tag_byte c)) ≡ true → either x y c ≡ false
no_letter x y f c l e = go (or_cases (not (digit c || not (tag_byte c))) (not (either x y c)) (agree_at (λ c. not (digit c || not (tag_byte c)) || not (either x y c)) (λ c. true) 128 f c l))
  where
    go : (not (digit c || not (tag_byte c)) ≡ true) ⊎ (not (either x y c) ≡ true) → either x y c ≡ false
    go (inl q) = clash e (not-true _ q)
    go (inr q) = not-true _ q

-- what a byte that is no word's is not
no_tag : (c : ℕ) → tag_byte c ≡ false → (digit c ≡ false) × (eqb c underscore ≡ false)
no_tag c w = let t = neither (letter c || digit c) (eqb c underscore) w in ((neither (letter c) (digit c) t.0).1, t.1)

-- The digit at i, and more of them up to j, where another byte is.
module _ (s : List ℕ) (i j : ℕ) (h : i < length s) (e : digit (get_or s i 0) ≡ true) (r : Skips digit s (i + 1) j) (k : j < length s) (l : get_or s j 0 < 0x80) (w : tag_byte (get_or s j 0) ≡ false) where
  abbrev cs : List Char
  cs = chars (drop i s)

  whole : (t : Bool) → (i + 1) + digits digit t (chars (drop (i + 1) s)) ≡ j
  whole = let n = no_tag (get_or s j 0) w in digits_over s (i + 1) j r k n.0 n.1

  next : (get_or s (i + 1) 0 < 0x80) × ((digit (get_or s (i + 1) 0) || not (tag_byte (get_or s (i + 1) 0))) ≡ true)
  next = go (dec_lt (i + 1) j)
    where
      go : Dec (i + 1 < j) → (get_or s (i + 1) 0 < 0x80) × ((digit (get_or s (i + 1) 0) || not (tag_byte (get_or s (i + 1) 0))) ≡ true)
      go (yes m) =
          let q = r.pass (i + 1) (omega arith) m in
          (digit_small (get_or s (i + 1) 0) q, or_left (digit (get_or s (i + 1) 0)) (not (tag_byte (get_or s (i + 1) 0))) q)
      go (no m) =
          let x : i + 1 ≡ j = omega (arith, r.from) in
          rw x (l, or_right (digit (get_or s j 0)) (not (tag_byte (get_or s j 0))) (ap not w))

  opens : opening cs ≡ record { hex = false; size = 1 }
  opens =
      let x = no_letter small_x capital_x refl (get_or s (i + 1) 0) next.0 next.1 in
      let b = no_letter small_b capital_b refl (get_or s (i + 1) 0) next.0 next.1 in
      opening_by s i h (digit_ascii s i h e) {x = false} {y = false} (simp (x, and-false)) (simp (b, and-false))

  -- with a fraction up to m, or none
  figured : (m : ℕ) → m ≡ j + fraction digit 0 (chars (drop j s)) → exponent_mark false (get_or s m 0) ≡ false → ((figures false cs).well ≡ true) × (i + (figures false cs).size ≡ m)
  figured m em x =
      let f =
      figures_by s i h e j m (record { well = true; size = 0 })
      (sym (whole false) ∙ sym (ap (λ (o : Opening). (i + o.size) + digits (radix_digit o.hex) false (chars (drop (i + o.size) s))) opens))
      (em ∙ sym (ap (λ (o : Opening). j + fraction (radix_digit o.hex) 0 (chars (drop j s))) opens))
      (ap (λ (o : Opening). exponent o.hex (chars (drop m s))) opens ∙ exponent-at_none false s m x) in
      (f.0, omega (arith, f.1))

-- a byte of ASCII that is no word's makes no word of a number before it
pub no_more : (s : List ℕ) (m : ℕ) → m < length s → get_or s m 0 < 0x80 → word_character (get_or s m 0) ≡ false → starts_suffix (first (chars (drop m s))) ≡ false
unfolding alphanumeric
no_more s m k l w =
    let c = get_or s m 0 in
    let t = neither (alphabetic c || numeric c) (eqb c underscore) w in
    let a = (neither (alphabetic c) (numeric c) t.0).0 in
    ap (λ (cs : List Char). starts_suffix (first cs)) (chars_ascii s m k l) ∙ rw (a, t.1)

-- The byte at m is of ASCII and no word's: figures that end there are a number.
module _ (s : List ℕ) (i m : ℕ) (h : i < length s) (e : digit (get_or s i 0) ≡ true) (k : m < length s) (l : get_or s m 0 < 0x80) (w : word_character (get_or s m 0) ≡ false) where
  untagged : tag_byte (get_or s m 0) ≡ false
  untagged = sym (ascii_tag (get_or s m 0) l) ∙ w

  no_mark : exponent_mark false (get_or s m 0) ≡ false
  no_mark = no_letter small_e capital_e refl (get_or s m 0) l (or_right (digit (get_or s m 0)) (not (tag_byte (get_or s m 0))) (ap not untagged))

  numbered : (d : Bool) → (figures d (chars (drop i s))).well ≡ true → m ≡ i + (figures d (chars (drop i s))).size → record { kind = Number; end = m } ≡ ends_at i (number d (chars (drop i s)))
  numbered d f g = well s i m d d refl f g (stops s i m (lead_to s i _ m (figures-lead s i h e d) g) (sym (no_more s m k l w)) refl)

  -- one run of digits
  pub told_whole : Skips digit s (i + 1) m → eqb (get_or s m 0) dot ≡ false → (d : Bool) → record { kind = Number; end = m } ≡ ends_at i (number d (chars (drop i s)))
  told_whole r n true =
      let f = figures-dot s i h e in
      let z = whole s i m h e r k l untagged false in
      numbered true (ap (λ (f : Figures). f.well) f) (omega (arith, ap (λ (f : Figures). f.size) f, z))
  told_whole r n false =
      let z = fraction-at_none digit s m n in
      let f = figured s i m h e r k l untagged m (omega arith) no_mark in
      numbered false f.0 (sym f.1)

  -- two, with a dot between them
  pub told-fraction : (j : ℕ) → Skips digit s (i + 1) j → j < length s → get_or s j 0 ≡ dot → Skips digit s (j + 1) m → record { kind = Number; end = m } ≡ ends_at i (number false (chars (drop i s)))
  told-fraction j r a d q =
      let n = no_tag (get_or s m 0) untagged in
      let z = fraction-at-dot digit s j a (ap (λ (c : ℕ). eqb c dot) d) in
      let y = digits_over s (j + 1) m q k n.0 n.1 false in
      let f = figured s i j h e r a (omega arith) (ap tag_byte d) m (omega arith) no_mark in
      numbered false f.0 (sym f.1)
