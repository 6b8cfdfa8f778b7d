-- Rules 6 and 7 by bytes: the characters of a number are ASCII, so what follows n of them stands n bytes further on.
-- Assumes nothing.
use Prim.Native.Nat.{ℕ, zero, suc, ◌+◌, ◌-◌, ◌≤◌, ◌<◌}
use native.Mathlib.Decide.{dec_lt}
use native.Mathlib.Nat.{add-zero}
use native.Mathlib.Numerals.{add-one, sub-one}
use native.Mathlib.Omega.{arith}
use borrow.Author.Tests.{ne_eqb}
use mathlib.Core.Path.{◌≡◌, refl, sym, ap, ap₂, ◌∙◌, subst}
use mathlib.Core.List.{List, [], ◌∷◌}
use mathlib.Core.Bool.{Bool, true, false, cond, ◌&&◌}
use lib.Dec.{eqb}
use lib.ListN.{length, get_or, take, drop, get_or-eq_default}
use lib.Seq.{drop-drop, get_or-drop}
use Rattle.rules.specs.Utf8.{Char, width, char_at, chars}
use Rattle.rules.specs.Classes.{digit, hex_digit}
use Rattle.rules.specs.Characters.{plus, dash, dot, zero_digit, one_digit, capital_b, capital_e, capital_p, capital_x, underscore, small_b, small_e, small_p, small_x}
use Rattle.rules.specs.Lexeme.{first}
use Rattle.rules.specs.Numbers.{digits, either, prefix, opening, radix_digit, fraction, mantissa, Figures, exponent_mark, sign_length, power, exponent, figures, all_chars}
use Rattle.rules.specs.Tokens.{after_dot_at}
use Rattle.rules.proofs.Decoding.{chars-at, chars_ascii, chars_end, code_high}
use Rattle.rules.proofs.Bytes.{next_like, next_is, code_like}
use Rattle.rules.proofs.NumberParts.{joins, choose, digits-digit, digits_join, digits_stop, fraction-dot, fraction_none, power_well, power_wrong, exponent_none, exponent_some}
use Rattle.rules.proofs.Numbers.{Lead, lead-one, lead-add, lead-digits, lead-opening, lead-mantissa, lead-figures, radix_small, either_small}
use Rattle.rules.proofs.Tests.{clash, eqb-true, and_left, cond_ind}

-- a character of ASCII is its byte
module _ (s : List ℕ) (i : ℕ) where
  front : get_or (drop i s) 0 0 ≡ get_or s i 0
  front = get_or-drop i s 0 0 ∙ ap (λ (n : ℕ). get_or s n 0) (add-zero i)

  ascii_byte : i < length s → (char_at (drop i s)).code < 128 → get_or s i 0 < 0x80
  ascii_byte h l = go (dec_lt (get_or s i 0) 0x80)
    where
      go : Dec (get_or s i 0 < 0x80) → get_or s i 0 < 0x80
      go (yes k) = k
      go (no k) =
          let e = front in
          absurd (omega (arith, code_high (drop i s) (omega arith)))

-- what n leading characters of ASCII say of the bytes at i
pub record LeadAt (s : List ℕ) (i n : ℕ) : Type 0 where
  pub ascii : (k : ℕ) → i ≤ k → k < i + n → get_or s k 0 < 0x80
  pub fits : i + n ≤ length s
  pub rest : drop n (chars (drop i s)) ≡ chars (drop (i + n) s)

pub lead-at : (s : List ℕ) (n i : ℕ) → i ≤ length s → Lead n (chars (drop i s)) → LeadAt s i n
lead-at s zero i h l = record { ascii = λ k p q. absurd (omega arith); fits = omega arith; rest = ap (λ (n : ℕ). chars (drop n s)) (sym (add-zero i)) }
lead-at s (suc n) i h l = go (dec_lt i (length s)) (λ l. lead-at s n (i + 1) l)
  where
    none : length s ≤ i → ⊥
    none k = subst (λ (cs : List Char). Lead (suc n) cs) (chars_end s i k) l

    go : Dec (i < length s) → (i + 1 ≤ length s → Lead n (chars (drop (i + 1) s)) → LeadAt s (i + 1) n) → LeadAt s i (suc n)
    go (no k) ih = absurd (none (omega arith))
    go (yes k) ih =
        let b : get_or s i 0 < 0x80 = ascii_byte s i k (subst (λ (cs : List Char). Lead (suc n) cs) (chars-at s i k) l).0 in
        let e = chars_ascii s i k b in
        let r = ih (omega arith) (subst (λ (cs : List Char). Lead (suc n) cs) e l).1 in
        let a : (i + 1) + n ≡ i + suc n = omega arith in
        record {
          ascii = λ j p q. at j r.ascii p q b;
          fits = omega (arith, r.fits);
          rest = ap (drop (suc n)) e ∙ r.rest ∙ ap (λ (m : ℕ). chars (drop m s)) a;
        }
      where
        at : (j : ℕ) → ((k : ℕ) → i + 1 ≤ k → k < (i + 1) + n → get_or s k 0 < 0x80) → i ≤ j → j < i + suc n → get_or s i 0 < 0x80 → get_or s j 0 < 0x80
        at j f p q b = pick (dec_lt i j)
          where
            pick : Dec (i < j) → get_or s j 0 < 0x80
            pick (yes m) = f j (omega arith) (omega arith)
            pick (no m) = let e : j ≡ i = omega arith in rw e b

-- a byte that passes a test of ASCII is there, and is ASCII
ascii_test : (p : ℕ → Bool) → ((c : ℕ) → 0x80 ≤ c → p c ≡ false) → p 0 ≡ false → (s : List ℕ) (i : ℕ) → p (get_or s i 0) ≡ true → (i < length s) × (get_or s i 0 < 0x80)
ascii_test p small none s i e = (there (dec_lt i (length s)), below (dec_lt (get_or s i 0) 0x80))
  where
    there : Dec (i < length s) → i < length s
    there (yes h) = h
    there (no h) = clash e (ap p (get_or-eq_default s 0 (omega arith)) ∙ none)

    below : Dec (get_or s i 0 < 0x80) → get_or s i 0 < 0x80
    below (yes l) = l
    below (no l) = clash e (small (get_or s i 0) (omega arith))

-- a run of digits, byte by byte, where a digit is a byte of ASCII
module _ (p : ℕ → Bool) (small : (c : ℕ) → 0x80 ≤ c → p c ≡ false) (none : p 0 ≡ false) (s : List ℕ) (t : Bool) (i : ℕ) where
  pub digits_end : length s ≤ i → digits p t (chars (drop i s)) ≡ 0
  unfolding digits
  digits_end h = rw (chars_end s i h)

  module _ (h : i < length s) where
    pub byte-digit : p (get_or s i 0) ≡ true → digits p t (chars (drop i s)) ≡ suc (digits p true (chars (drop (i + 1) s)))
    byte-digit e = ap (digits p t) (chars_ascii s i h (ascii_test p small none s i e).1) ∙ digits-digit p t (record { code = get_or s i 0; bytes = get_or s i 0 ∷ [] }) (chars (drop (i + 1) s)) e

    pub byte_join : p (get_or s i 0) ≡ false → joins p t (get_or s i 0) (get_or s (i + 1) 0) ≡ true → digits p t (chars (drop i s)) ≡ suc (digits p false (chars (drop (i + 1) s)))
    byte_join e j =
        let u : get_or s i 0 ≡ underscore = eqb-true (and_left (eqb (get_or s i 0) underscore) t (and_left (eqb (get_or s i 0) underscore && t) (p (get_or s (i + 1) 0)) j)) in
        ap (digits p t) (chars_ascii s i h (omega arith))
        ∙ digits_join p t (record { code = get_or s i 0; bytes = get_or s i 0 ∷ [] }) (chars (drop (i + 1) s)) e
        (ap (λ (b : Bool). eqb (get_or s i 0) underscore && t && b) (next_like p small none s (i + 1)) ∙ j)

    pub byte_stop : p (get_or s i 0) ≡ false → joins p t (get_or s i 0) (get_or s (i + 1) 0) ≡ false → digits p t (chars (drop i s)) ≡ 0
    byte_stop e j = go (dec_lt (get_or s i 0) 0x80)
      where
        go : Dec (get_or s i 0 < 0x80) → digits p t (chars (drop i s)) ≡ 0
        go (yes l) =
            ap (digits p t) (chars_ascii s i h l)
            ∙ digits_stop p t (record { code = get_or s i 0; bytes = get_or s i 0 ∷ [] }) (chars (drop (i + 1) s)) e
            (ap (λ (b : Bool). eqb (get_or s i 0) underscore && t && b) (next_like p small none s (i + 1)) ∙ j)
        go (no l) =
            let u : eqb (char_at (drop i s)).code underscore ≡ false = ne_eqb (char_at (drop i s)).code underscore (λ q. omega (arith, code_high (drop i s) (rw (front s i) (omega arith)))) in
            ap (digits p t) (chars-at s i h)
            ∙ digits_stop p t (char_at (drop i s)) (chars (drop (i + width (char_at (drop i s))) s)) (code_like p small none s i h ∙ e) (rw u)

    -- one turn of a reader: d says whether the byte is a digit
    pub byte-turn : (d : Bool) → d ≡ p (get_or s i 0) → (d ≡ false → joins p t (get_or s i 0) (get_or s (i + 1) 0) ≡ true) → digits p t (chars (drop i s)) ≡ suc (digits p d (chars (drop (i + 1) s)))
    byte-turn true e f = byte-digit (sym e)
    byte-turn false e f = byte_join (sym e) (f refl)

-- a number's digits of either radix
module _ (hex : Bool) where
  pub radix_high : (c : ℕ) → 0x80 ≤ c → radix_digit hex c ≡ false
  radix_high c h = go (radix_digit hex c) refl
    where
      go : (b : Bool) → radix_digit hex c ≡ b → b ≡ false
      go false e = refl
      go true e = absurd (omega (arith, radix_small hex c e))

pub radix_none : (hex : Bool) → radix_digit hex 0 ≡ false
radix_none true = refl
radix_none false = refl

-- Two tests of ASCII, of a character and the next one, are tests of two bytes.
module _ (p q : ℕ → Bool) (small : (c : ℕ) → 0x80 ≤ c → p c ≡ false) (none : p 0 ≡ false) (small' : (c : ℕ) → 0x80 ≤ c → q c ≡ false) (none' : q 0 ≡ false)
    (s : List ℕ) (i : ℕ) where
  pub pair_like : (p (first (chars (drop i s))) && q (first (drop 1 (chars (drop i s))))) ≡ (p (get_or s i 0) && q (get_or s (i + 1) 0))
  pair_like = go (p (get_or s i 0)) refl
    where
      here : p (first (chars (drop i s))) ≡ p (get_or s i 0)
      here = next_like p small none s i

      go : (b : Bool) → p (get_or s i 0) ≡ b → (p (first (chars (drop i s))) && q (first (drop 1 (chars (drop i s))))) ≡ (p (get_or s i 0) && q (get_or s (i + 1) 0))
      go false e = rw (here, e)
      go true e =
          let l = ascii_test p small none s i e in
          rw (here, e) (ap (λ (cs : List Char). q (first (drop 1 cs))) (chars_ascii s i l.0 l.1) ∙ next_like q small' none' s (i + 1))

-- one of two characters of ASCII
either_high : (a b : ℕ) → a < 0x80 → b < 0x80 → (c : ℕ) → 0x80 ≤ c → either a b c ≡ false
either_high a b la lb c h = rw (ne_eqb c a (λ e. omega arith), ne_eqb c b (λ e. omega arith))

hex_high : (c : ℕ) → 0x80 ≤ c → hex_digit c ≡ false
hex_high = radix_high true

digit_high : (c : ℕ) → 0x80 ≤ c → digit c ≡ false
digit_high = radix_high false

-- how a number opens, by its first three bytes
pub opening_bytes : (s : List ℕ) (i : ℕ) → i < length s → get_or s i 0 < 0x80 → opening (chars (drop i s)) ≡ prefix (get_or s i 0) (get_or s (i + 1) 0) (get_or s (i + 2) 0)
unfolding prefix
opening_bytes s i h l =
    ap opening (chars_ascii s i h l) ∙ go (eqb (get_or s i 0) zero_digit)
  where
    e : (i + 1) + 1 ≡ i + 2
    e = omega arith

    hexes : (either small_x capital_x (first (chars (drop (i + 1) s))) && hex_digit (first (drop 1 (chars (drop (i + 1) s))))) ≡ (either small_x capital_x (get_or s (i + 1) 0) && hex_digit (get_or s (i + 2) 0))
    hexes = pair_like (either small_x capital_x) hex_digit (either_high small_x capital_x (omega arith) (omega arith)) refl hex_high refl s (i + 1) ∙ ap (λ (n : ℕ). either small_x capital_x (get_or s (i + 1) 0) && hex_digit (get_or s n 0)) e

    bits : (either small_b capital_b (first (chars (drop (i + 1) s))) && either zero_digit one_digit (first (drop 1 (chars (drop (i + 1) s))))) ≡ (either small_b capital_b (get_or s (i + 1) 0) && either zero_digit one_digit (get_or s (i + 2) 0))
    bits =
        pair_like (either small_b capital_b) (either zero_digit one_digit) (either_high small_b capital_b (omega arith) (omega arith)) refl
        (either_high zero_digit one_digit (omega arith) (omega arith)) refl s (i + 1)
        ∙ ap (λ (n : ℕ). either small_b capital_b (get_or s (i + 1) 0) && either zero_digit one_digit (get_or s n 0)) e

    go : (z : Bool)
        → choose (z && either small_x capital_x (first (chars (drop (i + 1) s))) && hex_digit (first (drop 1 (chars (drop (i + 1) s)))))
        (z && either small_b capital_b (first (chars (drop (i + 1) s))) && either zero_digit one_digit (first (drop 1 (chars (drop (i + 1) s)))))
        ≡ choose (z && either small_x capital_x (get_or s (i + 1) 0) && hex_digit (get_or s (i + 2) 0)) (z && either small_b capital_b (get_or s (i + 1) 0) && either zero_digit one_digit (get_or s (i + 2) 0))
    go true = ap₂ choose hexes bits
    go false = refl

-- the same by its tests
module _ (s : List ℕ) (i : ℕ) (h : i < length s) (l : get_or s i 0 < 0x80) where
  abbrev opens_hex : Bool
  opens_hex = eqb (get_or s i 0) zero_digit && either small_x capital_x (get_or s (i + 1) 0) && hex_digit (get_or s (i + 2) 0)

  abbrev opens_bits : Bool
  opens_bits = eqb (get_or s i 0) zero_digit && either small_b capital_b (get_or s (i + 1) 0) && either zero_digit one_digit (get_or s (i + 2) 0)

  pub opening_by : {x y : Bool} → opens_hex ≡ x → opens_bits ≡ y → opening (chars (drop i s)) ≡ choose x y
  unfolding prefix
  opening_by e f = opening_bytes s i h l ∙ ap₂ choose e f

-- a fraction further on is a fraction
pub fraction_from : (p : ℕ → Bool) (w : ℕ) (cs : List Char) → fraction p w cs ≡ w + fraction p 0 (drop w cs)
fraction_from p w cs = go (eqb (first (drop w cs)) dot) refl
  where
    go : (b : Bool) → eqb (first (drop w cs)) dot ≡ b → fraction p w cs ≡ w + fraction p 0 (drop w cs)
    go true e =
        let f = fraction-dot p w cs e in
        let g = fraction-dot p 0 (drop w cs) e in
        let h = ap (digits p false) (drop-drop 1 w cs ∙ ap (λ (n : ℕ). drop n cs) (add-one w)) in
        omega arith
    go false e = let f = fraction_none p w cs e in let g = fraction_none p 0 (drop w cs) e in omega arith

-- the fraction at a byte
module _ (p : ℕ → Bool) (s : List ℕ) (i : ℕ) where
  pub fraction-at-dot : i < length s → eqb (get_or s i 0) dot ≡ true → fraction p 0 (chars (drop i s)) ≡ 1 + digits p false (chars (drop (i + 1) s))
  fraction-at-dot h e =
      let d : get_or s i 0 ≡ dot = eqb-true e in
      let c = chars_ascii s i h (omega arith) in
      fraction-dot p 0 (chars (drop i s)) (next_is dot (omega arith) (omega arith) s i ∙ e) ∙ ap (λ (cs : List Char). 1 + digits p false (drop 1 cs)) c

  pub fraction-at_none : eqb (get_or s i 0) dot ≡ false → fraction p 0 (chars (drop i s)) ≡ 0
  fraction-at_none e = fraction_none p 0 (chars (drop i s)) (next_is dot (omega arith) (omega arith) s i ∙ e)

pub sign_most : (c : ℕ) → sign_length c ≤ 1
sign_most c = cond_ind (λ (n : ℕ). n ≤ 1) (either plus dash c) 1 0 (λ e. omega arith) (λ e. omega arith)

-- the exponent at a byte
sign_high : (c : ℕ) → 0x80 ≤ c → either plus dash c ≡ false
sign_high = either_high plus dash (omega arith) (omega arith)

mark_high : (hex : Bool) (c : ℕ) → 0x80 ≤ c → exponent_mark hex c ≡ false
mark_high true = either_high small_p capital_p (omega arith) (omega arith)
mark_high false = either_high small_e capital_e (omega arith) (omega arith)

mark_none : (hex : Bool) → exponent_mark hex 0 ≡ false
mark_none true = refl
mark_none false = refl

module _ (hex : Bool) (s : List ℕ) (i : ℕ) where
  pub exponent-at_none : exponent_mark hex (get_or s i 0) ≡ false → exponent hex (chars (drop i s)) ≡ record { well = true; size = 0 }
  exponent-at_none e = exponent_none hex (chars (drop i s)) (next_like (exponent_mark hex) (mark_high hex) (mark_none hex) s i ∙ e)

  module _ (e : exponent_mark hex (get_or s i 0) ≡ true) where
    there : (i < length s) × (get_or s i 0 < 0x80)
    there = ascii_test (exponent_mark hex) (mark_high hex) (mark_none hex) s i e

    pub exponent_there : i < length s
    exponent_there = there.0

    -- the letter and the sign are ASCII
    sign_lead : LeadAt s i (suc (sign_length (get_or s (i + 1) 0)))
    sign_lead = lead-at s (suc (sign_length (get_or s (i + 1) 0))) i (omega (arith, there.0)) (go (either plus dash (get_or s (i + 1) 0)) refl)
      where
        cs : List Char
        cs = chars (drop (i + 1) s)

        front_lead : (n : ℕ) → Lead n cs → Lead (suc n) (chars (drop i s))
        front_lead n l = subst (λ (cs : List Char). Lead (suc n) cs) (sym (chars_ascii s i there.0 there.1)) (omega (arith, there.1), l)

        go : (b : Bool) → either plus dash (get_or s (i + 1) 0) ≡ b → Lead (suc (sign_length (get_or s (i + 1) 0))) (chars (drop i s))
        go true f = rw f (front_lead 1 (lead-one cs (either_small plus dash (first cs) (omega arith) (omega arith) (next_like (either plus dash) sign_high refl s (i + 1) ∙ f))))
        go false f = rw f (front_lead 0 tt)

    exponent_there_is : exponent hex (chars (drop i s)) ≡ power (suc (sign_length (get_or s (i + 1) 0))) (chars (drop i s))
    exponent_there_is =
        exponent_some hex (chars (drop i s)) (next_like (exponent_mark hex) (mark_high hex) (mark_none hex) s i ∙ e)
        ∙ ap (λ (b : Bool). power (suc (cond b 1 0)) (chars (drop i s)))
        (ap (λ (cs : List Char). either plus dash (first (drop 1 cs))) (chars_ascii s i there.0 there.1) ∙ next_like (either plus dash) sign_high refl s (i + 1))

    module _ (n : ℕ) (en : n ≡ suc (sign_length (get_or s (i + 1) 0))) where
      digit_there : digit (first (drop n (chars (drop i s)))) ≡ digit (get_or s (i + n) 0)
      digit_there = rw en (ap (λ (cs : List Char). digit (first cs)) sign_lead.rest ∙ next_like digit digit_high refl s (i + suc (sign_length (get_or s (i + 1) 0))))

      pub exponent-at_wrong : digit (get_or s (i + n) 0) ≡ false → exponent hex (chars (drop i s)) ≡ record { well = false; size = n }
      exponent-at_wrong f = exponent_there_is ∙ ap (λ (m : ℕ). power m (chars (drop i s))) (sym en) ∙ power_wrong n (chars (drop i s)) (digit_there ∙ f)

      pub exponent-at_well : digit (get_or s (i + n) 0) ≡ true → exponent hex (chars (drop i s)) ≡ record { well = true; size = n + digits digit false (chars (drop (i + n) s)) }
      exponent-at_well f =
          exponent_there_is ∙ ap (λ (m : ℕ). power m (chars (drop i s))) (sym en) ∙ power_well n (chars (drop i s)) (digit_there ∙ f)
          ∙ ap {B = Figures} (λ (cs : List Char). record { well = true; size = n + digits digit false cs }) (rw en sign_lead.rest)

-- Where the bytes from i to j are ASCII, the characters from j on are those from i on without as many.
pub ascii_rest : (s : List ℕ) (n i : ℕ) → i + n ≤ length s → ((k : ℕ) → i ≤ k → k < i + n → get_or s k 0 < 0x80) → drop n (chars (drop i s)) ≡ chars (drop (i + n) s)
ascii_rest s zero i h a = ap (λ (n : ℕ). chars (drop n s)) (sym (add-zero i))
ascii_rest s (suc n) i h a =
    let e : (i + 1) + n ≡ i + suc n = omega arith in
    ap (drop (suc n)) (chars_ascii s i (omega arith) (a i (omega arith) (omega arith)))
    ∙ ascii_rest s n (i + 1) (omega arith) (λ k p q. a k (omega arith) (omega arith)) ∙ ap (λ (m : ℕ). chars (drop m s)) e

-- whether the bytes from i to e all pass a test: one byte more, or none
module _ (p : ℕ → Bool) (s : List ℕ) (i e : ℕ) where
  pub all_end : e ≤ i → all_chars p (take (e - i) (chars (drop i s))) ≡ true
  unfolding all_chars
  all_end h = let z : e - i ≡ 0 = omega arith in rw z

  pub all_byte : i < e → e ≤ length s → get_or s i 0 < 0x80 → all_chars p (take (e - i) (chars (drop i s))) ≡ (p (get_or s i 0) && all_chars p (take (e - (i + 1)) (chars (drop (i + 1) s))))
  unfolding all_chars
  all_byte h u l =
      let z : e - i ≡ suc (e - (i + 1)) = omega arith in
      rw z (ap (λ (cs : List Char). all_chars p (take (suc (e - (i + 1))) cs)) (chars_ascii s i (omega arith) l))

-- the byte before a cursor that is not 0
pub dot_before : (s : List ℕ) (i : ℕ) → (i ≡ 0 → ⊥) → eqb (get_or s (i - 1) 0) dot ≡ after_dot_at s i
dot_before s zero n = absurd (n refl)
dot_before s (suc i) n = rw sub-one

-- Rule 6 by its parts: from the digit at i on, w bytes to the end of the whole part and m to the end of the fraction.
module _ (s : List ℕ) (i : ℕ) (h : i < length s) (e : digit (get_or s i 0) ≡ true) where
  abbrev cs : List Char
  cs = chars (drop i s)

  -- a digit is ASCII
  pub digit_ascii : get_or s i 0 < 0x80
  digit_ascii = (ascii_test digit digit_high refl s i e).1

  starts : digit (first cs) ≡ true
  starts = next_like digit digit_high refl s i ∙ e

  pub figures-lead : (d : Bool) → LeadAt s i (figures d cs).size
  figures-lead d = lead-at s (figures d cs).size i (omega arith) (lead-figures d cs starts)

  pub figures-dot : figures true cs ≡ record { well = true; size = 1 + digits digit false (chars (drop (i + 1) s)) }
  unfolding figures
  figures-dot = ap {B = Figures} (λ (l : List Char). record { well = true; size = suc (digits digit false (drop 1 l)) }) (chars_ascii s i h digit_ascii) ∙ ap {B = Figures} (λ (n : ℕ). record { well = true; size = n }) (omega arith)

  module _ (w m : ℕ) (x : Figures)
      (ew : w ≡ (i + (opening cs).size) + digits (radix_digit (opening cs).hex) false (chars (drop (i + (opening cs).size) s)))
      (em : m ≡ w + fraction (radix_digit (opening cs).hex) 0 (chars (drop w s)))
      (ex : exponent (opening cs).hex (chars (drop m s)) ≡ x) where
    abbrev p : ℕ → Bool
    p = radix_digit (opening cs).hex

    opened : LeadAt s i (opening cs).size
    opened = lead-at s (opening cs).size i (omega arith) (lead-opening cs starts)

    whole : ℕ
    whole = (opening cs).size + digits p false (drop (opening cs).size cs)

    whole_is : i + whole ≡ w
    unfolding whole
    whole_is = let d = ap (digits p false) opened.rest in omega arith

    whole_rest : drop whole cs ≡ chars (drop w s)
    unfolding whole
    whole_rest =
        (lead-at s whole i (omega arith) (lead-add (opening cs).size (digits p false (drop (opening cs).size cs)) cs (lead-opening cs starts) (lead-digits p (radix_small (opening cs).hex) false (drop (opening cs).size cs)))).rest
        ∙ ap (λ (n : ℕ). chars (drop n s)) whole_is

    mantissa-is : i + mantissa cs ≡ m
    unfolding mantissa whole
    mantissa-is = let f = fraction_from p whole cs in let g = ap (fraction p 0) whole_rest in let k = whole_is in omega arith

    mantissa_rest : drop (mantissa cs) cs ≡ chars (drop m s)
    mantissa_rest = (lead-at s (mantissa cs) i (omega arith) (lead-mantissa cs starts)).rest ∙ ap (λ (n : ℕ). chars (drop n s)) mantissa-is

    pub figures_by : ((figures false cs).well ≡ x.well) × (i + (figures false cs).size ≡ m + x.size)
    unfolding figures
    figures_by =
        let y = ap (exponent (opening cs).hex) mantissa_rest ∙ ex in
        let k = mantissa-is in
        let z = ap (λ (f : Figures). f.size) y in
        (ap (λ (f : Figures). f.well) y, omega arith)
