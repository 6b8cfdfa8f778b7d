-- Rules 6 and 7: the characters of a number are ASCII, and its step.
use Prim.Native.Nat.{ℕ, zero, suc, ◌+◌, ◌≤◌, ◌<◌}
use native.Mathlib.Omega.{arith}
use native.Mathlib.Nat.{zero-add, suc-add}
use native.Mathlib.Numerals.{add-one}
use mathlib.Core.Path.{◌≡◌, refl, sym, ap, ◌∙◌, subst}
use mathlib.Core.List.{List, [], ◌∷◌, ◌++◌, append_assoc}
use mathlib.Core.Bool.{Bool, true, false, cond, ◌&&◌, ◌||◌}
use mathlib.Core.Logic.{◌⊎◌, inl, inr}
use lib.Dec.{eqb}
use lib.ListN.{length, take, drop, take-append-drop}
use lib.Seq.{take-append_seam, drop-append_seam}
use Rattle.rules.specs.Utf8.{within, Char, width}
use Rattle.rules.specs.Classes.{digit, hex_digit}
use Rattle.rules.specs.Characters.{plus, dash, dot, zero_digit, one_digit, capital_b, capital_e, capital_p, capital_x, underscore, small_b, small_e, small_p, small_x}
use Rattle.rules.specs.Kinds.{Number, BareWord, ErrorWrongNumber}
use Rattle.rules.specs.Lexeme.{first, is, run}
use Rattle.rules.specs.Numbers.{number, digits, either, Opening, prefix, opening, radix_digit, fraction, mantissa, Figures, exponent_mark, sign_length, power, exponent, figures, number_word, starts_suffix, all_chars, closing}
use Rattle.rules.specs.Tokens.{rule, numeral, read, lexeme_of}
use Rattle.rules.proofs.Reading.{widths, Read, widths_append}
use Rattle.rules.proofs.Proper.{Propers, propers, one_wide}
use Rattle.rules.proofs.Masks.{Kept, kept_first, kept_append}
use Rattle.rules.proofs.Step.{Step}
use Rattle.rules.proofs.Rules.{lexeme_by, plain, plain_step, cond-rule}
use Rattle.rules.proofs.Runs.{rule_kept, ran, ran_size}
use Rattle.rules.proofs.Tests.{eqb-true, or_cases, and_left, and_right, within-true, digit_small}
use Rattle.rules.proofs.NumberParts.{joins, digits-digit, digits_join, digits_stop, fraction-dot, fraction_none, prefix_size, fraction_least, power_well, power_wrong, exponent_none, exponent_some, figures_local}

-- the first n characters are there and are ASCII
abbrev pub Lead : ℕ → List Char → Type 0
Lead zero cs = Unit {0}
Lead (suc n) [] = ⊥
Lead (suc n) (c ∷ cs) = (c.code < 128) × Lead n cs

pub lead-one : (cs : List Char) → first cs < 128 → Lead 1 cs
lead-one [] h = absurd (omega arith)
lead-one (c ∷ cs) h = (h, tt)

pub lead-suc : (n : ℕ) (cs : List Char) → first cs < 128 → Lead n (drop 1 cs) → Lead (suc n) cs
lead-suc n [] h l = absurd (omega arith)
lead-suc n (c ∷ cs) h l = (h, l)

pub lead-add : (m n : ℕ) (cs : List Char) → Lead m cs → Lead n (drop m cs) → Lead (m + n) cs
lead-add zero n cs l k = rw zero-add k
lead-add (suc m) n [] l k = absurd l
lead-add (suc m) n (c ∷ cs) l k = rw suc-add (l.0, lead-add m n cs l.1 k)

module _ (p : ℕ → Bool) (small : (c : ℕ) → p c ≡ true → c < 128) where
  pub lead-digits : (t : Bool) (cs : List Char) → Lead (digits p t cs) cs
  unfolding digits
  lead-digits t [] = tt
  lead-digits t (c ∷ cs) = go (p c.code) (joins p t c.code (first cs)) refl refl (λ t. lead-digits t cs)
    where
      go : (x y : Bool) → p c.code ≡ x → joins p t c.code (first cs) ≡ y → ((t : Bool) → Lead (digits p t cs) cs) → Lead (digits p t (c ∷ cs)) (c ∷ cs)
      go true y ex ey ih = subst (λ (n : ℕ). Lead n (c ∷ cs)) (sym (digits-digit p t c cs ex)) (small c.code ex, ih true)
      go false true ex ey ih =
          let e : c.code ≡ underscore = eqb-true (and_left (eqb c.code underscore) t (and_left (eqb c.code underscore && t) (p (first cs)) ey)) in
          subst (λ (n : ℕ). Lead n (c ∷ cs)) (sym (digits_join p t c cs ex ey)) (omega arith, ih false)
      go false false ex ey ih = subst (λ (n : ℕ). Lead n (c ∷ cs)) (sym (digits_stop p t c cs ex ey)) tt

  lead-fraction : (w : ℕ) (cs : List Char) → Lead w cs → Lead (fraction p w cs) cs
  lead-fraction w cs l = go (eqb (first (drop w cs)) dot) refl
    where
      go : (b : Bool) → eqb (first (drop w cs)) dot ≡ b → Lead (fraction p w cs) cs
      go false e = subst (λ (n : ℕ). Lead n cs) (sym (fraction_none p w cs e)) l
      go true e =
          let h : first (drop w cs) ≡ dot = eqb-true e in
          let l' : Lead (w + 1) cs = lead-add w 1 cs l (lead-one (drop w cs) (omega arith)) in
          let l'' : Lead (suc w) cs = rw add-one at l' in
          subst (λ (n : ℕ). Lead n cs) (sym (fraction-dot p w cs e)) (lead-add (suc w) (digits p false (drop (suc w) cs)) cs l'' (lead-digits false (drop (suc w) cs)))

pub either_small : (a b c : ℕ) → a < 128 → b < 128 → either a b c ≡ true → c < 128
either_small a b c h k e = go (or_cases (eqb c a) (eqb c b) e)
  where
    go : (eqb c a ≡ true) ⊎ (eqb c b ≡ true) → c < 128
    go (inl p) = let z : c ≡ a = eqb-true p in omega arith
    go (inr p) = let z : c ≡ b = eqb-true p in omega arith

pub hex_small : (c : ℕ) → hex_digit c ≡ true → c < 128
hex_small c e = go (or_cases (digit c || within 0x41 0x46 c) (within 0x61 0x66 c) e)
  where
    low : (digit c ≡ true) ⊎ (within 0x41 0x46 c ≡ true) → c < 128
    low (inl p) = digit_small c p
    low (inr p) = let h = within-true 0x41 0x46 c p in omega arith

    go : ((digit c || within 0x41 0x46 c) ≡ true) ⊎ (within 0x61 0x66 c ≡ true) → c < 128
    go (inl p) = low (or_cases (digit c) (within 0x41 0x46 c) p)
    go (inr p) = let h = within-true 0x61 0x66 c p in omega arith

pub radix_small : (hex : Bool) (c : ℕ) → radix_digit hex c ≡ true → c < 128
radix_small true c e = hex_small c e
radix_small false c e = digit_small c e

pub lead-opening : (cs : List Char) → digit (first cs) ≡ true → Lead (opening cs).size cs
unfolding prefix
lead-opening cs h =
    let a : ℕ = first cs in
    let b : ℕ = first (drop 1 cs) in
    let e : ℕ = first (drop 2 cs) in
    let k = digit_small (first cs) h in
    let F : Opening → Type 0 = λ o. Lead o.size cs in
    cond-rule F (eqb a zero_digit && either small_x capital_x b && hex_digit e) _ _
    (λ p. lead-suc 1 cs k (lead-one (drop 1 cs) (either_small small_x capital_x b (omega arith) (omega arith) (and_right (eqb a zero_digit) (either small_x capital_x b) (and_left (eqb a zero_digit && either small_x capital_x b) (hex_digit e) p)))))
    (cond-rule F (eqb a zero_digit && either small_b capital_b b && either zero_digit one_digit e) _ _
    (λ p. lead-suc 1 cs k (lead-one (drop 1 cs) (either_small small_b capital_b b (omega arith) (omega arith) (and_right (eqb a zero_digit) (either small_b capital_b b) (and_left (eqb a zero_digit && either small_b capital_b b) (either zero_digit one_digit e) p)))))
    (lead-one cs k))

pub lead-mantissa : (cs : List Char) → digit (first cs) ≡ true → Lead (mantissa cs) cs
unfolding mantissa
lead-mantissa cs h =
    let o = opening cs in
    let p : ℕ → Bool = radix_digit o.hex in
    lead-fraction p (radix_small o.hex) (o.size + digits p false (drop o.size cs)) cs
    (lead-add o.size (digits p false (drop o.size cs)) cs (lead-opening cs h) (lead-digits p (radix_small o.hex) false (drop o.size cs)))

pub lead-power : (n : ℕ) (cs : List Char) → Lead n cs → Lead (power n cs).size cs
lead-power n cs l = go (digit (first (drop n cs))) refl
  where
    go : (b : Bool) → digit (first (drop n cs)) ≡ b → Lead (power n cs).size cs
    go true e = subst (λ (f : Figures). Lead f.size cs) (sym (power_well n cs e)) (lead-add n (digits digit false (drop n cs)) cs l (lead-digits digit digit_small false (drop n cs)))
    go false e = subst (λ (f : Figures). Lead f.size cs) (sym (power_wrong n cs e)) l

pub mark_small : (hex : Bool) (c : ℕ) → exponent_mark hex c ≡ true → c < 128
mark_small true c e = either_small small_p capital_p c (omega arith) (omega arith) e
mark_small false c e = either_small small_e capital_e c (omega arith) (omega arith) e

pub lead-exponent : (hex : Bool) (cs : List Char) → Lead (exponent hex cs).size cs
lead-exponent hex cs = go (exponent_mark hex (first cs)) (either plus dash (first (drop 1 cs))) refl refl
  where
    G : Figures → Type 0
    G f = Lead f.size cs

    go : (b s : Bool) → exponent_mark hex (first cs) ≡ b → either plus dash (first (drop 1 cs)) ≡ s → Lead (exponent hex cs).size cs
    go false s e es = subst G (sym (exponent_none hex cs e)) tt
    go true true e es = subst G (sym (exponent_some hex cs e)) (lead-power (suc (sign_length (first (drop 1 cs)))) cs (rw es (lead-suc 1 cs (mark_small hex (first cs) e) (lead-one (drop 1 cs) (either_small plus dash (first (drop 1 cs)) (omega arith) (omega arith) es)))))
    go true false e es = subst G (sym (exponent_some hex cs e)) (lead-power (suc (sign_length (first (drop 1 cs)))) cs (rw es (lead-one cs (mark_small hex (first cs) e))))

pub lead-figures : (d : Bool) (cs : List Char) → digit (first cs) ≡ true → Lead (figures d cs).size cs
unfolding figures
lead-figures true cs h = lead-suc (digits digit false (drop 1 cs)) cs (digit_small (first cs) h) (lead-digits digit digit_small false (drop 1 cs))
lead-figures false cs h = lead-add (mantissa cs) (exponent (opening cs).hex (drop (mantissa cs) cs)).size cs (lead-mantissa cs h) (lead-exponent (opening cs).hex (drop (mantissa cs) cs))

pub figures_least : (d : Bool) (cs : List Char) → 1 ≤ (figures d cs).size
unfolding figures mantissa
figures_least true cs = omega arith
figures_least false cs =
    let o = opening cs in
    let a = prefix_size (first cs) (first (drop 1 cs)) (first (drop 2 cs)) in
    let b = fraction_least (radix_digit o.hex) (o.size + digits (radix_digit o.hex) false (drop o.size cs)) cs in
    omega arith

lead-length : (n : ℕ) (cs : List Char) → Lead n cs → length (take n cs) ≡ n
lead-length zero cs l = refl
lead-length (suc n) [] l = absurd l
lead-length (suc n) (c ∷ cs) l = ap suc (lead-length n cs l.1)

lead_widths : (n : ℕ) (cs : List Char) → Propers cs → Lead n cs → widths (take n cs) ≡ n
lead_widths zero cs p l = refl
lead_widths (suc n) [] p l = absurd l
lead_widths (suc n) (c ∷ cs) p l =
    let w : width c ≡ 1 = one_wide p.0 l.0 in
    let h = lead_widths n cs p.1 l.1 in
    omega arith

-- the clauses of `number` and `closing`
module _ (d : Bool) (cs : List Char) where
  pub number_wrong : (figures d cs).well ≡ false → number d cs ≡ is ErrorWrongNumber (figures d cs).size
  unfolding number
  number_wrong e = rw (e, number)

  pub number_well : (figures d cs).well ≡ true → number d cs ≡ closing (figures d cs).size cs
  unfolding number
  number_well e = rw (e, number)

module _ (n : ℕ) (cs : List Char) where
  pub closing-number : starts_suffix (first (drop n cs)) ≡ false → closing n cs ≡ is Number n
  unfolding closing
  closing-number e = rw (e, closing)

  pub closing_word : starts_suffix (first (drop n cs)) ≡ true → closing n cs ≡ is (cond (all_chars number_word (take n cs)) BareWord ErrorWrongNumber) (n + run number_word (drop n cs))
  unfolding closing
  closing_word e = rw (e, closing)

-- A number of the characters c ∷ u, before v
module _ (d : Bool) (c : Char) (u v : List Char) (e : rule c.code (first (u ++ v)) ≡ numeral) (size : (figures d (c ∷ (u ++ v))).size ≡ suc (length u)) (W : width c + widths u ≡ suc (length u)) where
  same : (ws : List Char) → Kept v ws → figures d (c ∷ (u ++ ws)) ≡ figures d (c ∷ (u ++ v))
  same ws k = figures_local d (c ∷ u) k (omega arith) (omega arith)

  reads : (ws : List Char) → Kept v ws → lexeme_of d (c ∷ (u ++ ws)) ≡ number d (c ∷ (u ++ ws))
  unfolding read
  reads ws k = lexeme_by d c (u ++ ws) numeral (rule_kept c (u ++ v) u v numeral refl e ws k)

  wrong_step : (figures d (c ∷ (u ++ v))).well ≡ false → Step d (c ∷ (u ++ v))
  wrong_step w =
      plain_step d (c ∷ (u ++ v)) c u v ErrorWrongNumber (suc (length u)) refl refl (sym W)
      (λ ws k. reads ws k ∙ number_wrong d (c ∷ (u ++ ws)) (ap (λ (f : Figures). f.well) (same ws k) ∙ w) ∙ ap (is ErrorWrongNumber) (ap (λ (f : Figures). f.size) (same ws k) ∙ size))

  closes : (figures d (c ∷ (u ++ v))).well ≡ true → (ws : List Char) → Kept v ws → lexeme_of d (c ∷ (u ++ ws)) ≡ closing (suc (length u)) (c ∷ (u ++ ws))
  closes w ws k = reads ws k ∙ number_well d (c ∷ (u ++ ws)) (ap (λ (f : Figures). f.well) (same ws k) ∙ w) ∙ ap (λ (m : ℕ). closing m (c ∷ (u ++ ws))) (ap (λ (f : Figures). f.size) (same ws k) ∙ size)

  number_step : (figures d (c ∷ (u ++ v))).well ≡ true → starts_suffix (first v) ≡ false → Step d (c ∷ (u ++ v))
  number_step w t =
      plain_step d (c ∷ (u ++ v)) c u v Number (suc (length u)) refl refl (sym W)
      (λ ws k. closes w ws k ∙ closing-number (suc (length u)) (c ∷ (u ++ ws)) (rw (drop-append_seam u ws) (ap starts_suffix (kept_first k) ∙ t)))

  word_kind : ℕ
  word_kind = cond (all_chars number_word (c ∷ u)) BareWord ErrorWrongNumber

  word_plain : plain word_kind ≡ true
  unfolding word_kind
  word_plain = cond-rule (λ (k : ℕ). plain k ≡ true) (all_chars number_word (c ∷ u)) BareWord ErrorWrongNumber (λ e. refl) refl

  closes_word : (figures d (c ∷ (u ++ v))).well ≡ true → starts_suffix (first v) ≡ true → (ws : List Char) → Kept v ws → lexeme_of d (c ∷ (u ++ ws)) ≡ is word_kind (suc (length u) + run number_word ws)
  unfolding word_kind
  closes_word w t ws k =
      closes w ws k
      ∙ closing_word (suc (length u)) (c ∷ (u ++ ws)) (rw (drop-append_seam u ws) (ap starts_suffix (kept_first k) ∙ t))
      ∙ rw (drop-append_seam u ws, take-append_seam u ws)

  word_step : (figures d (c ∷ (u ++ v))).well ≡ true → starts_suffix (first v) ≡ true → Step d (c ∷ (u ++ v))
  word_step w t =
      let g = ran number_word v in
      plain_step d (c ∷ (u ++ v)) c (u ++ g.taken) g.rest word_kind (suc (length u) + widths g.taken)
      (ap {B = List Char} (λ (l : List Char). c ∷ (u ++ l)) g.whole ∙ simp append_assoc) word_plain (rw widths_append (omega arith))
      (λ after k. rw append_assoc (closes_word w t (g.taken ++ after) (subst (λ (l : List Char). Kept l (g.taken ++ after)) (sym g.whole) (kept_append g.taken k)) ∙ ap (λ (m : ℕ). is word_kind (suc (length u) + m)) (ran_size g after k)))

  split_step : Step d (c ∷ (u ++ v))
  split_step = go (figures d (c ∷ (u ++ v))).well (starts_suffix (first v)) refl refl
    where
      go : (x y : Bool) → (figures d (c ∷ (u ++ v))).well ≡ x → starts_suffix (first v) ≡ y → Step d (c ∷ (u ++ v))
      go false y ex ey = wrong_step ex
      go true false ex ey = number_step ex ey
      go true true ex ey = word_step ex ey

pub numeral_step : (d : Bool) (c : Char) (cs : List Char) → Read (c ∷ cs) → rule c.code (first cs) ≡ numeral → digit c.code ≡ true → Step d (c ∷ cs)
numeral_step d c cs r e h = go (figures d (c ∷ cs)).size refl (figures_least d (c ∷ cs)) (lead-figures d (c ∷ cs) h)
  where
    go : (n : ℕ) → (figures d (c ∷ cs)).size ≡ n → 1 ≤ n → Lead n (c ∷ cs) → Step d (c ∷ cs)
    go zero es k l = absurd (omega arith)
    go (suc n) es k l =
        let w : take n cs ++ drop n cs ≡ cs = take-append-drop n cs in
        let ln = lead-length n cs l.1 in
        let lw = lead_widths (suc n) (c ∷ cs) (propers (c ∷ cs) r) l in
        subst (λ (s : List Char). Step d (c ∷ s)) w
        (split_step d c (take n cs) (drop n cs) (rw w e) (rw (w, es, ln)) (omega arith))
