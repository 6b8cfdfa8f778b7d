-- Rule 6 looks at the characters that it takes, at the next one, and at one more, which must be a digit to count.
use Prim.Native.Nat.{ℕ, suc, ◌+◌, ◌≤◌}
use native.Mathlib.Omega.{arith}
use mathlib.Core.Path.{◌≡◌, refl, sym, ap, ap₂, ◌∙◌}
use mathlib.Core.List.{List, [], ◌∷◌, ◌++◌}
use mathlib.Core.Bool.{Bool, true, false, cond, ◌&&◌, and-false}
use mathlib.Core.Logic.{◌⊎◌, inl, inr}
use lib.Dec.{eqb}
use lib.ListN.{length, drop, length-drop}
use lib.Seq.{drop-append-le}
use Rattle.rules.specs.Utf8.{Char}
use Rattle.rules.specs.Classes.{digit, hex_digit}
use Rattle.rules.specs.Characters.{dot, zero_digit, one_digit, capital_b, capital_x, underscore, small_b, small_x}
use Rattle.rules.specs.Limits.{mask_byte}
use Rattle.rules.specs.Lexeme.{first}
use Rattle.rules.specs.Numbers.{digits, either, Opening, prefix, opening, radix_digit, fraction, mantissa, Figures, exponent_mark, sign_length, power, exponent, figures}
use Rattle.rules.proofs.Masks.{Kept, none, next, kept_first-append, masks_first, kept_second}

-- the clauses of `digits`, by its tests
abbrev pub joins : (ℕ → Bool) → Bool → ℕ → ℕ → Bool
joins p t a b = eqb a underscore && t && p b

module _ (p : ℕ → Bool) (t : Bool) (c : Char) (cs : List Char) where
  pub digits-digit : p c.code ≡ true → digits p t (c ∷ cs) ≡ suc (digits p true cs)
  unfolding digits
  digits-digit e = rw (e, digits)

  pub digits_join : p c.code ≡ false → joins p t c.code (first cs) ≡ true → digits p t (c ∷ cs) ≡ suc (digits p false cs)
  unfolding digits
  digits_join e f = rw (e, f, digits)

  pub digits_stop : p c.code ≡ false → joins p t c.code (first cs) ≡ false → digits p t (c ∷ cs) ≡ 0
  unfolding digits
  digits_stop e f = rw (e, f, digits)

-- a hidden character joins no digits
joins_dim : (p : ℕ → Bool) → p mask_byte ≡ false → (t : Bool) (a b x : ℕ) → (x ≡ b) ⊎ (x ≡ mask_byte) → joins p t a b ≡ false → joins p t a x ≡ false
joins_dim p h t a b x (inl e) f = ap (joins p t a) e ∙ f
joins_dim p h t a b x (inr e) f = ap (joins p t a) e ∙ rw h (and-false (eqb a underscore && t))

digits-zero : (p : ℕ → Bool) → p mask_byte ≡ false → (t : Bool) {vs ws : List Char} → Kept vs ws → digits p t vs ≤ 0 → digits p t ws ≡ digits p t vs
digits-zero p h t none k = refl
digits-zero p h t (next c {us} {vs} m) k = go (p c.code) (joins p t c.code (first us)) refl refl
  where
    go : (x y : Bool) → p c.code ≡ x → joins p t c.code (first us) ≡ y → digits p t (c ∷ vs) ≡ digits p t (c ∷ us)
    go true y ex ey = let z = digits-digit p t c us ex in absurd (omega arith)
    go false true ex ey = let z = digits_join p t c us ex ey in absurd (omega arith)
    go false false ex ey = digits_stop p t c vs ex (joins_dim p h t c.code (first us) (first vs) (masks_first m) ey) ∙ sym (digits_stop p t c us ex ey)

digits_local : (p : ℕ → Bool) → p mask_byte ≡ false → (t : Bool) (us : List Char) {vs ws : List Char} → Kept vs ws → digits p t (us ++ vs) ≤ length us → digits p t (us ++ ws) ≡ digits p t (us ++ vs)
digits_local p h t [] m k = digits-zero p h t m k
digits_local p h t (c ∷ us) {vs} {ws} m k = go (p c.code) (joins p t c.code (first (us ++ vs))) refl refl (λ t k. digits_local p h t us m k)
  where
    go : (x y : Bool) → p c.code ≡ x → joins p t c.code (first (us ++ vs)) ≡ y → ((t : Bool) → digits p t (us ++ vs) ≤ length us → digits p t (us ++ ws) ≡ digits p t (us ++ vs)) → digits p t (c ∷ (us ++ ws)) ≡ digits p t (c ∷ (us ++ vs))
    go true y ex ey ih =
        let z = digits-digit p t c (us ++ vs) ex in
        digits-digit p t c (us ++ ws) ex ∙ ap suc (ih true (omega arith)) ∙ sym z
    go false true ex ey ih =
        let z = digits_join p t c (us ++ vs) ex ey in
        digits_join p t c (us ++ ws) ex (ap (joins p t c.code) (kept_first-append us m) ∙ ey) ∙ ap suc (ih false (omega arith)) ∙ sym z
    go false false ex ey ih = digits_stop p t c (us ++ ws) ex (ap (joins p t c.code) (kept_first-append us m) ∙ ey) ∙ sym (digits_stop p t c (us ++ vs) ex ey)

-- the same further on in the text
module _ (us : List Char) {vs ws : List Char} (m : Kept vs ws) (n : ℕ) (h : n ≤ length us) where
  first_local : first (drop n (us ++ ws)) ≡ first (drop n (us ++ vs))
  first_local = rw (drop-append-le n us ws h, drop-append-le n us vs h) (kept_first-append (drop n us) m)

  digits-drop : (p : ℕ → Bool) → p mask_byte ≡ false → (t : Bool) → n + digits p t (drop n (us ++ vs)) ≤ length us → digits p t (drop n (us ++ ws)) ≡ digits p t (drop n (us ++ vs))
  digits-drop p q t k =
      let e : drop n (us ++ vs) ≡ drop n us ++ vs = drop-append-le n us vs h in
      let l = length-drop n us in
      let k' : n + digits p t (drop n us ++ vs) ≤ length us = rw e at k in
      rw (drop-append-le n us ws h, drop-append-le n us vs h) (digits_local p q t (drop n us) m (omega arith))

-- the prefix
abbrev pub choose : Bool → Bool → Opening
choose s t = cond s (record { hex = true; size = 2 }) (cond t (record { hex = false; size = 2 }) (record { hex = false; size = 1 }))

choose_small : (s t : Bool) → (choose s t).size ≤ 1 → choose false false ≡ choose s t
choose_small true t k = absurd (omega arith)
choose_small false true k = absurd (omega arith)
choose_small false false k = refl

prefix_dim : (a b e x : ℕ) → (x ≡ e) ⊎ (x ≡ mask_byte) → (prefix a b e).size ≤ 1 → prefix a b x ≡ prefix a b e
unfolding prefix
prefix_dim a b e x (inl p) h = ap (prefix a b) p
prefix_dim a b e x (inr p) h = ap (prefix a b) p ∙ simp and-false (choose_small (eqb a zero_digit && either small_x capital_x b && hex_digit e) (eqb a zero_digit && either small_b capital_b b && either zero_digit one_digit e) h)

pub prefix_size : (a b e : ℕ) → (1 ≤ (prefix a b e).size) × ((prefix a b e).size ≤ 2)
unfolding prefix
prefix_size a b e = go (eqb a zero_digit && either small_x capital_x b && hex_digit e) (eqb a zero_digit && either small_b capital_b b && either zero_digit one_digit e)
  where
    go : (s t : Bool) → (1 ≤ (choose s t).size) × ((choose s t).size ≤ 2)
    go true t = omega arith
    go false true = omega arith
    go false false = omega arith

opening_local : (us : List Char) {vs ws : List Char} → Kept vs ws → 1 ≤ length us → (opening (us ++ vs)).size ≤ length us → opening (us ++ ws) ≡ opening (us ++ vs)
opening_local [] m h k = absurd (omega arith)
opening_local (a ∷ []) {vs} {ws} m h k =
    ap (λ (b : ℕ). prefix a.code b (first (drop 1 ws))) (kept_first-append [] m) ∙ prefix_dim a.code (first vs) (first (drop 1 vs)) (first (drop 1 ws)) (kept_second m) k
opening_local (a ∷ b ∷ us) m h k = ap (prefix a.code b.code) (kept_first-append us m)

radix_mask_byte : (hex : Bool) → radix_digit hex mask_byte ≡ false
radix_mask_byte true = refl
radix_mask_byte false = refl

-- the clauses of `fraction`
module _ (p : ℕ → Bool) (w : ℕ) (cs : List Char) where
  pub fraction-dot : eqb (first (drop w cs)) dot ≡ true → fraction p w cs ≡ suc w + digits p false (drop (suc w) cs)
  unfolding fraction
  fraction-dot e = rw (e, fraction)

  pub fraction_none : eqb (first (drop w cs)) dot ≡ false → fraction p w cs ≡ w
  unfolding fraction
  fraction_none e = rw (e, fraction)

  pub fraction_least : w ≤ fraction p w cs
  fraction_least = go (eqb (first (drop w cs)) dot) refl
    where
      go : (b : Bool) → eqb (first (drop w cs)) dot ≡ b → w ≤ fraction p w cs
      go true e = let z = fraction-dot e in omega arith
      go false e = let z = fraction_none e in omega arith

fraction_local : (p : ℕ → Bool) → p mask_byte ≡ false → (w : ℕ) (us : List Char) {vs ws : List Char} → Kept vs ws → fraction p w (us ++ vs) ≤ length us → fraction p w (us ++ ws) ≡ fraction p w (us ++ vs)
fraction_local p q w us {vs} {ws} m k = go (eqb (first (drop w (us ++ vs))) dot) refl
  where
    least : w ≤ fraction p w (us ++ vs)
    least = fraction_least p w (us ++ vs)

    same : first (drop w (us ++ ws)) ≡ first (drop w (us ++ vs))
    same = first_local us m w (let l = least in omega arith)

    go : (b : Bool) → eqb (first (drop w (us ++ vs))) dot ≡ b → fraction p w (us ++ ws) ≡ fraction p w (us ++ vs)
    go true e =
        let z = fraction-dot p w (us ++ vs) e in
        fraction-dot p w (us ++ ws) (ap (λ (n : ℕ). eqb n dot) same ∙ e) ∙ ap (λ (n : ℕ). suc w + n) (digits-drop us m (suc w) (omega arith) p q false (omega arith)) ∙ sym z
    go false e = fraction_none p w (us ++ ws) (ap (λ (n : ℕ). eqb n dot) same ∙ e) ∙ sym (fraction_none p w (us ++ vs) e)

mantissa_local : (us : List Char) {vs ws : List Char} → Kept vs ws → 1 ≤ length us → mantissa (us ++ vs) ≤ length us → (opening (us ++ ws) ≡ opening (us ++ vs)) × (mantissa (us ++ ws) ≡ mantissa (us ++ vs))
unfolding mantissa
mantissa_local us {vs} {ws} m h k =
    let o = opening (us ++ vs) in
    let p : ℕ → Bool = radix_digit o.hex in
    let whole : ℕ = o.size + digits p false (drop o.size (us ++ vs)) in
    let least = fraction_least p whole (us ++ vs) in
    let eo : opening (us ++ ws) ≡ opening (us ++ vs) = opening_local us m h (omega arith) in
    let ed : digits p false (drop o.size (us ++ ws)) ≡ digits p false (drop o.size (us ++ vs)) = digits-drop us m o.size (omega arith) p (radix_mask_byte o.hex) false (omega arith) in (
      eo,
      ap (λ (o : Opening). fraction (radix_digit o.hex) (o.size + digits (radix_digit o.hex) false (drop o.size (us ++ ws))) (us ++ ws)) eo
          ∙ ap (λ (n : ℕ). fraction p (o.size + n) (us ++ ws)) ed ∙ fraction_local p (radix_mask_byte o.hex) whole us m k,
    )

-- the clauses of `power` and `exponent`
module _ (n : ℕ) (cs : List Char) where
  pub power_well : digit (first (drop n cs)) ≡ true → power n cs ≡ record { well = true; size = n + digits digit false (drop n cs) }
  unfolding power
  power_well e = rw (e, power)

  pub power_wrong : digit (first (drop n cs)) ≡ false → power n cs ≡ record { well = false; size = n }
  unfolding power
  power_wrong e = rw (e, power)

  pub power_least : n ≤ (power n cs).size
  power_least = go (digit (first (drop n cs))) refl
    where
      go : (b : Bool) → digit (first (drop n cs)) ≡ b → n ≤ (power n cs).size
      go true e = rw (power_well e) (omega arith)
      go false e = rw (power_wrong e) (omega arith)

power_local : (n : ℕ) (us : List Char) {vs ws : List Char} → Kept vs ws → (power n (us ++ vs)).size ≤ length us → power n (us ++ ws) ≡ power n (us ++ vs)
power_local n us {vs} {ws} m k = go (digit (first (drop n (us ++ vs)))) refl
  where
    least : n ≤ (power n (us ++ vs)).size
    least = power_least n (us ++ vs)

    same : first (drop n (us ++ ws)) ≡ first (drop n (us ++ vs))
    same = first_local us m n (let l = least in omega arith)

    go : (b : Bool) → digit (first (drop n (us ++ vs))) ≡ b → power n (us ++ ws) ≡ power n (us ++ vs)
    go true e =
        let z = ap (λ (f : Figures). f.size) (power_well n (us ++ vs) e) in
        power_well n (us ++ ws) (ap digit same ∙ e) ∙ ap {B = Figures} (λ (x : ℕ). record { well = true; size = n + x }) (digits-drop us m n (omega arith) digit refl false (omega arith)) ∙ sym (power_well n (us ++ vs) e)
    go false e = power_wrong n (us ++ ws) (ap digit same ∙ e) ∙ sym (power_wrong n (us ++ vs) e)

module _ (hex : Bool) (cs : List Char) where
  pub exponent_none : exponent_mark hex (first cs) ≡ false → exponent hex cs ≡ record { well = true; size = 0 }
  unfolding exponent
  exponent_none e = rw (e, exponent)

  pub exponent_some : exponent_mark hex (first cs) ≡ true → exponent hex cs ≡ power (suc (sign_length (first (drop 1 cs)))) cs
  unfolding exponent
  exponent_some e = rw (e, exponent)

exponent_local : (hex : Bool) (us : List Char) {vs ws : List Char} → Kept vs ws → (exponent hex (us ++ vs)).size ≤ length us → exponent hex (us ++ ws) ≡ exponent hex (us ++ vs)
exponent_local hex us {vs} {ws} m k = go (exponent_mark hex (first (us ++ vs))) refl
  where
    here : first (us ++ ws) ≡ first (us ++ vs)
    here = kept_first-append us m

    go : (b : Bool) → exponent_mark hex (first (us ++ vs)) ≡ b → exponent hex (us ++ ws) ≡ exponent hex (us ++ vs)
    go false e = exponent_none hex (us ++ ws) (ap (exponent_mark hex) here ∙ e) ∙ sym (exponent_none hex (us ++ vs) e)
    go true e =
        let z = exponent_some hex (us ++ vs) e in
        let s : ℕ = sign_length (first (drop 1 (us ++ vs))) in
        let k' : (power (suc s) (us ++ vs)).size ≤ length us = rw z at k in
        let least = power_least (suc s) (us ++ vs) in
        exponent_some hex (us ++ ws) (ap (exponent_mark hex) here ∙ e) ∙ ap (λ (x : ℕ). power (suc (sign_length x)) (us ++ ws)) (first_local us m 1 (omega arith)) ∙ power_local (suc s) us m k' ∙ sym z

-- Rule 6
follows : ℕ → Figures → Figures
follows m f = record { well = f.well; size = m + f.size }

exponent-drop : (hex : Bool) (a : ℕ) (us : List Char) {vs ws : List Char} → Kept vs ws → a + (exponent hex (drop a (us ++ vs))).size ≤ length us → exponent hex (drop a (us ++ ws)) ≡ exponent hex (drop a (us ++ vs))
exponent-drop hex a us {vs} {ws} m k =
    let e : drop a (us ++ vs) ≡ drop a us ++ vs = drop-append-le a us vs (omega arith) in
    let l = length-drop a us in
    let k' : a + (exponent hex (drop a us ++ vs)).size ≤ length us = rw e at k in
    rw (e, drop-append-le a us ws (omega arith)) (exponent_local hex (drop a us) m (omega arith))

pub figures_local : (d : Bool) (us : List Char) {vs ws : List Char} → Kept vs ws → 1 ≤ length us → (figures d (us ++ vs)).size ≤ length us → figures d (us ++ ws) ≡ figures d (us ++ vs)
unfolding figures follows
figures_local true us m h k = ap {B = Figures} (λ (n : ℕ). record { well = true; size = suc n }) (digits-drop us m 1 h digit refl false (omega arith))
figures_local false us {vs} {ws} m h k =
    let M = mantissa_local us m h (omega arith) in
    ap₂ (λ (o : Opening) (n : ℕ). follows n (exponent o.hex (drop n (us ++ ws)))) M.0 M.1
    ∙ ap (follows (mantissa (us ++ vs))) (exponent-drop (opening (us ++ vs)).hex (mantissa (us ++ vs)) us m k)
