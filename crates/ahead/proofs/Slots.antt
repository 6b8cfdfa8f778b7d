-- The hash of a tag, byte by byte, its slot, and what is noted for the slots. Assumes nothing.
use Rattle.std.proofs.Common.{◌≡◌, ℕ, zero, suc, ◌+◌, ◌-◌, ◌*◌, ◌/◌, ◌%◌, ◌<◌, ◌≤◌, true, false, List, ◌∷◌, length, get_or, drop, sym, refl, ap, ◌∙◌, add-zero, mul-le-mul, add-one, arith, drop_of_length-le, drop-cons, eq-eqb, ne_eqb}
use Rattle.rules.specs.Characters.{dollar}
use Rattle.rules.specs.Dollars.{tag_byte}
use Rattle.rules.proofs.Tests.{clash}
use Rattle.rules.proofs.Decoding.{within_text}
use Rattle.ahead.specs.Slots.{key_at, mixed, hash_from, start_of, may_hold, probed, slot_of, no_slot, slot_from}

-- A byte more fits.
pub mixed_fits : (k h b : ℕ) → k < 0x100000000 → h < 0x10000000000000000 → b < 256 → (h % 0x100000000 * k + h / 0x100000000 + b < 0x10000000000000000) × (h % 0x100000000 * k + h / 0x100000000 < 0x10000000000000000) × (h % 0x100000000 * k < 0x10000000000000000)
mixed_fits k h b i j l =
    let m : h % 0x100000000 ≤ 0xFFFFFFFF = omega arith in
    let n : k ≤ 0xFFFFFFFF = omega arith in
    let p : h % 0x100000000 * k ≤ 0xFFFFFFFF * 0xFFFFFFFF = mul-le-mul m n in
    (omega arith, omega arith, omega arith)

module _ (a b h : ℕ) (s : List ℕ) (i : ℕ) where
  cut : i < length s → drop i s ≡ get_or s i 0 ∷ drop (i + 1) s
  cut l = drop-cons s i 0 l ∙ ap (λ (m : ℕ). get_or s i 0 ∷ drop m s) (sym (add-one i))

  pub hash_tag : i < length s → tag_byte (get_or s i 0) ≡ true → hash_from a b h (drop i s) ≡ hash_from b a (mixed a h (get_or s i 0)) (drop (i + 1) s)
  unfolding hash_from
  hash_tag l t = ap (hash_from a b h) (cut l) ∙ rw (t, hash_from)

  pub hash_over : i < length s → tag_byte (get_or s i 0) ≡ false → hash_from a b h (drop i s) ≡ mixed b (mixed a h (get_or s i 0)) 0
  unfolding hash_from
  hash_over l t = ap (hash_from a b h) (cut l) ∙ rw (t, hash_from)

  pub hash_end : length s ≤ i → hash_from a b h (drop i s) ≡ mixed b (mixed a h 0) 0
  unfolding hash_from
  hash_end l = ap (hash_from a b h) (drop_of_length-le s l)

-- a tag byte, or a `$`, is none that is past the end
tag_inside : (s : List ℕ) (i : ℕ) → tag_byte (get_or s i 0) ≡ true → i < length s
tag_inside s i t = go (get_or s i 0) refl
  where
    go : (c : ℕ) → get_or s i 0 ≡ c → i < length s
    go zero z = clash t (ap tag_byte z)
    go (suc c) z = within_text s i (omega arith)

-- Two places with the same tag have the same hash, and so the same slot.
hash_same : (s : List ℕ) (n a b h p q : ℕ) → ((k : ℕ) → k < n → tag_byte (get_or s (p + k) 0) ≡ true) → ((k : ℕ) → k ≤ n → get_or s (q + k) 0 ≡ get_or s (p + k) 0) → get_or s (p + n) 0 ≡ dollar
    → hash_from a b h (drop q s) ≡ hash_from a b h (drop p s)
hash_same s zero a b h p q t e d =
    let x : get_or s p 0 ≡ dollar = rw (add-zero p) at d in
    let y : get_or s q 0 ≡ get_or s p 0 = rw (add-zero q, add-zero p) at (e 0 (omega arith)) in
    let z : get_or s q 0 ≡ dollar = y ∙ x in
    hash_over a b h s q (within_text s q (omega arith)) (ap tag_byte z)
    ∙ ap (λ (c : ℕ). mixed b (mixed a h c) 0) y
    ∙ sym (hash_over a b h s p (within_text s p (omega arith)) (ap tag_byte x))
hash_same s (suc n) a b h p q t e d =
    let x : tag_byte (get_or s p 0) ≡ true = rw (add-zero p) at (t 0 (omega arith)) in
    let y : get_or s q 0 ≡ get_or s p 0 = rw (add-zero q, add-zero p) at (e 0 (omega arith)) in
    let z : tag_byte (get_or s q 0) ≡ true = ap tag_byte y ∙ x in
    hash_tag a b h s q (tag_inside s q z) z
    ∙ ap (λ (c : ℕ). hash_from b a (mixed a h c) (drop (q + 1) s)) y
    ∙ hash_same s n b a (mixed a h (get_or s p 0)) (p + 1) (q + 1)
    (λ k h. let x : p + 1 + k ≡ p + (k + 1) = omega arith in rw x (t (k + 1) (omega arith)))
    (λ k h. let x : p + 1 + k ≡ p + (k + 1) = omega arith in let y : q + 1 + k ≡ q + (k + 1) = omega arith in rw (x, y) (e (k + 1) (omega arith)))
    (let x : p + 1 + n ≡ p + suc n = omega arith in rw x d)
    ∙ sym (hash_tag a b h s p (tag_inside s p x) x)

pub slot_same : (table s : List ℕ) (p q n : ℕ) → ((k : ℕ) → k < n → tag_byte (get_or s (p + k) 0) ≡ true) → ((k : ℕ) → k ≤ n → get_or s (q + k) 0 ≡ get_or s (p + k) 0) → get_or s (p + n) 0 ≡ dollar
    → slot_from table (drop q s) ≡ slot_from table (drop p s)
slot_same table s p q n t e d = ap (slot_of table) (hash_same s n (get_or table key_at 0) (get_or table (key_at + 1) 0) (get_or table key_at 0) p q t e d)

pub slot_some : (table : List ℕ) (h : ℕ) → may_hold table h ≡ true → slot_of table h ≡ probed table (h / 0x100000000) (start_of h) 64
unfolding slot_of
slot_some table h e = rw (e, slot_of)

pub slot_none : (table : List ℕ) (h : ℕ) → may_hold table h ≡ false → slot_of table h ≡ no_slot
unfolding slot_of
slot_none table h e = rw (e, slot_of)

-- A place of a number, place by place.
pub probed_here : (table : List ℕ) (f i n : ℕ) → 0 < n → get_or table i 0 ≡ f → probed table f i n ≡ i
unfolding probed
probed_here table f i zero l e = absurd (omega arith)
probed_here table f i (suc n) l e = rw (eq-eqb _ _ e, probed)

pub probed_none : (table : List ℕ) (f i n : ℕ) → 0 < n → (get_or table i 0 ≡ f → ⊥) → get_or table i 0 ≡ 0 → probed table f i n ≡ no_slot
unfolding probed
probed_none table f i zero l e z = absurd (omega arith)
probed_none table f i (suc n) l e z = rw (ne_eqb _ _ e, eq-eqb _ _ z, probed)

pub probed_next : (table : List ℕ) (f i n : ℕ) → 0 < n → (get_or table i 0 ≡ f → ⊥) → (get_or table i 0 ≡ 0 → ⊥) → probed table f i n ≡ probed table f (i + 1) (n - 1)
unfolding probed
probed_next table f i zero l e z = absurd (omega arith)
probed_next table f i (suc n) l e z = let x : n ≡ suc n - 1 = omega arith in rw (ne_eqb _ _ e, ne_eqb _ _ z, probed) (ap (probed table f (i + 1)) x)

pub probed_over : (table : List ℕ) (f i : ℕ) → probed table f i 0 ≡ no_slot
unfolding probed
probed_over table f i = refl
