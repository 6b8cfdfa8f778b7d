-- Going past well-formed characters: one, a byte of ASCII, a block of such bytes that are joined and tested once; and where that ends.
-- Assumes nothing.
use Prim.Native.Nat.{ℕ, ◌+◌, ◌≤◌, ◌<◌}
use mathlib.Core.Path.{◌≡◌, refl, sym, ◌∙◌}
use mathlib.Core.List.{List}
use native.Mathlib.Omega.{arith}
use lib.Bits.{bit_or, or_add_and, and_le_l, and_le_r}
use lib.ListN.{length, get_or, drop}
use Rattle.rules.specs.Utf8.{well_formed, valid_length}
use Rattle.rules.proofs.Decoding.{at_index, formed-one, valid-at, valid_stop, valid_end}
use Rattle.utf8.specs.Units.{Passes}

pub pass_none : (s : List ℕ) (i : ℕ) → i ≤ length s → Passes s i i
pass_none s i h = record { from = omega arith; upto = h; rest = refl }

pub pass_char : (s : List ℕ) (i j n : ℕ) → Passes s i j → j < length s → n ≡ well_formed (drop j s) → (n ≡ 0 → ⊥) → Passes s i (j + n)
pass_char s i j n p h e z =
    let v = valid-at s j n h (sym e) (omega (arith, z)) in
    record { from = omega (arith, p.from); upto = v.1; rest = omega (arith, v.0, p.rest) }

pub pass_byte : (s : List ℕ) (i j : ℕ) → Passes s i j → j < length s → get_or s j 0 < 0x80 → Passes s i (j + 1)
pass_byte s i j p h l = pass_char s i j 1 p h (sym (at_index s j ∙ formed-one _ _ _ _ l)) (λ z. omega arith)

pub pass_on : (s : List ℕ) (i j k : ℕ) → Passes s i j → Passes s j k → Passes s i k
pass_on s i j k p q = record { from = omega (arith, p.from, q.from); upto = q.upto; rest = p.rest ∙ q.rest }

-- where the text stops being well-formed
pub pass_end : (s : List ℕ) (j : ℕ) → Passes s 0 j → length s ≤ j → j ≡ valid_length s
pass_end s j p h = let v = valid_end s j h in omega (arith, p.rest)

pub pass_stop : (s : List ℕ) (j n : ℕ) → Passes s 0 j → n ≡ well_formed (drop j s) → n ≡ 0 → j ≡ valid_length s
pass_stop s j n p e z = let v = valid_stop (drop j s) (sym e ∙ z) in omega (arith, p.rest)

-- bytes joined: the first, and one more
or_low : (a b : ℕ) → bit_or a b < 0x80 → (a < 0x80) × (b < 0x80)
or_low a b h = let e = or_add_and a b in (omega (arith, and_le_r a b), omega (arith, and_le_l a b))

pub pass_first : (s : List ℕ) (i : ℕ) → i < length s → get_or s i 0 < 0x80 → Passes s i (i + 1)
pass_first s i h l = pass_byte s i i (pass_none s i (omega arith)) h l

pub pass_more : (s : List ℕ) (i k : ℕ) {x : ℕ} → i + k < length s → (x < 0x80 → Passes s i (i + k))
    → bit_or x (get_or s (i + k) 0) < 0x80 → Passes s i (i + (k + 1))
pass_more s i k {x} h p l =
    let o = or_low x (get_or s (i + k) 0) l in
    let e : (i + k) + 1 ≡ i + (k + 1) = omega arith in
    rw e at (pass_byte s i (i + k) (p o.0) h o.1)
