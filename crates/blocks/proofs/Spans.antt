-- Numbers made of bits by exclusive or: what is linear is known by what it does to each bit. Assumes nothing.
use Prim.Native.Nat.{ℕ, zero, suc, ◌+◌, ◌*◌, ◌/◌, ◌^◌, ◌<◌}
use native.Mathlib.Omega.{arith}
use mathlib.Core.Path.{◌≡◌, refl, sym, ap, ap₂, ◌∙◌}
use mathlib.Core.List.{List, [], ◌∷◌, ◌++◌, map}
use mathlib.Core.Bool.{Bool, true, false, cond}
use lib.ListN.{length, length-append}
use Rattle.std.proofs.Common.{add-one}
use Rattle.std.proofs.lemmas.List.{length-map}
use lib.Bits.{bit_and, bit_xor, xor_assoc, xor_comm, xor_shifted}
use Rattle.blocks.specs.Sets.{set}
use Rattle.blocks.specs.Turns.{swap, turn}
use Rattle.blocks.proofs.Xors.{Linear, shr_linear, shl_linear, and_linear, xor_linear, then_linear, id_linear}

-- The numbers of the offsets of which f holds, the first offset's first, joined.
unfoldable pub span : List ℕ → (ℕ → Bool) → ℕ → ℕ
span [] f p = 0
span (v ∷ vs) f p = bit_xor (cond (f p) v 0) (span vs f (p + 1))

unfoldable pub powers : ℕ → List ℕ
powers zero = []
powers (suc n) = 1 ∷ map (λ a. a * 2 ^ 1) (powers n)

-- the high bit of each of n bytes
unfoldable pub lanes : ℕ → List ℕ
lanes zero = []
lanes (suc n) = 0x80 ∷ map (λ a. a * 2 ^ 8) (lanes n)

module _ (f : ℕ → Bool) where
  pub span_each : (g : ℕ → ℕ) → Linear g → (vs : List ℕ) (p : ℕ) → g (span vs f p) ≡ span (map g vs) f p
  unfolding span
  span_each g l [] p = l.none
  span_each g l (v ∷ vs) p = l.both (cond (f p) v 0) (span vs f (p + 1)) ∙ ap₂ bit_xor (go (f p)) (span_each g l vs (p + 1))
    where
      go : (t : Bool) → g (cond t v 0) ≡ cond t (g v) 0
      go true = refl
      go false = l.none

  pub span_join : (vs ws : List ℕ) (p q : ℕ) → q ≡ p + length vs → bit_xor (span vs f p) (span ws f q) ≡ span (vs ++ ws) f p
  unfolding span
  span_join [] ws p q e = ap (span ws f) (e ∙ omega arith)
  span_join (v ∷ vs) ws p q e =
      xor_assoc (cond (f p) v 0) (span vs f (p + 1)) (span ws f q) ∙ ap (bit_xor (cond (f p) v 0)) (span_join vs ws (p + 1) q (omega (arith, e)))

  -- 1, 2, 4 and so on
  pub span_set : (n p : ℕ) → span (powers n) f p ≡ set n f p
  unfolding span set powers
  span_set zero p = refl
  span_set (suc n) p =
      ap (bit_xor (cond (f p) 1 0)) (sym (span_each (λ a. a * 2 ^ 1) (shl_linear 1 (omega arith)) (powers n) (p + 1)) ∙ ap (λ (x : ℕ). x * 2) (span_set n (p + 1)))
      ∙ xor_comm (cond (f p) 1 0) (set n f (p + 1) * 2)
      ∙ xor_shifted (set n f (p + 1)) 1 (cond (f p) 1 0) (small (f p))
    where
      small : (t : Bool) → cond t 1 0 < 2
      small true = omega arith
      small false = omega arith

-- a turn is linear
swap_linear : (k mask : ℕ) → 0 / 2 ^ k ≡ 0 → 0 < 2 ^ k → Linear (swap k mask)
swap_linear k mask z l =
    let d = then_linear (λ a. bit_xor a (a / 2 ^ k)) (λ a. bit_and a mask) (xor_linear (λ a. a) (λ a. a / 2 ^ k) id_linear (shr_linear k z)) (and_linear mask) in
    xor_linear (λ a. bit_xor a (bit_and (bit_xor a (a / 2 ^ k)) mask)) (λ a. bit_and (bit_xor a (a / 2 ^ k)) mask * 2 ^ k)
    (xor_linear (λ a. a) (λ a. bit_and (bit_xor a (a / 2 ^ k)) mask) id_linear d)
    (then_linear (λ a. bit_and (bit_xor a (a / 2 ^ k)) mask) (λ a. a * 2 ^ k) d (shl_linear k l))

pub turn_linear : Linear turn
turn_linear =
    then_linear (λ t. swap 14 0x0000_CCCC_0000_CCCC (swap 7 0x00AA_00AA_00AA_00AA t)) (swap 28 0x0000_0000_F0F0_F0F0)
    (then_linear (swap 7 0x00AA_00AA_00AA_00AA) (swap 14 0x0000_CCCC_0000_CCCC) (swap_linear 7 0x00AA_00AA_00AA_00AA refl (omega arith)) (swap_linear 14 0x0000_CCCC_0000_CCCC refl (omega arith)))
    (swap_linear 28 0x0000_0000_F0F0_F0F0 refl (omega arith))

-- Eight rows of eight bits, each in the high bits of eight bytes: one below the other, and turned.
abbrev half : ℕ → ℕ
half a = a / 2 ^ 1

abbrev under : ℕ → ℕ → ℕ
under t m = bit_xor (t / 2) m

rowed : List ℕ → List ℕ
unfolding lanes
rowed vs = map half vs ++ lanes 8

-- so many rows
pub columns : ℕ → List ℕ
columns zero = []
columns (suc n) = rowed (columns n)

length-columns : (n : ℕ) → length (columns n) ≡ 8 * n
unfolding lanes rowed columns
length-columns zero = refl
length-columns (suc n) = length-append (map half (columns n)) (lanes 8) ∙ omega (arith, length-map (columns n) half, length-columns n)

-- each bit goes where it should: computed
all_turned : map turn (columns 8) ≡ powers 64
unfolding lanes powers rowed columns
all_turned = refl

module _ (f : ℕ → Bool) (i : ℕ) where
  pub no_row : 0 ≡ span (columns 0) f i
  unfolding span columns
  no_row = refl

  -- one row more
  pub row : {t m : ℕ} (n : ℕ) → t ≡ span (columns n) f i → m ≡ span (lanes 8) f (i + 8 * n) → under t m ≡ span (columns (n + 1)) f i
  unfolding rowed columns
  row n te me =
      let e : i + 8 * n ≡ i + length (map half (columns n)) = omega (arith, length-map (columns n) half, length-columns n) in
      rw add-one
      (ap₂ bit_xor (ap half te ∙ span_each f half (shr_linear 1 refl) (columns n) i) me ∙ span_join f (map half (columns n)) (lanes 8) i (i + 8 * n) e)

  pub gathered : {t : ℕ} → t ≡ span (columns 8) f i → turn t ≡ set 64 f i
  gathered e = ap turn e ∙ span_each f turn turn_linear (columns 8) i ∙ ap (λ (vs : List ℕ). span vs f i) all_turned ∙ span_set f 64 i
