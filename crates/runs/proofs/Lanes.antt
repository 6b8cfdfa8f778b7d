-- What is reckoned of all bytes of a number at once is reckoned of each. Assumes nothing.
use Prim.Native.Nat.{ℕ, suc, ◌+◌, ◌-◌, ◌*◌, ◌/◌, ◌%◌, ◌≤◌, ◌<◌}
use native.Mathlib.Omega.{arith}
use native.Mathlib.Nat.{mul-add, mul_assoc, mul-one}
use mathlib.Core.Path.{◌≡◌, refl, sym, ap, ap₂, ◌∙◌}
use mathlib.Core.List.{List, [], ◌∷◌}
use mathlib.Core.Bool.{Bool, true, false, not, cond, ◌&&◌}
use native.Mathlib.Decide.{dec_lt}
use lib.Bits.{bit_and, bit_or, bit_xor, and_block, or_block, xor_block, or_lt, xor_lt, and_le_r, and_shr, or_shr, xor_shr, and_mod, and_zero_r, and_mask}
use lib.ListN.{length, get_or, drop}
use lib.Seq.{drop-cons}
use lib.Dec.{leb}
use Rattle.std.proofs.Common.{add-one}
use borrow.Author.Tests.{leb-true, leb-false, lt-ltb, le-ltb}
use Rattle.runs.specs.Classes.{Ascii, past, inside, passes}
use Rattle.runs.specs.Lanes.{ones, raised, others, marks}

times_ones : (c n : ℕ) → c * ones (suc n) ≡ (c * ones n) * 256 + c
unfolding ones
times_ones c n = mul-add c (ones n * 256) 1 ∙ ap₂ ◌+◌ (sym (mul_assoc c (ones n) 256)) (mul-one c)

-- the edges from one on, and the next one's
pub raised_next :
    (n y : ℕ) (es : List ℕ) (i : ℕ) → i < length es
    → raised n (drop i es) y ≡ bit_xor (y + (0x80 - get_or es i 0) * ones n) (raised n (drop (i + 1) es) y)
unfolding raised
raised_next n y es i h = rw (add-one, drop-cons es i 0 h) refl

raised_low : (es : List ℕ) → Ascii es → (y : ℕ) → y < 128 → raised 1 es y < 256
unfolding raised ones
raised_low [] a y h = omega arith
raised_low (e ∷ es) a y h = xor_lt 8 (y + (0x80 - e) * 1) (raised 1 es y) (omega arith) (raised_low es a.1 y h)

raised_lane : (n : ℕ) (es : List ℕ) → Ascii es → (h y : ℕ) → y < 128 → raised (suc n) es (h * 256 + y) ≡ raised n es h * 256 + raised 1 es y
unfolding raised ones
raised_lane n [] a h y l = refl
raised_lane n (e ∷ es) a h y l =
    let t = 0x80 - e in
    let p : h * 256 + y + t * ones (suc n) ≡ (h + t * ones n) * 256 + (y + t * 1) = omega (arith, times_ones t n) in
    ap₂ bit_xor p (raised_lane n es a.1 h y l)
    ∙ xor_block 8 (h + t * ones n) (raised n es h) (y + t * 1) (raised 1 es y) (omega arith) (raised_low es a.1 y l)

-- a byte of ASCII without its high bit, which is what `bit_and b 7F` is of any byte
low_bits : (b : ℕ) → bit_and b 0x7F < 128
low_bits b = let h = and_le_r b 0x7F in omega arith

module _ (es : List ℕ) (a : Ascii es) where
  others_low : (b : ℕ) → b < 256 → others 1 es b < 256
  unfolding ones
  others_low b h = let l = and_le_r (bit_or (bit_xor (raised 1 es (bit_and b 0x7F)) 0x80) b) 0x80 in omega arith

  others_lane : (n h b : ℕ) → b < 256 → others (suc n) es (h * 256 + b) ≡ others n es h * 256 + others 1 es b
  unfolding ones
  others_lane n h b l =
      let low = 0x7F * ones n in
      let high = 0x80 * ones n in
      let y : bit_and (h * 256 + b) (0x7F * ones (suc n)) ≡ bit_and h low * 256 + bit_and b 0x7F =
      ap (bit_and (h * 256 + b)) (times_ones 0x7F n) ∙ and_block 8 h low b 0x7F l (omega arith) in
      let w : raised (suc n) es (bit_and (h * 256 + b) (0x7F * ones (suc n))) ≡ raised n es (bit_and h low) * 256 + raised 1 es (bit_and b 0x7F) =
      ap (raised (suc n) es) y ∙ raised_lane n es a (bit_and h low) (bit_and b 0x7F) (low_bits b) in
      let lw = raised_low es a (bit_and b 0x7F) (low_bits b) in
      let x = bit_xor (raised n es (bit_and h low)) high in
      let xb = bit_xor (raised 1 es (bit_and b 0x7F)) 0x80 in
      let lx = xor_lt 8 (raised 1 es (bit_and b 0x7F)) 0x80 lw (omega arith) in
      ap₂ bit_and
      (ap (λ (v : ℕ). bit_or v (h * 256 + b)) (ap₂ bit_xor w (times_ones 0x80 n) ∙ xor_block 8 (raised n es (bit_and h low)) high (raised 1 es (bit_and b 0x7F)) 0x80 lw (omega arith))
      ∙ or_block 8 x h xb b lx l)
      (times_ones 0x80 n)
      ∙ and_block 8 (bit_or x h) high (bit_or xb b) 0x80 (or_lt 8 xb b lx l) (omega arith)

  flip_lane : (out : Bool) (n : ℕ) → cond out (0x80 * ones (suc n)) 0 ≡ cond out (0x80 * ones n) 0 * 256 + cond out 0x80 0
  flip_lane true n = times_ones 0x80 n
  flip_lane false n = refl

  pub marks_lane : (out : Bool) (n h b : ℕ) → b < 256 → marks out (suc n) es (h * 256 + b) ≡ marks out n es h * 256 + bit_xor (others 1 es b) (cond out 0x80 0)
  marks_lane out n h b l =
      ap₂ bit_xor (others_lane n h b l) (flip_lane out n)
      ∙ xor_block 8 (others n es h) (cond out (0x80 * ones n) 0) (others 1 es b) (cond out 0x80 0) (others_low b l) (flip_low out)
    where
      flip_low : (out : Bool) → cond out 0x80 0 < 256
      flip_low true = omega arith
      flip_low false = omega arith

-- one lane: its high bit says whether an odd number of edges are at most the byte
edge-bit : (e y : ℕ) → e ≤ 0x80 → y < 128 → (y + (0x80 - e) * 1) / 128 ≡ cond (leb e y) 1 0
edge-bit e y l h = go (leb e y) refl
  where
    go : (t : Bool) → leb e y ≡ t → (y + (0x80 - e) * 1) / 128 ≡ cond t 1 0
    go true q = let m = leb-true e y q in omega arith
    go false q = let m = leb-false e y q in omega arith

other_bit : (p q : Bool) → bit_xor (cond p 1 0) (cond q 1 0) ≡ cond (cond p (not q) q) 1 0
other_bit true true = refl
other_bit true false = refl
other_bit false true = refl
other_bit false false = refl

raised-bit : (es : List ℕ) → Ascii es → (y : ℕ) → y < 128 → raised 1 es y / 128 ≡ cond (past es y) 1 0
unfolding raised ones past
raised-bit [] a y h = refl
raised-bit (e ∷ es) a y h =
    xor_shr (y + (0x80 - e) * 1) (raised 1 es y) 7
    ∙ ap₂ bit_xor (edge-bit e y a.0 h) (raised-bit es a.1 y h)
    ∙ other_bit (leb e y) (past es y)

module _ (es : List ℕ) (a : Ascii es) (b : ℕ) (l : b < 256) where
  others-bit : others 1 es b ≡ 128 * bit_and (bit_or (bit_xor (cond (past es (bit_and b 0x7F)) 1 0) 1) (b / 128)) 1
  unfolding ones
  others-bit =
      let w = raised 1 es (bit_and b 0x7F) in
      let v = bit_or (bit_xor w 0x80) b in
      let top = and_shr v 0x80 7 ∙ ap (λ (n : ℕ). bit_and n 1) (or_shr (bit_xor w 0x80) b 7 ∙ ap (λ (n : ℕ). bit_or n (b / 128)) (xor_shr w 0x80 7 ∙ ap (λ (n : ℕ). bit_xor n 1) (raised-bit es a (bit_and b 0x7F) (low_bits b)))) in
      let low : bit_and v 0x80 % 128 ≡ 0 = and_mod v 0x80 7 ∙ and_zero_r (v % 128) in
      omega (arith, top, low)

  others_lane_is : others 1 es b ≡ cond (inside es b) 0 0x80
  others_lane_is = go (dec_lt b 0x80)
    where
      low : (t : Bool) → 128 * bit_and (bit_or (bit_xor (cond t 1 0) 1) 0) 1 ≡ cond t 0 0x80
      low true = refl
      low false = refl

      high : (t : Bool) → 128 * bit_and (bit_or (bit_xor (cond t 1 0) 1) 1) 1 ≡ 0x80
      high true = refl
      high false = refl

      go : Dec (b < 0x80) → others 1 es b ≡ cond (inside es b) 0 0x80
      go (yes h) =
          let y : bit_and b 0x7F ≡ b = and_mask b 7 ∙ omega arith in
          let z : b / 128 ≡ 0 = omega arith in
          others-bit ∙ ap₂ (λ (y z : ℕ). 128 * bit_and (bit_or (bit_xor (cond (past es y) 1 0) 1) z) 1) y z ∙ low (past es b) ∙ ap (λ (t : Bool). cond (t && past es b) 0 0x80) (sym (lt-ltb b 0x80 h))
      go (no h) =
          let z : b / 128 ≡ 1 = omega arith in
          others-bit ∙ ap (λ (z : ℕ). 128 * bit_and (bit_or (bit_xor (cond (past es (bit_and b 0x7F)) 1 0) 1) z) 1) z ∙ high (past es (bit_and b 0x7F)) ∙ ap (λ (t : Bool). cond (t && past es b) 0 0x80) (sym (le-ltb b 0x80 (omega arith)))

  pub mark_is : (out : Bool) → bit_xor (others 1 es b) (cond out 0x80 0) ≡ cond (passes out es b) 0 0x80
  mark_is out = ap (λ (n : ℕ). bit_xor n (cond out 0x80 0)) others_lane_is ∙ go out (inside es b)
    where
      go : (out t : Bool) → bit_xor (cond t 0 0x80) (cond out 0x80 0) ≡ cond (cond out (not t) t) 0 0x80
      go true true = refl
      go true false = refl
      go false true = refl
      go false false = refl
