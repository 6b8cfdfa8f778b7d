-- The eight lowest bytes of a number are summed in four lanes of 16 bits. Assumes nothing.
use Prim.Native.Nat.{ℕ, ◌+◌, ◌*◌, ◌/◌, ◌%◌, ◌^◌, ◌<◌}
use native.Mathlib.Omega.{arith}
use lib.Bits.{bit_and, and_block, and_mask}
use mathlib.Core.Path.{◌≡◌, ap, ◌∙◌}
use Rattle.classes.specs.Rows.{byte_sum}

abbrev lanes : ℕ → ℕ → ℕ → ℕ → ℕ
lanes a b c d = ((d * 65536 + c) * 65536 + b) * 65536 + a

-- A mask whose lowest byte is all ones and whose next is zero: what it leaves of the lowest lane, and of those above.
masked_lane : (x m : ℕ) → bit_and x (m * 2 ^ 16 + 0xFF) ≡ bit_and (x / 256 / 256) m * 65536 + x % 256
masked_lane x m =
    let e : x ≡ x / 256 / 256 * 2 ^ 16 + x % 65536 = omega arith in
    let l : bit_and (x % 65536) 0xFF ≡ x % 256 = and_mask (x % 65536) 8 ∙ omega arith in
    ap (λ (y : ℕ). bit_and y (m * 2 ^ 16 + 0xFF)) e
    ∙ and_block 16 (x / 256 / 256) m (x % 65536) 0xFF (omega arith) (omega arith)
    ∙ ap (λ (y : ℕ). bit_and (x / 256 / 256) m * 65536 + y) l

-- Every other byte, from the lowest on.
every_other :
    (x : ℕ) → bit_and x 0x00FF00FF00FF00FF
    ≡ lanes (x % 256) (x / 256 / 256 % 256) (x / 256 / 256 / 256 / 256 % 256) (x / 256 / 256 / 256 / 256 / 256 / 256 % 256)
every_other x =
    let a = masked_lane x 0x00FF00FF00FF in
    let b = masked_lane (x / 256 / 256) 0x00FF00FF in
    let c = masked_lane (x / 256 / 256 / 256 / 256) 0xFF in
    let d : bit_and (x / 256 / 256 / 256 / 256 / 256 / 256) 0xFF ≡ x / 256 / 256 / 256 / 256 / 256 / 256 % 256 = and_mask (x / 256 / 256 / 256 / 256 / 256 / 256) 8 in
    omega (arith, a, b, c, d)

two_by_two : (a b c d e f g h : ℕ) → lanes a c e g + lanes b d f h ≡ lanes (a + b) (c + d) (e + f) (g + h)
two_by_two a b c d e f g h = omega arith

-- The upper two lanes put to the lower two, and then the second lane to the first.
abbrev folded : ℕ → ℕ
folded twos = let fours = twos + twos / 0x100000000 in (fours + fours / 0x10000) % 0x10000

upper : (q r : ℕ) → r < 65536 → (q * 65536 + r) / 65536 ≡ q
upper q r l = omega arith

lower : (q r : ℕ) → r < 65536 → (q * 65536 + r) % 65536 ≡ r
lower q r l = omega arith

-- Lanes of two bytes each: none runs over into the next.
folded_sum : (a b c d : ℕ) → a < 512 → b < 512 → c < 512 → d < 512 → folded (lanes a b c d) ≡ a + c + (b + d)
folded_sum a b c d la lb lc ld =
    let above = (d * 65536 + c) * 65536 + (b + d) in
    let u : lanes a b c d / 0x100000000 ≡ d * 65536 + c = omega arith in
    let f : lanes a b c d + (d * 65536 + c) ≡ above * 65536 + (a + c) = omega arith in
    let s : above * 65536 + (a + c) + above ≡ (above + (d * 65536 + c)) * 65536 + (a + c + (b + d)) = omega arith in
    rw (u, f, upper above (a + c) (omega arith), s) (lower (above + (d * 65536 + c)) (a + c + (b + d)) (omega arith))

in_turn : (a b c d e f g h : ℕ) → a + b + (e + f) + (c + d + (g + h)) ≡ a + (b + (c + (d + (e + (f + (g + (h + 0)))))))
in_turn a b c d e f g h = omega arith

pub bytes_sum : (x : ℕ) → folded (bit_and x 0x00FF00FF00FF00FF + bit_and (x / 256) 0x00FF00FF00FF00FF) ≡ byte_sum 8 x
unfolding byte_sum
bytes_sum x =
    rw (every_other x, every_other (x / 256), two_by_two _ _ _ _ _ _ _ _)
    (folded_sum _ _ _ _ (omega arith) (omega arith) (omega arith) (omega arith) ∙ in_turn _ _ _ _ _ _ _ _)
