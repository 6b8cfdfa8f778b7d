-- Bytes packed into one number. Assumes nothing.
use Prim.Native.Nat.{ℕ, zero, suc, ◌+◌, ◌*◌, ◌^◌, ◌<◌}
use native.Mathlib.Omega.{arith}
use native.Mathlib.Nat.{pow-succ', mul_assoc, mul_comm}
use mathlib.Core.Path.{◌≡◌, sym, ap, ◌∙◌}
use mathlib.Core.List.{List}
use lib.ListN.{get_or}
use Rattle.runs.specs.Lanes.{packed}

pub packed_join : (m n : ℕ) (s : List ℕ) (i : ℕ) → packed (m + n) s i ≡ packed n s (i + m) * 256 ^ m + packed m s i
unfolding packed
packed_join zero n s i =
    let z : 0 + n ≡ n = omega arith in
    let k : i + 0 ≡ i = omega arith in
    rw (z, k) (omega arith)
packed_join (suc m) n s i =
    let z : suc m + n ≡ suc (m + n) = omega arith in
    let k : i + 1 + m ≡ i + suc m = omega arith in
    let p : packed n s (i + suc m) * (256 * 256 ^ m) ≡ packed n s (i + suc m) * 256 ^ m * 256 = ap (λ (x : ℕ). packed n s (i + suc m) * x) (mul_comm 256 (256 ^ m)) ∙ sym (mul_assoc (packed n s (i + suc m)) (256 ^ m) 256) in
    rw z (rw (pow-succ' 256 m) (omega (arith, p, packed_join m n s (i + 1) ∙ ap (λ (x : ℕ). packed n s x * 256 ^ m + packed m s (i + 1)) k)))

pub packed_lt : (n : ℕ) (s : List ℕ) → ((k : ℕ) → get_or s k 0 < 256) → (i : ℕ) → packed n s i < 256 ^ n
unfolding packed
packed_lt zero s fits i = omega arith
packed_lt (suc n) s fits i = rw (pow-succ' 256 n) (omega (arith, packed_lt n s fits (i + 1), fits i))
