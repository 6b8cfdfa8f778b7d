-- Laws of rows of eight strides. Assumes nothing.
use Rattle.std.proofs.Common.{◌≡◌, refl, sym, ap, ◌∙◌, ℕ, zero, suc, ◌+◌, ◌-◌, ◌*◌, ◌/◌, ◌%◌, ◌^◌, ◌≤◌, ◌<◌, List, [], ◌∷◌, Bool, true, ◌&&◌, length, drop, get_or, arith}
use Prim.Native.Nat.{zero-le}
use native.Mathlib.Nat.{div-one, div-div-eq-div-mul, eq-or-lt_of_le}
use mathlib.Core.Logic.{⊎_elim}
use lib.Pow.{pow-add}
use lib.ListN.{get_or-eq_default}
use lib.Seq.{get_or-drop}
use lib.Dec.{leb, ltb}
use borrow.Author.Tests.{leb-true, ltb-true}
use Rattle.rules.proofs.Tests.{and_both}
use Rattle.runs.specs.Lanes.{packed}
use Rattle.classes.specs.declared.tables.TheConstants.{STRIDES}
use Rattle.classes.specs.Strides.{total}
use Rattle.classes.specs.Rows.{byte_sum}
use Rattle.classes.proofs.Strides.{total_stride}

-- A stride is below 256: one computed test.
abbrev bytes : List ℕ → Bool
bytes [] = true
bytes (s ∷ l) = ltb s 256 && bytes l

bytes_at : (l : List ℕ) → bytes l ≡ true → (k : ℕ) → get_or l k 0 < 256
bytes_at [] h k = omega arith
bytes_at (s ∷ l) h zero = ltb-true s 256 (and_both (ltb s 256) (bytes l) h).0
bytes_at (s ∷ l) h (suc k) = bytes_at l (and_both (ltb s 256) (bytes l) h).1 k

stride_small : (k : ℕ) → get_or STRIDES k 0 < 256
stride_small = bytes_at STRIDES refl

-- The bytes of a row are its strides.
bytes_sum : (n : ℕ) (s : List ℕ) (i : ℕ) → ((k : ℕ) → get_or s k 0 < 256) → total s i + byte_sum n (packed n s i) ≡ total s (i + n)
unfolding byte_sum packed
bytes_sum zero s i h = let e : i + 0 ≡ i = omega arith in rw e (omega arith)
bytes_sum (suc n) s i h =
    let e : i + suc n ≡ i + 1 + n = omega arith in
    let m : (packed n s (i + 1) * 256 + get_or s i 0) % 256 ≡ get_or s i 0 = omega (arith, h i) in
    let d : (packed n s (i + 1) * 256 + get_or s i 0) / 256 ≡ packed n s (i + 1) = omega (arith, h i) in
    rw (e, m, d) (omega (arith, bytes_sum n s (i + 1) h, total_stride s i))

pub row_sum : (i : ℕ) → total STRIDES i + byte_sum 8 (packed 8 STRIDES i) ≡ total STRIDES (i + 8)
row_sum i = bytes_sum 8 STRIDES i stride_small

-- The first of a row, and the rest.
row_first : (n i : ℕ) → packed (suc n) STRIDES i % 256 ≡ get_or STRIDES i 0
unfolding packed
row_first n i = omega (arith, stride_small i)

row_rest : (n i : ℕ) → packed (suc n) STRIDES i / 256 ≡ packed n STRIDES (i + 1)
unfolding packed
row_rest n i = omega (arith, stride_small i)

no_bytes : (n : ℕ) → byte_sum n 0 ≡ 0
unfolding byte_sum
no_bytes zero = refl
no_bytes (suc n) = omega (arith, no_bytes n)

row_drop : (j n i : ℕ) → packed (j + n) STRIDES i / 2 ^ (j * 8) ≡ packed n STRIDES (i + j)
row_drop zero n i =
    let e : i + 0 ≡ i = omega arith in
    let z : 0 + n ≡ n = omega arith in
    rw (e, z) (div-one (packed n STRIDES i))
row_drop (suc j) n i =
    let e : i + suc j ≡ i + 1 + j = omega arith in
    let z : suc j + n ≡ suc (j + n) = omega arith in
    let p : 2 ^ (suc j * 8) ≡ 256 * 2 ^ (j * 8) = ap (λ (x : ℕ). 2 ^ x) (let q : suc j * 8 ≡ 8 + j * 8 = omega arith in q) ∙ pow-add 2 8 (j * 8) in
    let d = div-div-eq-div-mul (packed (suc (j + n)) STRIDES i) 256 (2 ^ (j * 8)) in
    rw (e, z, p, sym d, row_rest (j + n) i) (row_drop j n (i + 1))

-- A row of eight without its first k % 8 strides.
pub row_from : (k : ℕ) → packed 8 STRIDES (8 * (k / 8)) / 2 ^ (k % 8 * 8) ≡ packed (k / 8 * 8 + 8 - k) STRIDES k
row_from k =
    let e : 8 * (k / 8) + k % 8 ≡ k = omega arith in
    let z : k % 8 + (k / 8 * 8 + 8 - k) ≡ 8 = omega arith in
    rw (z, e) at (row_drop (k % 8) (k / 8 * 8 + 8 - k) (8 * (k / 8)))

few_sum : (n d i : ℕ) → total STRIDES i + byte_sum (n + d) (packed n STRIDES i) ≡ total STRIDES (i + n)
unfolding byte_sum packed
few_sum zero d i =
    let e : i + 0 ≡ i = omega arith in
    let z : 0 + d ≡ d = omega arith in
    rw (e, z) (omega (arith, no_bytes d))
few_sum (suc n) d i =
    let e : i + suc n ≡ i + 1 + n = omega arith in
    let z : suc n + d ≡ suc (n + d) = omega arith in
    rw (e, z, row_first n i, row_rest n i) (omega (arith, few_sum n d (i + 1), total_stride STRIDES i))

pub rest_sum : (k : ℕ) → total STRIDES k + byte_sum 8 (packed 8 STRIDES (8 * (k / 8)) / 2 ^ (k % 8 * 8)) ≡ total STRIDES (k / 8 * 8 + 8)
rest_sum k =
    let n = k / 8 * 8 + 8 - k in
    let e : n + (8 - n) ≡ 8 = omega arith in
    let f : k + n ≡ k / 8 * 8 + 8 = omega arith in
    rw (row_from k) (rw (e, f) at (few_sum n (8 - n) k))

packed-drop : (n i j : ℕ) → packed n (drop i STRIDES) j ≡ packed n STRIDES (i + j)
unfolding packed
packed-drop zero i j = refl
packed-drop (suc n) i j =
    let e : i + (j + 1) ≡ i + j + 1 = omega arith in
    rw (get_or-drop i STRIDES j 0, packed-drop n i (j + 1), e) refl

-- Row by row from the front, and past the last row.
pub row_at : (row : ℕ) → packed 8 (drop (8 * row) STRIDES) 0 ≡ packed 8 STRIDES (8 * row)
row_at row = let e : 8 * row + 0 ≡ 8 * row = omega arith in rw e at (packed-drop 8 (8 * row) 0)

packed-past : (n i : ℕ) → length STRIDES ≤ i → packed n STRIDES i ≡ 0
unfolding packed
packed-past zero i h = refl
packed-past (suc n) i h = omega (arith, packed-past n (i + 1) (omega arith), get_or-eq_default STRIDES 0 h)

-- none of n rows
abbrev pub Missed : ℕ → ℕ → Type 0
Missed zero a = Unit {0}
Missed (suc n) a = Missed n a × (a ≡ n → ⊥)

missed : (n a : ℕ) → Missed n a → n ≤ a
missed zero a m = zero-le
missed (suc n) a m = ⊎_elim (λ (e : n ≡ a). absurd (m.1 (sym e))) (λ l. l) (eq-or-lt_of_le (missed n a m.0))

pub past_rows : (n row : ℕ) → leb (length STRIDES) (8 * n) ≡ true → Missed n row → 0 ≡ packed 8 STRIDES (8 * row)
past_rows n row h m = sym (packed-past 8 (8 * row) (omega (arith, leb-true (length STRIDES) (8 * n) h, missed n row m)))
