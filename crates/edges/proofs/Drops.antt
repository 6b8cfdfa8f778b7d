-- A set without its first offsets. Assumes nothing.
use Prim.Native.Nat.{ℕ, zero, suc, ◌+◌, ◌-◌, ◌*◌, ◌/◌, ◌^◌, ◌≤◌, ◌<◌}
use native.Mathlib.Omega.{arith}
use native.Mathlib.Nat.{add-zero, mul-one, mul_assoc, pow-suc, div-one}
use mathlib.Core.Path.{◌≡◌, sym, ap, ap₂, ◌∙◌, subst}
use mathlib.Core.Bool.{Bool, false, cond}
use lib.Pow.{shr-shr}
use Rattle.blocks.specs.Sets.{set}
use Rattle.blocks.proofs.Sets.{set_same, set_split, bit-lt}

half_of : (a n : ℕ) (t : Bool) → n ≡ a * 2 + cond t 1 0 → n / 2 ^ 1 ≡ a
half_of a n t e = let b = bit-lt t in omega (arith, e, b)

pub dropped : (f : ℕ → Bool) (n m p : ℕ) → set (n + m) f p / 2 ^ n ≡ set m f (p + n)
dropped f zero m p =
    let x : 0 + m ≡ m = omega arith in
    div-one (set (0 + m) f p) ∙ ap₂ (λ (k q : ℕ). set k f q) x (sym (add-zero p))
dropped f (suc n) m p =
    let x : suc n + m ≡ suc (n + m) = omega arith in
    let y : 1 + n ≡ suc n = omega arith in
    let z : p + 1 + n ≡ p + suc n = omega arith in
    ap₂ (λ (k j : ℕ). set k f p / 2 ^ j) x (sym y)
    ∙ sym (shr-shr (set (suc (n + m)) f p) 1 n)
    ∙ ap (λ (a : ℕ). a / 2 ^ n) (half_of (set (n + m) f (p + 1)) (set (suc (n + m)) f p) (f p) (set_split (n + m) f p))
    ∙ dropped f n m (p + 1)
    ∙ ap (set m f) z

pub raised : (f g : ℕ → Bool) (n m p : ℕ) → ((k : ℕ) → k < n → g (p + k) ≡ false) → ((k : ℕ) → n ≤ k → k < n + m → g (p + k) ≡ f (p + k)) → set m f (p + n) * 2 ^ n ≡ set (n + m) g p
raised f g zero m p a b =
    let x : 0 + m ≡ m = omega arith in
    mul-one (set m f (p + 0)) ∙ ap (set m f) (add-zero p) ∙ set_same m f g p p (λ k h. sym (b k (omega arith) (omega arith))) ∙ ap (λ (k : ℕ). set k g p) (sym x)
raised f g (suc n) m p a b =
    let x : suc n + m ≡ suc (n + m) = omega arith in
    let z : p + suc n ≡ p + 1 + n = omega arith in
    let r =
    raised f g n m (p + 1) (λ k h. subst (λ (q : ℕ). g q ≡ false) (omega arith) (a (suc k) (omega arith)))
    (λ k h l. let y : p + suc k ≡ p + 1 + k = omega arith in ap g (sym y) ∙ b (suc k) (omega arith) (omega arith) ∙ ap f y) in
    ap₂ (λ (q j : ℕ). set m f q * j) z (pow-suc 2 n)
    ∙ sym (mul_assoc (set m f (p + 1 + n)) (2 ^ n) 2)
    ∙ ap (λ (a : ℕ). a * 2) r
    ∙ sym (add-zero (set (n + m) g (p + 1) * 2))
    ∙ ap (λ (t : Bool). set (n + m) g (p + 1) * 2 + cond t 1 0) (sym (ap g (sym (add-zero p)) ∙ a 0 (omega arith)))
    ∙ sym (set_split (n + m) g p)
    ∙ ap (λ (k : ℕ). set k g p) (sym x)

-- of 64
pub kept : (f g : ℕ → Bool) (n p : ℕ) → n ≤ 64 → ((k : ℕ) → k < n → g (p + k) ≡ false) → ((k : ℕ) → n ≤ k → k < 64 → g (p + k) ≡ f (p + k)) → set 64 f p / 2 ^ n * 2 ^ n ≡ set 64 g p
kept f g n p l a b =
    let m = 64 - n in
    let x : 64 ≡ n + m = omega arith in
    ap (λ (k : ℕ). set k f p / 2 ^ n * 2 ^ n) x
    ∙ ap (λ (a : ℕ). a * 2 ^ n) (dropped f n m p)
    ∙ raised f g n m p a (λ k h q. b k h (omega arith))
    ∙ ap (λ (k : ℕ). set k g p) (sym x)
