-- Exclusive or, and what goes through it. Assumes nothing.
use Prim.Native.Nat.{ℕ, zero, suc, ◌+◌, ◌*◌, ◌/◌, ◌%◌, ◌^◌, ◌<◌, min}
use native.Mathlib.Omega.{arith}
use native.Mathlib.Nat.{add-zero, zero-mul}
use mathlib.Core.Path.{◌≡◌, refl, sym, ap, ap₂, ◌∙◌}
use mathlib.Core.Logic.{◌⊎◌, inl, inr}
use lib.Arith.{bin_ind}
use lib.Bits.{bit_and, bit_xor, differ, and_step, xor_step, xor_assoc, xor_comm, xor_shr, xor_block}

-- a digit is 0 or 1
pub digit-cases : (x : ℕ) → x < 2 → (x ≡ 0) ⊎ (x ≡ 1)
digit-cases zero h = inl refl
digit-cases (suc zero) h = inr refl
digit-cases (suc (suc x)) h = absurd (omega arith)

odd_cases : (a : ℕ) → (a % 2 ≡ 0) ⊎ (a % 2 ≡ 1)
odd_cases a = digit-cases (a % 2) (omega arith)

differ_min : (x y z : ℕ) → (x ≡ 0) ⊎ (x ≡ 1) → (y ≡ 0) ⊎ (y ≡ 1) → (z ≡ 0) ⊎ (z ≡ 1) → min (differ x y) z ≡ differ (min x z) (min y z)
differ_min x y z (inl a) (inl b) (inl c) = rw (a, b, c) refl
differ_min x y z (inl a) (inl b) (inr c) = rw (a, b, c) refl
differ_min x y z (inl a) (inr b) (inl c) = rw (a, b, c) refl
differ_min x y z (inl a) (inr b) (inr c) = rw (a, b, c) refl
differ_min x y z (inr a) (inl b) (inl c) = rw (a, b, c) refl
differ_min x y z (inr a) (inl b) (inr c) = rw (a, b, c) refl
differ_min x y z (inr a) (inr b) (inl c) = rw (a, b, c) refl
differ_min x y z (inr a) (inr b) (inr c) = rw (a, b, c) refl

differ_digit : (x y : ℕ) → (x ≡ 0) ⊎ (x ≡ 1) → (y ≡ 0) ⊎ (y ≡ 1) → differ x y < 2
differ_digit x y (inl a) (inl b) = rw (a, b) (omega arith)
differ_digit x y (inl a) (inr b) = rw (a, b) (omega arith)
differ_digit x y (inr a) (inl b) = rw (a, b) (omega arith)
differ_digit x y (inr a) (inr b) = rw (a, b) (omega arith)

min_digit : (x y : ℕ) → (x ≡ 0) ⊎ (x ≡ 1) → (y ≡ 0) ⊎ (y ≡ 1) → min x y < 2
min_digit x y (inl a) (inl b) = rw (a, b) (omega arith)
min_digit x y (inl a) (inr b) = rw (a, b) (omega arith)
min_digit x y (inr a) (inl b) = rw (a, b) (omega arith)
min_digit x y (inr a) (inr b) = rw (a, b) (omega arith)

-- the lowest digit, and the rest
digit_of : (h d n : ℕ) → n ≡ h * 2 + d → d < 2 → (n / 2 ≡ h) × (n % 2 ≡ d)
digit_of h d n e l = (omega (arith, e), omega (arith, e))

xor-digits : (a b : ℕ) → (bit_xor a b / 2 ≡ bit_xor (a / 2) (b / 2)) × (bit_xor a b % 2 ≡ differ (a % 2) (b % 2))
xor-digits a b = digit_of _ _ _ (xor_step a b) (differ_digit (a % 2) (b % 2) (odd_cases a) (odd_cases b))

and-digits : (a b : ℕ) → (bit_and a b / 2 ≡ bit_and (a / 2) (b / 2)) × (bit_and a b % 2 ≡ min (a % 2) (b % 2))
and-digits a b = digit_of _ _ _ (and_step a b) (min_digit (a % 2) (b % 2) (odd_cases a) (odd_cases b))

join : {r s c d : ℕ} → r ≡ s → c ≡ d → r * 2 + c ≡ s * 2 + d
join p q = ap₂ (λ (x y : ℕ). x * 2 + y) p q

pub and_xor : (a b m : ℕ) → bit_and (bit_xor a b) m ≡ bit_xor (bit_and a m) (bit_and b m)
and_xor a =
    bin_ind (λ (n : ℕ). (b m : ℕ) → bit_and (bit_xor n b) m ≡ bit_xor (bit_and n m) (bit_and b m)) (λ b m. refl)
    (λ n ih b m.
    and_step (bit_xor n b) m
    ∙ join (ap (λ (x : ℕ). bit_and x (m / 2)) (xor-digits n b).0 ∙ ih (b / 2) (m / 2) ∙ ap₂ bit_xor (sym (and-digits n m).0) (sym (and-digits b m).0))
    (ap (λ (x : ℕ). min x (m % 2)) (xor-digits n b).1 ∙ differ_min (n % 2) (b % 2) (m % 2) (odd_cases n) (odd_cases b) (odd_cases m) ∙ ap₂ differ (sym (and-digits n m).1) (sym (and-digits b m).1))
    ∙ sym (xor_step (bit_and n m) (bit_and b m))) a

-- What goes through exclusive or.
pub record Linear (g : ℕ → ℕ) : Type 0 where
  pub none : g 0 ≡ 0
  pub both : (a b : ℕ) → g (bit_xor a b) ≡ bit_xor (g a) (g b)

pub shr_linear : (k : ℕ) → 0 / 2 ^ k ≡ 0 → Linear (λ a. a / 2 ^ k)
shr_linear k z = record { none = z; both = λ a b. xor_shr a b k }

pub shl_linear : (k : ℕ) → 0 < 2 ^ k → Linear (λ a. a * 2 ^ k)
shl_linear k l =
    record {
      none = zero-mul (2 ^ k);
      both = λ a b. sym (ap₂ bit_xor (sym (add-zero (a * 2 ^ k))) (sym (add-zero (b * 2 ^ k))) ∙ xor_block k a b 0 0 l l ∙ add-zero (bit_xor a b * 2 ^ k));
    }

pub and_linear : (m : ℕ) → Linear (λ a. bit_and a m)
and_linear m = record { none = refl; both = λ a b. and_xor a b m }

-- (a ^ b) ^ (c ^ d), the other way round
swap4 : (a b c d : ℕ) → bit_xor (bit_xor a b) (bit_xor c d) ≡ bit_xor (bit_xor a c) (bit_xor b d)
swap4 a b c d =
    xor_assoc a b (bit_xor c d)
    ∙ ap (bit_xor a) (sym (xor_assoc b c d) ∙ ap (λ (x : ℕ). bit_xor x d) (xor_comm b c) ∙ xor_assoc c b d)
    ∙ sym (xor_assoc a c (bit_xor b d))

pub xor_linear : (f g : ℕ → ℕ) → Linear f → Linear g → Linear (λ a. bit_xor (f a) (g a))
xor_linear f g l m =
    record {
      none = ap₂ bit_xor l.none m.none;
      both = λ a b. ap₂ bit_xor (l.both a b) (m.both a b) ∙ swap4 (f a) (f b) (g a) (g b);
    }

pub then_linear : (f g : ℕ → ℕ) → Linear f → Linear g → Linear (λ a. g (f a))
then_linear f g l m = record { none = ap g l.none ∙ m.none; both = λ a b. ap g (l.both a b) ∙ m.both (f a) (f b) }

pub id_linear : Linear (λ a. a)
id_linear = record { none = refl; both = λ a b. refl }
