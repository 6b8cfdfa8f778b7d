-- Tests as equations.
use Prim.Native.Nat.{ℕ, ◌≤◌, ◌<◌}
use native.Mathlib.Omega.{arith}
use mathlib.Core.Path.{◌≡◌, refl, sym, ap, ◌∙◌, subst}
use mathlib.Core.Bool.{Bool, true, false, ◌&&◌, ◌||◌, cond, true≢false}
use mathlib.Core.Logic.{◌⊎◌, inl, inr}
use lib.Dec.{T, leb, eqb, leb→le, le→leb, eqb→eq, eqb_refl}
use Rattle.rules.specs.Utf8.{within}
use Rattle.rules.specs.Classes.{letter, digit}
use Rattle.rules.specs.Characters.{underscore}
use Rattle.rules.specs.Dollars.{tag_byte}

pub T→true : (b : Bool) → T b → b ≡ true
T→true true t = refl
T→true false t = absurd t

pub true→T : {b : Bool} → b ≡ true → T b
true→T e = subst T (sym e) tt

pub eqb-true : {m n : ℕ} → eqb m n ≡ true → m ≡ n
eqb-true {m} {n} e = eqb→eq m n (true→T e)

pub eqb_same : (n : ℕ) → eqb n n ≡ true
eqb_same n = T→true (eqb n n) (eqb_refl n)

pub leb-true : (m n : ℕ) → leb m n ≡ true → m ≤ n
leb-true m n e = leb→le m n (true→T e)

pub le-true : (m n : ℕ) → m ≤ n → leb m n ≡ true
le-true m n h = T→true (leb m n) (le→leb m n h)

pub clash {ℓ} : {A : Type ℓ} {b : Bool} → b ≡ true → b ≡ false → A
clash p q = absurd (true≢false (sym p ∙ q))

pub and_both : (a b : Bool) → (a && b) ≡ true → (a ≡ true) × (b ≡ true)
and_both true b e = (refl, e)
and_both false b e = clash refl (sym e)

pub and_left : (a b : Bool) → (a && b) ≡ true → a ≡ true
and_left a b e = (and_both a b e).0

pub and_right : (a b : Bool) → (a && b) ≡ true → b ≡ true
and_right a b e = (and_both a b e).1

pub both : (a b : Bool) → a ≡ true → b ≡ true → (a && b) ≡ true
both a b p q = rw (p, q)

-- a test that fails at one number and passes at another tells them apart
pub apart : (p : ℕ → Bool) (m n : ℕ) → p m ≡ true → p n ≡ false → eqb m n ≡ false
apart p m n g h = go (eqb m n) refl
  where
    go : (b : Bool) → eqb m n ≡ b → b ≡ false
    go false e = refl
    go true e = clash g (ap p (eqb-true e) ∙ h)

pub or_cases : (a b : Bool) → (a || b) ≡ true → (a ≡ true) ⊎ (b ≡ true)
or_cases true b e = inl refl
or_cases false b e = inr e

pub or_left : (a b : Bool) → a ≡ true → (a || b) ≡ true
or_left a b e = rw e

pub or_right : (a b : Bool) → b ≡ true → (a || b) ≡ true
or_right true b e = refl
or_right false b e = e

-- each choice of a chain of tests has what F asks
pub cond_ind {ℓ} : {A : Type 0} (F : A → Type ℓ) (t : Bool) (x y : A) → (t ≡ true → F x) → (t ≡ false → F y) → F (cond t x y)
cond_ind F true x y f g = f refl
cond_ind F false x y f g = g refl

pub lt-false : (m n : ℕ) → n < m → leb m n ≡ false
lt-false m n h = go (leb m n) refl
  where
    go : (b : Bool) → leb m n ≡ b → b ≡ false
    go false e = refl
    go true e = let k = leb-true m n e in absurd (omega arith)

pub apart' : (p : ℕ → Bool) (m n : ℕ) → p m ≡ false → p n ≡ true → eqb m n ≡ false
apart' p m n h g = go (eqb m n) refl
  where
    go : (b : Bool) → eqb m n ≡ b → b ≡ false
    go false e = refl
    go true e = clash g (ap p (sym (eqb-true e)) ∙ h)

pub within-true : (lo hi c : ℕ) → within lo hi c ≡ true → (lo ≤ c) × (c ≤ hi)
within-true lo hi c e = (leb-true lo c (and_left (leb lo c) (leb c hi) e), leb-true c hi (and_right (leb lo c) (leb c hi) e))

pub letter_small : (c : ℕ) → letter c ≡ true → c < 128
letter_small c e = go (or_cases (within 0x41 0x5A c) (within 0x61 0x7A c) e)
  where
    go : (within 0x41 0x5A c ≡ true) ⊎ (within 0x61 0x7A c ≡ true) → c < 128
    go (inl p) = let h = within-true 0x41 0x5A c p in omega arith
    go (inr p) = let h = within-true 0x61 0x7A c p in omega arith

pub digit_small : (c : ℕ) → digit c ≡ true → c < 128
digit_small c e = let h = within-true 0x30 0x39 c e in omega arith

pub tag_small : (c : ℕ) → tag_byte c ≡ true → c < 128
tag_small c e = go (or_cases (letter c || digit c) (eqb c underscore) e)
  where
    word : (letter c ≡ true) ⊎ (digit c ≡ true) → c < 128
    word (inl p) = letter_small c p
    word (inr p) = digit_small c p

    go : ((letter c || digit c) ≡ true) ⊎ (eqb c underscore ≡ true) → c < 128
    go (inl p) = word (or_cases (letter c) (digit c) p)
    go (inr p) = let h : c ≡ underscore = eqb-true p in omega arith
