-- Sets of offsets: what holds of each bit. Assumes nothing.
use Prim.Native.Nat.{ℕ, zero, suc, ◌+◌, ◌-◌, ◌*◌, ◌/◌, ◌%◌, ◌^◌, ◌<◌}
use native.Mathlib.Omega.{arith}
use native.Mathlib.Nat.{pow-suc, add-zero}
use mathlib.Core.Path.{◌≡◌, refl, sym, ap, ap₂, ◌∙◌}
use mathlib.Core.Bool.{Bool, true, false, not, cond, ◌&&◌, ◌||◌}
use lib.Dec.{ltb}
use borrow.Author.Tests.{lt-ltb, le-ltb}
use lib.Bits.{bit_and, bit_or, bit_xor, and_block, or_block, xor_block}
use Rattle.blocks.specs.Sets.{set}
use Rattle.blocks.specs.Edges.{cuts}

abbrev bit : Bool → ℕ
bit t = cond t 1 0

pub bit-lt : (t : Bool) → bit t < 2
bit-lt true = omega arith
bit-lt false = omega arith

pub set-lt : (n : ℕ) (f : ℕ → Bool) (p : ℕ) → set n f p < 2 ^ n
unfolding set
set-lt zero f p = omega arith
set-lt (suc n) f p = let l = set-lt n f (p + 1) in let e = pow-suc 2 n in let b = bit-lt (f p) in omega (arith, l, e, b)

pub set_same : (n : ℕ) (f g : ℕ → Bool) (p q : ℕ) → ((k : ℕ) → k < n → f (p + k) ≡ g (q + k)) → set n f p ≡ set n g q
unfolding set
set_same zero f g p q h = refl
set_same (suc n) f g p q h =
    ap₂ (λ (x : ℕ) (t : Bool). x * 2 + bit t)
    (set_same n f g (p + 1) (q + 1) (λ k l. let x : p + 1 + k ≡ p + suc k = omega arith in let y : q + 1 + k ≡ q + suc k = omega arith in ap f x ∙ h (suc k) (omega arith) ∙ ap g (sym y)))
    (ap f (sym (add-zero p)) ∙ h 0 (omega arith) ∙ ap g (add-zero q))

pub set-and : (n : ℕ) (f g : ℕ → Bool) (p : ℕ) → bit_and (set n f p) (set n g p) ≡ set n (λ q. f q && g q) p
unfolding set
set-and zero f g p = refl
set-and (suc n) f g p = and_block 1 (set n f (p + 1)) (set n g (p + 1)) (bit (f p)) (bit (g p)) (bit-lt (f p)) (bit-lt (g p)) ∙ ap₂ (λ (x y : ℕ). x * 2 + y) (set-and n f g (p + 1)) (go (f p) (g p))
  where
    go : (t u : Bool) → bit_and (bit t) (bit u) ≡ bit (t && u)
    go true true = refl
    go true false = refl
    go false true = refl
    go false false = refl

pub set-or : (n : ℕ) (f g : ℕ → Bool) (p : ℕ) → bit_or (set n f p) (set n g p) ≡ set n (λ q. f q || g q) p
unfolding set
set-or zero f g p = refl
set-or (suc n) f g p = or_block 1 (set n f (p + 1)) (set n g (p + 1)) (bit (f p)) (bit (g p)) (bit-lt (f p)) (bit-lt (g p)) ∙ ap₂ (λ (x y : ℕ). x * 2 + y) (set-or n f g (p + 1)) (go (f p) (g p))
  where
    go : (t u : Bool) → bit_or (bit t) (bit u) ≡ bit (t || u)
    go true true = refl
    go true false = refl
    go false true = refl
    go false false = refl

-- all bits the other way
pub set-not : (n : ℕ) (f : ℕ → Bool) (p : ℕ) → bit_xor (set n f p) (set n (λ q. true) p) ≡ set n (λ q. not (f q)) p
unfolding set
set-not zero f p = refl
set-not (suc n) f p = xor_block 1 (set n f (p + 1)) (set n (λ q. true) (p + 1)) (bit (f p)) 1 (bit-lt (f p)) (omega arith) ∙ ap₂ (λ (x y : ℕ). x * 2 + y) (set-not n f (p + 1)) (go (f p))
  where
    go : (t : Bool) → bit_xor (bit t) 1 ≡ bit (not t)
    go true = refl
    go false = refl

full : (p : ℕ) → set 64 (λ q. true) p ≡ 0xFFFF_FFFF_FFFF_FFFF
unfolding set
full p = refl

pub set_flip : (f : ℕ → Bool) (p n : ℕ) → n ≡ set 64 f p → bit_xor n 0xFFFF_FFFF_FFFF_FFFF ≡ set 64 (λ q. not (f q)) p
set_flip f p n e = ap₂ bit_xor e (sym (full p)) ∙ set-not 64 f p

-- the last bit
pub set_last : (n : ℕ) (f : ℕ → Bool) (p : ℕ) → set (suc n) f p ≡ set n f p + bit (f (p + n)) * 2 ^ n
unfolding set
set_last zero f p = ap (λ (q : ℕ). 0 * 2 + bit (f q)) (sym (add-zero p)) ∙ omega arith
set_last (suc n) f p =
    let l = set_last n f (p + 1) in
    let x : p + 1 + n ≡ p + suc n = omega arith in
    let e = pow-suc 2 n in
    ap (λ (m : ℕ). m * 2 + bit (f p)) (l ∙ ap (λ (q : ℕ). set n f (p + 1) + bit (f q) * 2 ^ n) x) ∙ go (f (p + suc n)) (set n f (p + 1)) (bit (f p)) (2 ^ n) (2 ^ suc n) e
  where
    go : (t : Bool) (a c m k : ℕ) → k ≡ m * 2 → (a + bit t * m) * 2 + c ≡ a * 2 + c + bit t * k
    go true a c m k e = omega (arith, e)
    go false a c m k e = omega (arith, e)

-- one place up: the byte before
abbrev pub earlier : (ℕ → Bool) → ℕ → ℕ → Bool
earlier f p q = ltb p q && f (q - 1)

up : (n : ℕ) (f g : ℕ → Bool) (p : ℕ) → g p ≡ false → ((k : ℕ) → k < n → g (p + 1 + k) ≡ f (p + k)) → set n f p * 2 ≡ set (suc n) g p
unfolding set
up n f g p z h = sym (add-zero (set n f p * 2)) ∙ ap₂ (λ (x : ℕ) (t : Bool). x * 2 + bit t) (sym (set_same n g f (p + 1) p h)) (sym z)

pub set_later : (f : ℕ → Bool) (p n : ℕ) → n ≡ set 64 f p → n % 2 ^ 63 * 2 ≡ set 64 (earlier f p) p
set_later f p n e =
    let l = set-lt 63 f p in
    let m : n % 2 ^ 63 ≡ set 63 f p = top (f (p + 63)) (set 63 f p) (e ∙ set_last 63 f p) l in
    ap (λ (x : ℕ). x * 2) m
    ∙ up 63 f (earlier f p) p (ap (λ (t : Bool). t && f (p - 1)) (le-ltb p p (omega arith)))
    (λ k h. let x : p + 1 + k - 1 ≡ p + k = omega arith in ap₂ ◌&&◌ (lt-ltb p (p + 1 + k) (omega arith)) (ap f x))
  where
    top : (t : Bool) (a : ℕ) → n ≡ a + bit t * 2 ^ 63 → a < 2 ^ 63 → n % 2 ^ 63 ≡ a
    top true a e l = omega (arith, e, l)
    top false a e l = omega (arith, e, l)

-- the first bit left out
pub set_split : (n : ℕ) (f : ℕ → Bool) (p : ℕ) → set (suc n) f p ≡ set n f (p + 1) * 2 + bit (f p)
unfolding set
set_split n f p = refl

half_of : (a n : ℕ) (t : Bool) → n ≡ a * 2 + bit t → n / 2 ≡ a
half_of a n t e = let b = bit-lt t in omega (arith, e, b)

pub set_first : (f g : ℕ → Bool) (p n : ℕ) → n ≡ set 64 f p → g p ≡ false → ((k : ℕ) → k < 63 → f (p + 1 + k) ≡ g (p + 1 + k)) → n / 2 * 2 ≡ set 64 g p
set_first f g p n e z h =
    ap (λ (x : ℕ). x * 2) (half_of (set 63 f (p + 1)) n (f p) (e ∙ set_split 63 f p) ∙ set_same 63 f g (p + 1) (p + 1) h)
    ∙ sym (add-zero (set 63 g (p + 1) * 2))
    ∙ ap (λ (t : Bool). set 63 g (p + 1) * 2 + bit t) (sym z)
    ∙ sym (set_split 63 g p)

-- what is reckoned of two sets, as the code does
module _ (f g : ℕ → Bool) (p x y a b : ℕ) (ex : x ≡ set 64 f p) (ey : y ≡ set 64 g p) (ea : a ≡ x % 2 ^ 63 * 2) (eb : b ≡ y % 2 ^ 63 * 2) where
  abbrev f' : ℕ → Bool
  f' = earlier f p

  abbrev g' : ℕ → Bool
  g' = earlier g p

  abbrev ones : ℕ
  ones = 0xFFFF_FFFF_FFFF_FFFF

  pub all_cuts : bit_and (bit_or (bit_or x a) (bit_and y (bit_xor b ones))) (bit_or (bit_xor (bit_and x a) ones) (bit_or y b)) ≡ set 64 (λ q. cuts (f q) (g q) (f' q) (g' q)) p
  all_cuts =
      let xa : a ≡ set 64 f' p = ea ∙ set_later f p x ex in
      let yb : b ≡ set 64 g' p = eb ∙ set_later g p y ey in
      ap₂ bit_and
      (ap₂ bit_or (ap₂ bit_or ex xa ∙ set-or 64 f f' p) (ap₂ bit_and ey (set_flip g' p b yb) ∙ set-and 64 g (λ q. not (g' q)) p) ∙ set-or 64 (λ q. f q || f' q) (λ q. g q && not (g' q)) p)
      (ap₂ bit_or (set_flip (λ q. f q && f' q) p (bit_and x a) (ap₂ bit_and ex xa ∙ set-and 64 f f' p)) (ap₂ bit_or ey yb ∙ set-or 64 g g' p) ∙ set-or 64 (λ q. not (f q && f' q)) (λ q. g q || g' q) p)
      ∙ set-and 64 (λ q. (f q || f' q) || (g q && not (g' q))) (λ q. not (f q && f' q) || (g q || g' q)) p

  pub cuts_are : bit_and (bit_or (bit_or x a) (bit_and y (bit_xor b ones))) (bit_or (bit_xor (bit_and x a) ones) (bit_or y b)) / 2 * 2 ≡ set 64 (λ q. ltb p q && cuts (f q) (g q) (f (q - 1)) (g (q - 1))) p
  cuts_are =
      set_first (λ q. cuts (f q) (g q) (f' q) (g' q)) (λ q. ltb p q && cuts (f q) (g q) (f (q - 1)) (g (q - 1))) p _ all_cuts
      (ap (λ (t : Bool). t && cuts (f p) (g p) (f (p - 1)) (g (p - 1))) (le-ltb p p (omega arith)))
      (λ k h. let q = p + 1 + k in let t : ltb p q ≡ true = lt-ltb p q (omega arith) in
      ap (λ (t : Bool). cuts (f q) (g q) (t && f (q - 1)) (t && g (q - 1))) t ∙ ap (λ (t : Bool). t && cuts (f q) (g q) (f (q - 1)) (g (q - 1))) (sym t))

  pub cuts-lt : bit_and (bit_or (bit_or x a) (bit_and y (bit_xor b ones))) (bit_or (bit_xor (bit_and x a) ones) (bit_or y b)) < 2 ^ 64
  cuts-lt = small _ _ all_cuts (set-lt 64 (λ q. cuts (f q) (g q) (f' q) (g' q)) p)
    where
      small : (m n : ℕ) → m ≡ n → n < 2 ^ 64 → m < 2 ^ 64
      small m n e l = omega (arith, e, l)
