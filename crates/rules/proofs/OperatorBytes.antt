-- Rule 2 by bytes: an operator is read from up to three bytes. Assumes nothing.
use Prim.Native.Nat.{ℕ, zero, suc, ◌+◌, ◌≤◌, ◌<◌}
use native.Mathlib.Omega.{arith}
use borrow.Author.Tests.{ne_eqb}
use mathlib.Core.Path.{◌≡◌, refl, sym, ap, ap₂, ◌∙◌}
use mathlib.Core.List.{List}
use mathlib.Core.Bool.{Bool, true, false, ◌&&◌, ◌||◌, and-false}
use lib.Dec.{eqb}
use lib.ListN.{length, get_or, drop}
use Rattle.rules.specs.Utf8.{Char, chars}
use Rattle.rules.specs.Characters.{less, equals, greater}
use Rattle.rules.specs.Kinds.{Spaceship}
use Rattle.rules.specs.Lexeme.{first, two, is}
use Rattle.rules.specs.Operators.{single, pair, spaceship, operator}
use Rattle.rules.proofs.Bytes.{next_value}
use Rattle.rules.proofs.NumberBytes.{pair_like}
use Rattle.rules.proofs.Operators.{pair_small, operator-three, operator-two, operator-one}

is_high : (x : ℕ) → x < 0x80 → (c : ℕ) → 0x80 ≤ c → eqb c x ≡ false
is_high x l c h = ne_eqb c x (λ e. omega arith)

pair_high : (a b : ℕ) → 0x80 ≤ b → pair a b ≡ 0
pair_high a b h = go (pair a b) refl
  where
    go : (k : ℕ) → pair a b ≡ k → k ≡ 0
    go zero e = refl
    go (suc k) e = absurd (omega (arith, (pair_small a b k e).1))

pair_none : (a : ℕ) → pair a 0 ≡ 0
unfolding pair
pair_none a = simp and-false

module _ (s : List ℕ) (a j : ℕ) where
  pair_bytes : pair a (first (chars (drop j s))) ≡ pair a (get_or s j 0)
  pair_bytes = next_value (pair a) 0 (pair_high a) (pair_none a) s j

  -- three characters in two ways
  way : (x y z : ℕ) → 0 < y → y < 0x80 → 0 < z → z < 0x80
      → (two a (first (chars (drop j s))) x y && eqb (first (drop 1 (chars (drop j s)))) z) ≡ (two a (get_or s j 0) x y && eqb (get_or s (j + 1) 0) z)
  way x y z py ly pz lz = go (eqb a x)
    where
      go : (b : Bool) → (b && eqb (first (chars (drop j s))) y && eqb (first (drop 1 (chars (drop j s)))) z) ≡ (b && eqb (get_or s j 0) y && eqb (get_or s (j + 1) 0) z)
      go true = pair_like (λ c. eqb c y) (λ c. eqb c z) (is_high y ly) (ne_eqb 0 y (λ e. omega arith)) (is_high z lz) (ne_eqb 0 z (λ e. omega arith)) s j
      go false = refl

  spaceship_bytes : spaceship a (first (chars (drop j s))) (first (drop 1 (chars (drop j s)))) ≡ spaceship a (get_or s j 0) (get_or s (j + 1) 0)
  spaceship_bytes = ap₂ ◌||◌ (way less equals greater (omega arith) (omega arith) (omega arith) (omega arith)) (way equals greater less (omega arith) (omega arith) (omega arith) (omega arith))

-- the operator at a byte of ASCII, by its three bytes
module _ (s : List ℕ) (i : ℕ) (c : Char) (ec : c.code ≡ get_or s i 0) where
  abbrev rest : List Char
  rest = chars (drop (i + 1) s)

  ship : spaceship c.code (first rest) (first (drop 1 rest)) ≡ spaceship (get_or s i 0) (get_or s (i + 1) 0) (get_or s (i + 2) 0)
  ship =
      let e : (i + 1) + 1 ≡ i + 2 = omega arith in
      ap (λ (a : ℕ). spaceship a (first rest) (first (drop 1 rest))) ec ∙ spaceship_bytes s (get_or s i 0) (i + 1) ∙ ap (λ (n : ℕ). spaceship (get_or s i 0) (get_or s (i + 1) 0) (get_or s n 0)) e

  both : pair c.code (first rest) ≡ pair (get_or s i 0) (get_or s (i + 1) 0)
  both = ap (λ (a : ℕ). pair a (first rest)) ec ∙ pair_bytes s (get_or s i 0) (i + 1)

  pub operator_ship : spaceship (get_or s i 0) (get_or s (i + 1) 0) (get_or s (i + 2) 0) ≡ true → operator c rest ≡ is Spaceship 3
  operator_ship e = operator-three c rest (ship ∙ e)

  module _ (e : spaceship (get_or s i 0) (get_or s (i + 1) 0) (get_or s (i + 2) 0) ≡ false) where
    pub operator-pair : (k : ℕ) → k ≡ pair (get_or s i 0) (get_or s (i + 1) 0) → (k ≡ 0 → ⊥) → operator c rest ≡ is k 2
    operator-pair zero p n = absurd (n refl)
    operator-pair (suc k) p n = operator-two c rest k (ship ∙ e) (both ∙ sym p)

    pub operator-single : (k : ℕ) → k ≡ pair (get_or s i 0) (get_or s (i + 1) 0) → k ≡ 0 → operator c rest ≡ is (single c.code) (length c.bytes)
    operator-single k p z = operator-one c rest (ship ∙ e) (both ∙ sym p ∙ z)
