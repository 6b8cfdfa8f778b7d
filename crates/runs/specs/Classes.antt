-- Classes of bytes of ASCII by their edges, and runs of a class.
use Rattle.std.specs.Prelude.{ℕ, ◌+◌, ◌-◌, ◌≤◌, ◌<◌, ◌≡◌, List, [], ◌∷◌, Bool, true, false, not, cond, ◌&&◌, length, get_or, leb, ltb}
use Rattle.std.specs.Coded.{×_prop, Unit-prop, le_prop}

-- No edge lies past the end of ASCII.
abbrev pub Ascii : List ℕ → Type 0
Ascii [] = Unit
Ascii (e ∷ es) = (e ≤ 0x80) × Ascii es

-- A fact of which there is one proof at most.
pub Ascii-prop : (es : List ℕ) → IsProp (Ascii es)
Ascii-prop [] = Unit-prop
Ascii-prop (e ∷ es) = ×_prop le_prop (Ascii-prop es)

-- An odd number of the edges are at most b.
unfoldable pub past : List ℕ → ℕ → Bool
past [] b = false
past (e ∷ es) b = cond (leb e b) (not (past es b)) (past es b)

-- b is of ASCII, from the first edge on and below the second, or from the third on and below the fourth, and so on.
abbrev pub inside : List ℕ → ℕ → Bool
inside es b = ltb b 0x80 && past es b

-- b is inside; or, where `out`, it is not.
abbrev pub passes : Bool → List ℕ → ℕ → Bool
passes out es b = cond out (not (inside es b)) (inside es b)

-- The bytes from i to j are there and pass; and where eight are left, the byte at j does not.
pub record Skips (p : ℕ → Bool) (s : List ℕ) (i j : ℕ) : Type 0 where
  pub from : i ≤ j
  pub upto : j ≤ length s
  pub pass : (k : ℕ) → i ≤ k → k < j → p (get_or s k 0) ≡ true
  pub stop : 8 ≤ length s - j → p (get_or s j 0) ≡ false

-- The bytes from i to j are there, and none of them is of the first class before one of the second.
pub record Unpaired (p q : ℕ → Bool) (s : List ℕ) (i j : ℕ) : Type 0 where
  pub from : i ≤ j
  pub upto : j ≤ length s
  pub none : (k : ℕ) → i ≤ k → k < j → (p (get_or s k 0) && q (get_or s (k + 1) 0)) ≡ false
