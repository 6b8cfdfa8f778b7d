-- The eight edges of a class. Assumes nothing.
use Prim.Native.Nat.{ℕ, zero, suc, ◌≤◌}
use native.Mathlib.Omega.{arith}
use mathlib.Core.Path.{◌≡◌, refl}
use mathlib.Core.List.{List, [], ◌∷◌}
use lib.ListN.{length, get_or}
use Rattle.runs.specs.Classes.{Ascii}

pub edge_ascii : (es : List ℕ) → Ascii es → (n : ℕ) → get_or es n 0 ≤ 0x80
edge_ascii [] a n = omega arith
edge_ascii (e ∷ es) a zero = a.0
edge_ascii (e ∷ es) a (suc n) = edge_ascii es a.1 n

pub eight_edges : (es : List ℕ) → length es ≡ 8 → es ≡ get_or es 0 0 ∷ get_or es 1 0 ∷ get_or es 2 0 ∷ get_or es 3 0 ∷ get_or es 4 0 ∷ get_or es 5 0 ∷ get_or es 6 0 ∷ get_or es 7 0 ∷ []
eight_edges (a ∷ b ∷ c ∷ d ∷ e ∷ f ∷ g ∷ h ∷ []) l = refl
eight_edges [] l = absurd (omega (arith, l))
eight_edges (a ∷ []) l = absurd (omega (arith, l))
eight_edges (a ∷ b ∷ []) l = absurd (omega (arith, l))
eight_edges (a ∷ b ∷ c ∷ []) l = absurd (omega (arith, l))
eight_edges (a ∷ b ∷ c ∷ d ∷ []) l = absurd (omega (arith, l))
eight_edges (a ∷ b ∷ c ∷ d ∷ e ∷ []) l = absurd (omega (arith, l))
eight_edges (a ∷ b ∷ c ∷ d ∷ e ∷ f ∷ []) l = absurd (omega (arith, l))
eight_edges (a ∷ b ∷ c ∷ d ∷ e ∷ f ∷ g ∷ []) l = absurd (omega (arith, l))
eight_edges (a ∷ b ∷ c ∷ d ∷ e ∷ f ∷ g ∷ h ∷ i ∷ es) l = absurd (omega (arith, l))
