-- Bytes copied one by one over the front of others. Assumes nothing.
use Prim.Native.Nat.{ℕ, suc, ◌+◌, ◌≤◌, ◌<◌}
use native.Mathlib.Omega.{arith}
use mathlib.Core.Path.{◌≡◌, sym, ap, ◌∙◌}
use mathlib.Core.List.{List, ◌++◌}
use lib.ListN.{length, get_or, take, drop, set, length-append, length-take, length-drop}
use lib.Seq.{drop-cons, set_at, append_snoc, take-suc, length-take-le}

-- The front of one list before the back of another.
abbrev pub joined : ℕ → List ℕ → List ℕ → List ℕ
joined i front back = take i front ++ drop i back

pub joined_length : (i : ℕ) (front back : List ℕ) → i ≤ length front → i ≤ length back → length (joined i front back) ≡ length back
joined_length i front back h k = simp (length-append, length-take, length-drop) (omega arith)

pub joined_more : (i : ℕ) (front back : List ℕ) → i < length front → i < length back → set (joined i front back) i (get_or front i 0) ≡ joined (i + 1) front back
joined_more i front back h k =
    let n : suc i ≡ i + 1 = omega arith in
    ap (λ (l : List ℕ). set (take i front ++ l) i (get_or front i 0)) (drop-cons back i 0 k)
    ∙ set_at (take i front) (get_or back i 0) (drop (suc i) back) (get_or front i 0) i (length-take-le i front (omega arith))
    ∙ sym (append_snoc (take i front) (get_or front i 0) (drop (suc i) back))
    ∙ ap (λ (l : List ℕ). l ++ drop (suc i) back) (sym (take-suc front i 0 h))
    ∙ ap (λ (m : ℕ). joined m front back) n
