-- Eight bytes more at each turn. Assumes nothing.
use Rattle.std.proofs.Common.{◌≡◌, ℕ, ◌+◌, ◌-◌, ◌≤◌, ◌<◌, List, Bool, false, ◌&&◌, get_or, length, arith}
use native.Mathlib.Decide.{dec_lt}
use Rattle.runs.specs.Classes.{Unpaired}
use Rattle.runs.proofs.skip_pairs.Goals as goal

more : (p q : ℕ → Bool) (s : List ℕ) (at i : ℕ) → Unpaired p q s at i → i + 9 ≤ length s
    → ((k : ℕ) → k < 8 → (p (get_or s (i + k) 0) && q (get_or s (i + 1 + k) 0)) ≡ false) → Unpaired p q s at (i + 8)
more p q s at i u h f = record { from = omega (arith, u.from); upto = omega arith; none = λ k a b. go k a b (dec_lt k i) }
  where
    go : (k : ℕ) → at ≤ k → k < i + 8 → Dec (k < i) → (p (get_or s k 0) && q (get_or s (k + 1) 0)) ≡ false
    go k a b (yes l) = u.none k a l
    go k a b (no l) =
        let x : i + (k - i) ≡ k = omega arith in
        let y : i + 1 + (k - i) ≡ k + 1 = omega arith in
        rw (x, y) at (f (k - i) (omega arith))

pub loop-i-preserved : goal.loop-i-preserved
loop-i-preserved c = more _ _ _ _ _ c.loop-i.invariant (omega (arith, c.loop-i.invariant.upto)) (c.no_pairs.ensures c.if-no_pairs.true)
