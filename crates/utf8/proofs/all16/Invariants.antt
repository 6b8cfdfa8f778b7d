use Rattle.std.proofs.Common.{◌≡◌, ℕ, ◌≤◌, ◌<◌, true}
use Rattle.utf8.proofs.all16.Given as goal

abbrev pub invariant-loop-k : goal.invariant-loop-k
invariant-loop-k g l = l.all ≡ true → (n : ℕ) → l.i ≤ n → n < l.k → goal.F-post g l.test n true
