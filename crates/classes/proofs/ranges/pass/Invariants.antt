use Rattle.std.proofs.Common.{◌≡◌, ◌+◌, ◌-◌, ◌≤◌, ℕ}
use Rattle.classes.specs.declared.tables.TheConstants.{STRIDES}
use Rattle.classes.specs.Strides.{total}
use Rattle.classes.proofs.ranges.pass.Given as goal

-- at stride k, with so much left: what is left, and the strides so far, are what there was
pub record Left (at end left k left' : ℕ) : Type 0 where
  pub from : at ≤ k
  pub to : k ≤ end
  pub same : total STRIDES k + left' ≡ total STRIDES at + left

abbrev pub invariant-loop-k : goal.invariant-loop-k
invariant-loop-k l = Left l.at l.end l.fn.left l.k l.left

abbrev pub decreases-loop-k : goal.decreases-loop-k
decreases-loop-k l = l.end - l.k

abbrev pub invariant-loop-k-2 : goal.invariant-loop-k-2
invariant-loop-k-2 l = Left l.at l.end l.fn.left l.k l.left

abbrev pub decreases-loop-k-2 : goal.decreases-loop-k-2
decreases-loop-k-2 l = l.end - l.k
