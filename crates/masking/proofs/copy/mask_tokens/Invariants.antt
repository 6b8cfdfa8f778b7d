-- Up to the offset the copy is masked.
use Rattle.std.proofs.Common.{◌≡◌, ◌-◌, ◌≤◌, length}
use Rattle.masking.specs.Walks.{Copied}
use Rattle.masking.proofs.copy.mask_tokens.Given as goal

abbrev pub invariant-loop-at : goal.invariant-loop-at
invariant-loop-at l = (l.at ≤ length l.text) × (length l.copy ≡ length l.fn.copy) × Copied l.text l.fn.copy l.copy l.at

abbrev pub decreases-loop-at : goal.decreases-loop-at
decreases-loop-at l = length l.text - l.at
