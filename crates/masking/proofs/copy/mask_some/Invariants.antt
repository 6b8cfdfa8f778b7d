-- A copy that was masked up to the first offset is masked up to the cursor.
use Rattle.std.proofs.Common.{◌≡◌, ℕ, ◌≤◌, List, length}
use Rattle.edges.specs.Walks.{Goes}
use Rattle.masking.specs.Walks.{Copied}
use Rattle.masking.proofs.copy.mask_some.Given as goal

abbrev pub invariant-loop-token : goal.invariant-loop-token
invariant-loop-token l =
    Goes l.text (length l.text) l.fn.from l.walk
    × (length l.copy ≡ length l.initial.copy)
    × ((first : List ℕ) → length l.text ≤ length first → Copied l.text first l.initial.copy l.fn.from → Copied l.text first l.copy l.walk.cursor)
