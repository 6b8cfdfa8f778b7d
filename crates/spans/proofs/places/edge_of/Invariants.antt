-- The characters that begin from i on, before the offset, end there.
use Rattle.std.proofs.Common.{ℕ, ◌+◌, ◌≤◌, ◌<◌, drop}
use Rattle.rules.specs.Utf8.{width, char_at}
use Rattle.spans.proofs.places.edge_of.Given as goal

abbrev pub invariant-loop-i : goal.invariant-loop-i
invariant-loop-i l = (p : ℕ) → l.i ≤ p → p < l.offset → p + width (char_at (drop p l.text)) ≤ l.offset
