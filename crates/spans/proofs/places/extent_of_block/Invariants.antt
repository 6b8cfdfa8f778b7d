-- The bytes so far are within the two.
use Rattle.std.proofs.Common.{◌+◌}
use Rattle.spans.specs.Sums.{Within}
use Rattle.spans.proofs.places.extent_of_block.Given as goal

abbrev pub invariant-loop-a : goal.invariant-loop-a
invariant-loop-a l = Within l.text l.from (l.from + l.a-index) l.least l.most
