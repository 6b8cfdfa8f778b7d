use Rattle.std.proofs.Common.{◌≡◌}
use Rattle.blocks.specs.Edges.{outside}
use Rattle.blocks.proofs.Spans.{span, columns}
use Rattle.blocks.proofs.bits.Given as goal

abbrev pub invariant-loop-k : goal.invariant-loop-k
invariant-loop-k l = l.rows ≡ span (columns l.k) (outside l.class.edges l.text) l.at
