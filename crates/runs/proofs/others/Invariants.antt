use Rattle.std.proofs.Common.{◌≡◌, ◌*◌, drop}
use Rattle.std.specs.Int.Bits.{bit_xor}
use Rattle.runs.specs.Lanes.{ones, raised}
use Rattle.runs.proofs.others.Given as goal

-- with the edges that are left, it comes to what all of them do
abbrev pub invariant-loop-edge : goal.invariant-loop-edge
invariant-loop-edge l = bit_xor l.outside (raised 8 (drop l.edge-index l.edge-items) l.y) ≡ bit_xor (raised 8 l.edge-items l.y) (0x80 * ones 8)
