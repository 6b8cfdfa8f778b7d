-- The bytes so far are hidden.
use Rattle.std.proofs.Common.{◌≡◌}
use Rattle.rules.specs.Masking.{hide}
use Rattle.masking.proofs.copy.hide.Given as goal

abbrev pub invariant-loop-byte : goal.invariant-loop-byte
invariant-loop-byte l = l.byte-items ≡ hide 0 l.byte-index l.initial.byte-items
