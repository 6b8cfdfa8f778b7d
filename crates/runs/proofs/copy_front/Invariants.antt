-- The bytes up to i are the text's, and from there on they are what they were.
use Rattle.std.proofs.Common.{◌≡◌}
use Rattle.runs.proofs.Copies.{joined}
use Rattle.runs.proofs.copy_front.Given as goal

abbrev pub invariant-loop-i : goal.invariant-loop-i
invariant-loop-i l = l.copy ≡ joined l.i l.text l.initial.copy
