-- Every `$` so far is noted.
use Rattle.std.proofs.Common.{◌-◌, length}
use Rattle.ahead.specs.Slots.{Seen}
use Rattle.ahead.proofs.note_last.Given as goal

abbrev pub invariant-loop-j : goal.invariant-loop-j
invariant-loop-j l = Seen l.text l.from l.table l.last l.j

abbrev pub decreases-loop-j : goal.decreases-loop-j
decreases-loop-j l = length l.text - l.j
