-- What is stored, with what is left, is the whole list.
use Rattle.std.proofs.Common.{◌-◌, ◌≤◌, length}
use Rattle.lists.specs.Choices.{chosen}
use Rattle.lists.proofs.Packing.{Filled}
use Rattle.lists.proofs.listing.fill.Given as goal

abbrev pub invariant-loop-at : goal.invariant-loop-at
invariant-loop-at l = (l.at.cursor ≤ length l.of.text.now) × Filled (chosen l.of.choice l.of.text.now 0) l.fn.list l.list l.at.bytes (chosen l.of.choice l.of.text.now l.at.cursor)

abbrev pub decreases-loop-at : goal.decreases-loop-at
decreases-loop-at l = length l.of.text.now - l.at.cursor
