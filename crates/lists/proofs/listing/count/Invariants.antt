-- Those counted and those left are all.
use Rattle.std.proofs.Common.{◌≡◌, ◌+◌, ◌-◌, ◌≤◌, length}
use Rattle.lists.specs.Choices.{chosen}
use Rattle.lists.proofs.listing.count.Given as goal

abbrev pub invariant-loop-at : goal.invariant-loop-at
invariant-loop-at l = (l.at.cursor ≤ length l.of.text.now) × (l.at.tokens ≤ l.at.cursor) × (l.at.tokens + length (chosen l.of.choice l.of.text.now l.at.cursor) ≡ length (chosen l.of.choice l.of.text.now 0))

abbrev pub decreases-loop-at : goal.decreases-loop-at
decreases-loop-at l = length l.of.text.now - l.at.cursor
