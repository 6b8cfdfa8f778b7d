-- `lists::picks::pick_chosen`: what is left from here is what was left from the cursor.
use Rattle.std.proofs.Common.{◌-◌, ◌≡◌, length}
use Rattle.lists.specs.Choices.{chosen}
use Rattle.lists.specs.Picks.{Ready}
use Rattle.lists.proofs.picks.pick_chosen.Given as goal

abbrev pub invariant-loop-at : goal.invariant-loop-at
invariant-loop-at l = (l.at.plan ≡ l.initial.at.plan) × (chosen l.of.choice l.of.text.now l.at.cursor ≡ chosen l.of.choice l.of.text.now l.initial.at.cursor) × Ready l.of.text.now l.at l.lone × (length l.lone ≡ length l.initial.lone)

abbrev pub decreases-loop-at : goal.decreases-loop-at
decreases-loop-at l = length l.of.text.now - l.at.cursor
