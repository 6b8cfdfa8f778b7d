-- Those counted and those left are as many as at first.
use Rattle.std.proofs.Common.{◌≡◌, ◌+◌, ◌≤◌, length}
use Rattle.edges.specs.Walks.{Goes}
use Rattle.lists.specs.Choices.{chosen}
use Rattle.lists.proofs.listing.count_some.Given as goal

abbrev pub invariant-loop-token : goal.invariant-loop-token
invariant-loop-token l = Goes l.of.text.now l.of.choice.position l.fn.from.cursor l.walk × (l.tokens ≤ l.walk.cursor) × (l.tokens + length (chosen l.of.choice l.of.text.now l.walk.cursor) ≡ l.fn.from.tokens + length (chosen l.of.choice l.of.text.now l.fn.from.cursor))
