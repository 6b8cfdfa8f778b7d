-- What is stored, with what is left, is as at first.
use Rattle.edges.specs.Walks.{Goes}
use Rattle.lists.specs.Choices.{chosen}
use Rattle.lists.specs.Walks.{Packs}
use Rattle.lists.proofs.listing.fill_some.Given as goal

abbrev pub invariant-loop-token : goal.invariant-loop-token
invariant-loop-token l = Goes l.of.text.now l.of.choice.position l.fn.from.cursor l.walk × Packs l.initial.list l.fn.from.bytes (chosen l.of.choice l.of.text.now l.fn.from.cursor) l.list l.bytes (chosen l.of.choice l.of.text.now l.walk.cursor)
