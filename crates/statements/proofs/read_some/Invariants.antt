-- No delimiter is read, and what is found with what is left is as at first.
use Rattle.std.proofs.Common.{◌≡◌, length}
use Rattle.edges.specs.Walks.{Goes}
use Rattle.statements.specs.Walks.{read_up_to, Open, found}
use Rattle.statements.proofs.read_some.Given as goal

abbrev pub invariant-loop-token : goal.invariant-loop-token
invariant-loop-token l =
    Goes l.text (length l.text) l.fn.from.cursor l.walk
    × Open l.text (read_up_to l.walk.cursor l.tokens (length l.text))
    × (found l.text (read_up_to l.walk.cursor l.tokens (length l.text)) ≡ found l.text l.fn.from)
