-- What was read is handed on, and the edges after its end are left.
use Rattle.lexer.proofs.Ends.{next_lies}
use Rattle.edges.proofs.taken.Goals as goal

pub returns-clause-taken : goal.returns-clause-taken
returns-clause-taken c = λ s start h e b. (e, c.left.ensures.left s start (next_lies s start _ h e).0 b)
