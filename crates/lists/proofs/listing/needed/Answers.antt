-- There are no more tokens than bytes.
use Rattle.std.proofs.Common.{arith}
use Rattle.lists.proofs.Choosing.{chosen_most}
use Rattle.lists.proofs.listing.needed.Goals as goal

pub returns-then-most-room : goal.returns-then-most-room
returns-then-most-room c = (chosen_most c.args.of.choice _, λ h. absurd (omega arith))
