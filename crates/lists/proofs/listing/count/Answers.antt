-- None is left at the position.
use Rattle.std.proofs.Common.{length, ap, arith}
use Rattle.lists.proofs.Choosing.{chosen_stop}
use Rattle.lists.proofs.listing.count.Goals as goal

pub returns : goal.returns
returns c =
    let v = c.loop-at.invariant in
    omega (arith, v.2, ap length (chosen_stop c.args.of.choice c.args.of.text.now c.loop-at.at.cursor v.0 c.loop-at-test.false))
