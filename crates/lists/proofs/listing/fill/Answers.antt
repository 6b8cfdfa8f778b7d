-- Stores go on where the last ones ended, and none is left at the position.
use Rattle.std.proofs.Common.{subst, arith}
use Rattle.lists.specs.Walks.{Packs}
use Rattle.lists.proofs.Choosing.{chosen_stop}
use Rattle.lists.proofs.Packing.{packs_both, filled_all}
use Rattle.lists.proofs.listing.fill.Goals as goal

pub loop-at-preserved : goal.loop-at-preserved
loop-at-preserved c =
    let e = c.fill_more-at.ensures in
    (e.moves.inside, packs_both _ _ _ _ _ _ c.loop-at.invariant.1 _ _ _ e.packs)

pub returns : goal.returns
returns c =
    let f = subst (Packs _ _ _ _ _) (chosen_stop c.args.of.choice c.args.of.text.now c.loop-at.at.cursor c.loop-at.invariant.0 c.loop-at-test.false) c.loop-at.invariant.1 in
    (rw c.token_bytes.ensures (omega (arith, f.count)), filled_all _ _ _ _ c.requires f)
