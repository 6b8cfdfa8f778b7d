use Rattle.std.proofs.Common.{arith}
use Rattle.rules.specs.Answers.{Done}
use Rattle.lists.specs.Choices.{chosen}
use Rattle.lists.proofs.Storing.{stored-not, stored_all}
use Rattle.lists.proofs.listing.store_chosen.Goals as goal

pub returns-then-room-tokens : goal.returns-then-room-tokens
returns-then-room-tokens c =
    let l = rw c.token_bytes.ensures at c.if-room-tokens.true in
    let n = c.needed-tokens.ensures.1 c.if-room-tokens.true in
    stored-not (chosen c.args.of.choice c.args.of.text.now 0) Done c.args.list.now _ n (omega (arith, l, n))

pub returns : goal.returns
returns c =
    let l = rw c.token_bytes.ensures at c.if-room-tokens.false in
    stored_all (chosen c.args.of.choice c.args.of.text.now 0) Done c.args.list.now _ c.fill.ensures.0 _ (omega (arith, l, c.needed-tokens.ensures.0)) c.fill.ensures.1
