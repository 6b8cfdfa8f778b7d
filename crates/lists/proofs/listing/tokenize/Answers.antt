use Rattle.std.proofs.Common.{rules}
use Rattle.rules.proofs.Plans.{whole_planned}
use Rattle.lists.proofs.listing.tokenize.Goals as goal

pub returns-in_err-plan : goal.returns-in_err-plan
returns-in_err-plan c = let e = whole_planned c.args.settings.mode c.args.text.now c.args.list.now in search rules

pub returns : goal.returns
returns c = let e = whole_planned c.args.settings.mode c.args.text.now c.args.list.now in search rules
