use Rattle.std.proofs.Common.{rules}
use Rattle.rules.proofs.Plans.{up_to_planned}
use Rattle.lists.proofs.listing.tokenize_up_to_position.Goals as goal

pub returns-in_err-plan : goal.returns-in_err-plan
returns-in_err-plan c = let e = up_to_planned c.args.settings.mode c.args.settings.position c.args.text.now c.args.list.now in search rules

pub returns : goal.returns
returns c = let e = up_to_planned c.args.settings.mode c.args.settings.position c.args.text.now c.args.list.now in search rules
