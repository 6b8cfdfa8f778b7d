use Rattle.std.proofs.Common.{rules}
use Rattle.rules.specs.Records.{up_to_plan}
use Rattle.lists.proofs.Choosing.{up_to_chosen}
use Rattle.lists.proofs.listing.plan_up_to.Goals as goal

pub returns-then-settings-gt-LEAN : goal.returns-then-settings-gt-LEAN
unfolding up_to_plan
returns-then-settings-gt-LEAN c = search rules

pub returns-then-text-max_query_size : goal.returns-then-text-max_query_size
unfolding up_to_plan
returns-then-text-max_query_size c = search rules

pub returns : goal.returns
unfolding up_to_plan
returns c = let w = up_to_chosen c.args.settings.mode c.args.settings.position c.args.text.now in search rules
