use Rattle.std.proofs.Common.{rules}
use Rattle.rules.specs.Records.{whole_plan}
use Rattle.lists.proofs.Choosing.{whole_chosen}
use Rattle.lists.proofs.listing.plan_whole.Goals as goal

pub returns-then-settings-gt-LEAN : goal.returns-then-settings-gt-LEAN
unfolding whole_plan
returns-then-settings-gt-LEAN c = search rules

pub returns-then-text-max_query_size : goal.returns-then-text-max_query_size
unfolding whole_plan
returns-then-text-max_query_size c = search rules

pub returns : goal.returns
unfolding whole_plan
returns c = let w = whole_chosen c.args.settings.mode c.args.text.now in search rules
