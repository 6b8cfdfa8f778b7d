-- A choice that drops nothing is the full list.
use Rattle.std.proofs.Common.{rules}
use Rattle.rules.specs.Records.{steps_plan}
use Rattle.forms.proofs.Steps.{all_chosen}
use Rattle.forms.proofs.reader.plan_steps.Goals as goal

pub returns-then-text-max_query_size : goal.returns-then-text-max_query_size
unfolding steps_plan
returns-then-text-max_query_size c = search rules

pub returns : goal.returns
unfolding steps_plan
returns c = let e = all_chosen c.args.text.now in search rules
