-- Plans, in the code's own enum: what a listing that is not refused is to do.
use Rattle.std.specs.Prelude.{ℕ, ◌≤◌, ◌≡◌, List, length, Result, Ok, Err}
use Rattle.rules.specs.Limits.{max_query_size}
use Rattle.rules.specs.Answers as table
use Rattle.rules.specs.Answers.{too_long_list}
use Rattle.rules.specs.Records.{Plan, refusing, storing}
use Rattle.rules.specs.Cases.{Answer, refusal_number, refusal_value}
use Rattle.rules.specs.declared.refusal.Refusal.{Refusal}
use Rattle.rules.specs.declared.refusal.Refusal.TheVariants.{TooLong, NotUtf8, NoRoom, Beyond, NoPart, NoMode, OtherLength, Malformed, NoVersion}
use Rattle.lists.specs.declared.listing.Plan.{Plan as CodePlan}
use Rattle.lists.specs.declared.listing.Plan.TheVariants.{Answered as Said, TooLong as TwoTokens, List as Listing}
use Rattle.lists.specs.Choices.{chosen}

abbrev pub plan_of : Result CodePlan Refusal → List ℕ → Plan
plan_of (Err refusal) text = refusing (refusal_number refusal) (refusal_value refusal)
plan_of (Ok (Said value)) text = refusing table.Done value
plan_of (Ok TwoTokens) text = storing too_long_list table.TooLong
plan_of (Ok (Listing choice)) text = storing (chosen choice text 0) table.Done

-- How many tokens are stored where this is answered.
abbrev pub stored_by : Answer → ℕ
stored_by (Ok n) = n
stored_by (Err (TooLong n)) = n
stored_by (Err (NotUtf8 n)) = 0
stored_by (Err (NoRoom n)) = 0
stored_by (Err Beyond) = 0
stored_by (Err NoPart) = 0
stored_by (Err NoMode) = 0
stored_by (Err OtherLength) = 0
stored_by (Err Malformed) = 0
stored_by (Err NoVersion) = 0

-- A refusal stores nothing, and no more does what is answered at once; a choice is of this text, which is not too long.
abbrev pub Follows : Result CodePlan Refusal → List ℕ → Type 0
Follows (Err refusal) text = stored_by (Err refusal) ≡ 0
Follows (Ok (Said value)) text = stored_by (Ok value) ≡ 0
Follows (Ok TwoTokens) text = Unit
Follows (Ok (Listing choice)) text = (length text ≤ max_query_size) × (choice.position ≤ length text)

abbrev pub Planned : Result CodePlan Refusal → List ℕ → Plan → Type 0
Planned plan text is = (plan_of plan text ≡ is) × Follows plan text
