-- A planned list token by token, in the code's own records.
use Rattle.std.specs.Prelude.{ℕ, ◌≤◌, ◌≡◌, List, [], ◌∷◌, map, length, drop, Option, Some, None, Result, Ok, Err}
use Rattle.rules.specs.Tokens.{Token, token, lexeme, after_dot_at}
use Rattle.rules.specs.Answers.{too_long_list}
use Rattle.rules.specs.Records.{Outcome}
use Rattle.rules.specs.Cases.{Answer, says}
use Rattle.rules.specs.declared.refusal.Refusal.{Refusal}
use Rattle.rules.specs.declared.refusal.Refusal.TheVariants.{TooLong as LongText}
use Rattle.lexer.specs.declared.token.Token.{Token as CodeToken}
use Rattle.lexer.specs.declared.token.Lexed.{Lexed}
use Rattle.lexer.specs.Ends.{token_of, ends_at}
use Rattle.ahead.specs.Marks.{Marked}
use Rattle.lists.specs.declared.listing.Plan.{Plan as CodePlan}
use Rattle.lists.specs.declared.listing.Plan.TheVariants.{Answered as Said, TooLong, List as Listing}
use Rattle.lists.specs.declared.picks.Picking.{Picking}
use Rattle.lists.specs.Choices.{chosen}
use Rattle.lists.specs.Plans.{stored_by, Follows}

abbrev pub records_of : List Token → List CodeToken
records_of ts = map token_of ts

-- What is answered, and so how many are stored.
abbrev pub Answered : Answer → Outcome → Type 0
Answered answer is = says answer is.number is.value × (stored_by answer ≡ length is.tokens)

-- The tokens of a plan's list that are left from a cursor on. Of the two tokens of a text that is too long the cursor is the number of those before.
abbrev pub records_from : Result CodePlan Refusal → List ℕ → ℕ → List CodeToken
records_from (Err refusal) text cursor = []
records_from (Ok (Said value)) text cursor = []
records_from (Ok TooLong) text cursor = records_of (drop cursor too_long_list)
records_from (Ok (Listing choice)) text cursor = records_of (chosen choice text cursor)

-- What is answered where so many tokens are stored.
abbrev pub answer_by : Result CodePlan Refusal → ℕ → Answer
answer_by (Err refusal) tokens = Err refusal
answer_by (Ok (Said value)) tokens = Ok value
answer_by (Ok TooLong) tokens = Err (LongText tokens)
answer_by (Ok (Listing choice)) tokens = Ok tokens

-- A plan whose list fits the room, and is all that comes of it.
pub record Fits (plan : Result CodePlan Refusal) (text : List ℕ) (is : Outcome) (room : ℕ) : Type 0 where
  pub follows : Follows plan text
  pub tokens : records_from plan text 0 ≡ records_of is.tokens
  pub enough : length is.tokens ≤ room
  pub answer : says (answer_by plan (length is.tokens)) is.number is.value

-- The bits of the looks ahead mark nothing wrongly from the cursor on.
abbrev pub Ready : List ℕ → Picking → List ℕ → Type 0
Ready s at lone = Marked s at.cursor at.until lone

-- The token at a cursor is read, and the bits serve on from its end.
pub record ReadOn (s : List ℕ) (from to : Picking) (lone : List ℕ) (read : CodeToken) : Type 0 where
  pub plan : to.plan ≡ from.plan
  pub lexed : (let r : Lexed = record { kind = read.kind; end = to.cursor } in r ≡ ends_at from.cursor (lexeme (after_dot_at s from.cursor) (drop from.cursor s)))
  pub token : read ≡ token_of (token read.kind from.cursor to.cursor)
  pub ready : Ready s to lone

-- A token before the others, if there is one; else none.
abbrev pub picked : Option CodeToken → List CodeToken → List CodeToken
picked (Some t) rest = t ∷ rest
picked None rest = []

-- The first of the tokens that are left is picked, if there is one.
pub record Picks (s : List ℕ) (from to : Picking) (lone : List ℕ) (token : Option CodeToken) (left : ℕ → List CodeToken) : Type 0 where
  pub plan : to.plan ≡ from.plan
  pub first : left from.cursor ≡ picked token (left to.cursor)
  pub ready : Ready s to lone
