-- "the same list in a lent slice of Token records, where room is the number of records": what a listing is to do, whatever it stores in and however much room there is.
use Rattle.std.specs.Prelude.{ℕ, List, [], not, cond, length, ltb}
use Rattle.rules.specs.Utf8.{valid_length, valid}
use Rattle.rules.specs.Tokens.{Token, tokens}
use Rattle.rules.specs.Listing.{whole_list, list_up_to}
use Rattle.rules.specs.Answers.{Done, TooLong, NotUtf8, NoRoom, NoMode, too_long, no_mode, Written, refused, stored, too_long_list}

-- To refuse, with a number and a value; or to store a list, with the number that is answered where there is room.
pub data Plan : Type 0 where
  refusing : ℕ → ℕ → Plan
  storing : List Token → ℕ → Plan

-- The whole listing.
unfoldable pub whole_plan : ℕ → List ℕ → Plan
whole_plan mode text =
    cond (no_mode mode) (refusing NoMode 0)
    (cond (too_long text) (storing too_long_list TooLong)
    (cond (not (valid text)) (refusing NotUtf8 (valid_length text))
    (storing (whole_list mode text) Done)))

-- Listing up to a position.
unfoldable pub up_to_plan : ℕ → ℕ → List ℕ → Plan
up_to_plan mode position text =
    cond (no_mode mode) (refusing NoMode 0)
    (cond (too_long text) (refusing TooLong 0)
    (cond (not (valid text)) (refusing NotUtf8 (valid_length text))
    (storing (list_up_to mode position text) Done)))

-- Steps from the start to the end: "Steps .. don't test the whole text for UTF-8", and are refused for a text that is too long.
unfoldable pub steps_plan : List ℕ → Plan
steps_plan text = cond (too_long text) (refusing TooLong 0) (storing (tokens text) Done)

-- In a packed list.
abbrev pub packed_by : Plan → List ℕ → Written
packed_by (refusing number value) list = refused number value list
packed_by (storing ts number) list = stored ts number list

-- Where there is room for so many tokens: number, value, and the tokens that are stored from the front on.
pub record Outcome : Type 0 where
  pub number : ℕ
  pub value : ℕ
  pub tokens : List Token

-- "A refusal writes nothing"; 3: "output needs more room", with "tokens .. needed".
abbrev pub outcome : Plan → ℕ → Outcome
outcome (refusing number value) room = record { number = number; value = value; tokens = [] }
outcome (storing ts number) room =
    cond (ltb room (length ts)) (record { number = NoRoom; value = length ts; tokens = [] })
    (record { number = number; value = length ts; tokens = ts })
