-- The listings in records, in the code's own struct.
use Rattle.std.specs.Prelude.{ℕ, List, ◌++◌, length, drop, replicate}
use Rattle.rules.specs.Kinds.{NoToken}
use Rattle.rules.specs.Tokens.{token}
use Rattle.rules.specs.Records.{Plan, whole_plan, up_to_plan, outcome}
use Rattle.rules.specs.Cases.{Answer, number_of, value_of}
use Rattle.lexer.specs.declared.token.Token.{Token}
use Rattle.lexer.specs.Ends.{token_of}
use Rattle.lists.specs.Picks.{records_of}

-- What a call that stores records gives: number, value, and what the lent slice holds afterwards.
pub record Recorded : Type 0 where
  pub number : ℕ
  pub value : ℕ
  pub records : List Token

-- "where room is the number of records"; "fills the front of the buffer and keeps the rest"
abbrev pub records_by : Plan → List Token → Recorded
records_by plan list =
    let o = outcome plan (length list) in
    record { number = o.number; value = o.value; records = records_of o.tokens ++ drop (length o.tokens) list }

-- Whole listing.
abbrev pub record_listing : ℕ → List ℕ → List Token → Recorded
record_listing mode text list = records_by (whole_plan mode text) list

-- Listing up to a position.
abbrev pub record_listing_up_to : ℕ → ℕ → List ℕ → List Token → Recorded
record_listing_up_to mode position text list = records_by (up_to_plan mode position text) list

-- An answer, with what the lent slice holds then.
abbrev pub recorded : Answer → List Token → Recorded
recorded answer list = record { number = number_of answer; value = value_of answer; records = list }

abbrev pub no_records : List Token
no_records = replicate 64 (token_of (token NoToken 0 0))
