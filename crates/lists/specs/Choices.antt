-- Which tokens a listing has, in the code's own struct.
use Rattle.std.specs.Prelude.{ℕ, List, Bool, not, cond, ◌&&◌, ◌||◌, eqb}
use Rattle.rules.specs.Utf8.{valid, valid_length}
use Rattle.rules.specs.Kinds.{Whitespace, Comment}
use Rattle.rules.specs.Tokens.{Token, tokens_from}
use Rattle.rules.specs.Listing.{only, starts_before}
use Rattle.rules.specs.Answers.{Done, NotUtf8}
use Rattle.rules.specs.Records.{Plan, refusing, storing}
use Rattle.lists.specs.declared.listing.Choice.{Choice}

-- Whether a kind is kept.
abbrev pub keeps : Choice → ℕ → Bool
keeps choice kind = not ((choice.drop_whitespace && eqb kind Whitespace) || (choice.drop_comment && eqb kind Comment))

-- The tokens that a listing has from a cursor on.
unfoldable pub chosen : Choice → List ℕ → ℕ → List Token
chosen choice s cursor = only (λ t. keeps choice t.kind) (only (starts_before choice.position) (tokens_from s cursor))

-- What both listings do with a text that is not too long.
abbrev pub chosen_plan : Choice → List ℕ → Plan
chosen_plan choice text = cond (not (valid text)) (refusing NotUtf8 (valid_length text)) (storing (chosen choice text 0) Done)
