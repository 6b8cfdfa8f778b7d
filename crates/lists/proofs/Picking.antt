-- A planned list token by token: what is answered, and which token comes next.
-- Assumes nothing.
use Prim.Native.Nat.{ℕ, zero, suc, ◌+◌, ◌≤◌, ◌<◌}
use native.Mathlib.Decide.{dec_lt}
use native.Mathlib.Omega.{arith}
use mathlib.Core.Path.{◌≡◌, refl, ap}
use mathlib.Core.Logic.{◌⊎◌, inl, inr}
use mathlib.Core.List.{List, [], ◌∷◌}
use Rattle.std.specs.Prelude.{Ok, Err}
use lib.ListN.{length, drop, drop_of_length-le}
use borrow.Author.Tests.{lt-ltb, le-ltb}
use Rattle.rules.specs.Kinds.{EndOfStream, ErrorMaxQuerySizeExceeded}
use Rattle.rules.specs.Tokens.{Token, token}
use Rattle.rules.specs.Listing.{starts_before}
use Rattle.rules.specs.Answers as table
use Rattle.rules.specs.Answers.{too_long_list}
use Rattle.rules.specs.Records.{storing, outcome}
use Rattle.rules.specs.Cases.{says}
use Rattle.rules.specs.declared.refusal.Refusal.TheVariants.{NoRoom}
use Rattle.rules.proofs.Edges.{from_end}
use Rattle.rules.proofs.Listing.{only_none}
use Rattle.lexer.specs.Ends.{token_of}
use Rattle.lists.specs.declared.listing.Choice.{Choice}
use Rattle.lists.specs.Choices.{keeps, chosen}
use Rattle.lists.specs.declared.listing.Plan.{Plan}
use Rattle.lists.specs.declared.listing.Plan.TheVariants.{TooLong as TwoTokens, List as Listing}
use Rattle.lists.specs.Plans.{plan_of, stored_by, Follows}
use Rattle.lists.specs.Picks.{Answered, Fits, answer_by, records_from, records_of}
use Rattle.lists.proofs.Choosing.{chosen_stop}

-- What both cases of a plan that stores have: the list, and what is answered where it is stored.
pub record Lists (plan : Plan) (text : List ℕ) (ts : List Token) (number : ℕ) : Type 0 where
  pub stores : plan_of (Ok plan) text ≡ storing ts number
  pub tokens : records_from (Ok plan) text 0 ≡ records_of ts
  pub answer : (n : ℕ) → says (answer_by (Ok plan) n) number n × (stored_by (answer_by (Ok plan) n) ≡ n)

pub lists_two : (text : List ℕ) → Lists TwoTokens text too_long_list table.TooLong
lists_two text = record { stores = refl; tokens = refl; answer = λ n. ((refl, refl), refl) }

pub lists_chosen : (choice : Choice) (text : List ℕ) → Lists (Listing choice) text (chosen choice text 0) table.Done
lists_chosen choice text = record { stores = refl; tokens = refl; answer = λ n. ((refl, refl), refl) }

module _ (plan : Plan) (text : List ℕ) (ts : List Token) (number : ℕ) (l : Lists plan text ts number) (room : ℕ) where
  -- Where there is no room for so many.
  pub no_room : (n : ℕ) → n ≡ length ts → room < n → Answered (Err (NoRoom n)) (outcome (plan_of (Ok plan) text) room) × Fits (Err (NoRoom n)) text (outcome (plan_of (Ok plan) text) room) room
  no_room n e h =
      rw (l.stores, lt-ltb room (length ts) (omega (arith, e, h)))
      (((refl, e), refl), record { follows = refl; tokens = refl; enough = omega arith; answer = (refl, e) })

  -- And where there is.
  pub has_room : length ts ≤ room → Follows (Ok plan) text → Fits (Ok plan) text (outcome (plan_of (Ok plan) text) room) room
  has_room h f = rw (l.stores, le-ltb room (length ts) h) (record { follows = f; tokens = l.tokens; enough = h; answer = (l.answer (length ts)).0 })

  pub answered : length ts ≤ room → (n : ℕ) → n ≡ length ts → Answered (answer_by (Ok plan) n) (outcome (plan_of (Ok plan) text) room)
  answered h n e = rw (l.stores, le-ltb room (length ts) h, e) (l.answer (length ts))

-- No token is left from the position on.
pub pick_none : (c : Choice) (s : List ℕ) (i : ℕ) → c.position ≤ i → chosen c s i ≡ []
unfolding chosen
pick_none c s i h = go (dec_lt (length s) i)
  where
    go : Dec (length s < i) → chosen c s i ≡ []
    go (no k) = chosen_stop c s i (omega arith) h
    go (yes k) = rw (from_end s i (omega arith), only_none (starts_before c.position), only_none (λ t. keeps c t.kind))

-- The two tokens of a text that is too long.
pub two-tokens : (i k : ℕ) → i < 2 → ((i ≡ 0) × (k ≡ ErrorMaxQuerySizeExceeded)) ⊎ ((i ≡ 0 → ⊥) × (k ≡ EndOfStream))
    → records_of (drop i too_long_list) ≡ token_of (token k 0 0) ∷ records_of (drop (i + 1) too_long_list)
two-tokens zero k l (inl e) = rw e.1
two-tokens zero k l (inr e) = absurd (e.0 refl)
two-tokens (suc zero) k l (inl e) = absurd (omega (arith, e.0))
two-tokens (suc zero) k l (inr e) = rw e.1
two-tokens (suc (suc i)) k l e = absurd (omega arith)

pub past : (i : ℕ) → 2 ≤ i → records_of (drop i too_long_list) ≡ []
past i h = ap records_of (drop_of_length-le too_long_list h)
