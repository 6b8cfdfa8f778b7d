-- A listing in records is the packed listing: the same number and value, and the same tokens in front of what is kept, where the room is the same. And a contract that says what is recorded leaves one answer and one slice.
-- Assumes nothing.
use Prim.Native.Nat.{ℕ}
use mathlib.Core.Path.{◌≡◌, sym, ap, ◌∙◌}
use mathlib.Core.List.{List}
use lib.ListN.{length}
use Rattle.rules.specs.Listing.{pack, room}
use Rattle.rules.specs.Answers.{Written, filled, listing, listing_up_to}
use Rattle.rules.specs.Records.{Outcome, whole_plan, up_to_plan, outcome}
use Rattle.rules.specs.Cases.{Answer}
use Rattle.rules.proofs.Plans.{whole_planned, up_to_planned}
use Rattle.rules.proofs.Cases.{one-case}
use Rattle.lexer.specs.declared.token.Token.{Token}
use Rattle.forms.specs.Records.{Recorded, recorded}
use Rattle.forms.proofs.Outcomes.{packed-outcome}

-- what is written of an outcome in a packed list; `records_by` says what is recorded of it
abbrev packs : Outcome → List ℕ → Written
packs o list = record { number = o.number; value = o.value; buffer = filled (pack o.tokens) list }

-- the packed listing has the outcome of which `record_listing` is made
pub same_whole : (mode : ℕ) (text list : List ℕ) (records : List Token) → room list ≡ length records → listing mode text list ≡ packs (outcome (whole_plan mode text) (length records)) list
same_whole mode text list records e = whole_planned mode text list ∙ packed-outcome (whole_plan mode text) list ∙ ap (λ (n : ℕ). packs (outcome (whole_plan mode text) n) list) e

pub same_up_to : (mode position : ℕ) (text list : List ℕ) (records : List Token) → room list ≡ length records → listing_up_to mode position text list ≡ packs (outcome (up_to_plan mode position text) (length records)) list
same_up_to mode position text list records e = up_to_planned mode position text list ∙ packed-outcome (up_to_plan mode position text) list ∙ ap (λ (n : ℕ). packs (outcome (up_to_plan mode position text) n) list) e

pub one-recorded : (a b : Answer) (records records' : List Token) (w : Recorded) → recorded a records ≡ w → recorded b records' ≡ w → (a ≡ b) × (records ≡ records')
one-recorded a b records records' w p q =
    let e = p ∙ sym q in
    (one-case a b (ap (λ (x : Recorded). x.number) e) (ap (λ (x : Recorded). x.value) e), ap (λ (x : Recorded). x.records) e)
