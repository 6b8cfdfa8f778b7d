-- What comes of a plan: its list is stored whole where there is room, else nothing is.
-- Assumes nothing.
use Prim.Native.Nat.{ℕ, ◌<◌, ◌≤◌}
use native.Mathlib.Nat.{not-suc-le-zero}
use mathlib.Core.Path.{◌≡◌, refl}
use mathlib.Core.List.{List, [], ◌∷◌}
use mathlib.Core.Bool.{Bool, true, false, cond}
use borrow.Author.Tests.{ltb-false}
use lib.Dec.{ltb}
use lib.ListN.{length}
use Rattle.rules.specs.Tokens.{Token}
use Rattle.rules.specs.Listing.{pack, room}
use Rattle.rules.specs.Answers.{NoRoom, filled, stored}
use Rattle.rules.specs.Records.{Plan, refusing, storing, Outcome, outcome, packed_by}

-- the list of a plan
abbrev pub list_of : Plan → List Token
list_of (refusing number value) = []
list_of (storing ts number) = ts

-- a list that is to be stored, where it has room or not
abbrev fit : List Token → ℕ → Bool → Outcome
fit ts number short = cond short (record { number = NoRoom; value = length ts; tokens = [] }) (record { number = number; value = length ts; tokens = ts })

pub stores : (p : Plan) (space : ℕ) → 0 < length (outcome p space).tokens → ((outcome p space).tokens ≡ list_of p) × (length (list_of p) ≤ space)
stores (refusing number value) space h = absurd (not-suc-le-zero h)
stores (storing ts number) space h = go (ltb space (length ts)) refl h
  where
    go : (b : Bool) → ltb space (length ts) ≡ b → 0 < length (fit ts number b).tokens → ((fit ts number b).tokens ≡ ts) × (length ts ≤ space)
    go true e h = absurd (not-suc-le-zero h)
    go false e h = (refl, ltb-false space (length ts) e)

-- a packed list afterwards
pub packed-outcome : (p : Plan) (list : List ℕ) → let o = outcome p (room list) in packed_by p list ≡ record { number = o.number; value = o.value; buffer = filled (pack o.tokens) list }
unfolding stored pack
packed-outcome (refusing number value) list = refl
packed-outcome (storing ts number) list = go (ltb (room list) (length ts)) refl
  where
    go : (b : Bool) → ltb (room list) (length ts) ≡ b → stored ts number list ≡ record { number = (fit ts number b).number; value = (fit ts number b).value; buffer = filled (pack (fit ts number b).tokens) list }
    go true e = rw e
    go false e = rw e

-- a list of no tokens
pub none : {A : Type 0} (ts : List A) → length ts ≤ 0 → ts ≡ []
none [] h = refl
none (t ∷ ts) h = absurd (not-suc-le-zero h)
