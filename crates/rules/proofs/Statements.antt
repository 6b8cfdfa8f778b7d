-- #102: the first statement. Its numbers are those of the first delimiter in the full list, also in the list that a listing stores.
-- Assumes nothing.
use Prim.Native.Nat.{ℕ, suc, ◌+◌, ◌≤◌, ◌<◌}
use native.Mathlib.Omega.{arith}
use mathlib.Core.Path.{◌≡◌, refl, ap, ◌∙◌}
use mathlib.Core.Logic.{◌⊎◌, inl, inr}
use mathlib.Core.List.Memᴰ
use mathlib.Core.List.{List, [], ◌∷◌, ◌++◌, Memᴰ}
use mathlib.Core.Bool.{Bool, true, false}
use lib.ListN.{length, drop}
use borrow.Author.Tests.{le-ltb, lt-ltb}
use Rattle.rules.specs.Utf8.{valid}
use Rattle.rules.specs.Limits.{max_query_size}
use Rattle.rules.specs.Tokens.{Token, tokens}
use Rattle.rules.specs.Listing.{full, whole_list, pack, unpack, room}
use Rattle.rules.specs.Answers.{Done, TooLong, filled, stored, listing}
use Rattle.rules.specs.Statements.{delimiter, Statement, statement, one_more, first_in, first_statement}
use Rattle.rules.proofs.Edges.{Tiles, tiles_le}
use Rattle.rules.proofs.Unpacking.{list_back}
use Rattle.rules.proofs.SavedLists.{tokens_chain, chains_fit}

-- the clauses of `first_in`
pub first_none : (size : ℕ) → first_in size [] ≡ statement 0 size size
unfolding first_in
first_none size = refl

module _ (size : ℕ) (t : Token) (ts : List Token) where
  pub first_here : delimiter t.kind ≡ true → first_in size (t ∷ ts) ≡ statement 1 t.start t.end
  unfolding first_in
  first_here e = rw (e, first_in)

  pub first_later : delimiter t.kind ≡ false → first_in size (t ∷ ts) ≡ one_more (first_in size ts)
  unfolding first_in
  first_later e = rw (e, first_in)

-- A list has a first delimiter, whose place is counted from one,
pub record Delimited (ts : List Token) (c : Statement) : Type 0 where
  pub before : List Token
  pub found : Token
  pub after : List Token
  pub whole : ts ≡ before ++ (found ∷ after)
  pub none : (t : Token) → Memᴰ t before → delimiter t.kind ≡ false
  pub delimits : delimiter found.kind ≡ true
  pub is : c ≡ statement (suc (length before)) found.start found.end

-- or none, and then the statement is all of it.
pub record Undelimited (size : ℕ) (ts : List Token) (c : Statement) : Type 0 where
  pub none : (t : Token) → Memᴰ t ts → delimiter t.kind ≡ false
  pub is : c ≡ statement (length ts) size size

pub first_in_lem : (size : ℕ) (ts : List Token) → Delimited ts (first_in size ts) ⊎ Undelimited size ts (first_in size ts)
first_in_lem size [] = inr (record { none = λ u m. absurd (Memᴰ.not-nil m); is = first_none size })
first_in_lem size (t ∷ ts) = go (delimiter t.kind) refl (first_in_lem size ts)
  where
    others : delimiter t.kind ≡ false → (us : List Token) → ((u : Token) → Memᴰ u us → delimiter u.kind ≡ false) → (u : Token) → Memᴰ u (t ∷ us) → delimiter u.kind ≡ false
    others e us n u (Memᴰ.head h) = ap (λ (u : Token). delimiter u.kind) h ∙ e
    others e us n u (Memᴰ.tail m) = n u m

    go : (b : Bool) → delimiter t.kind ≡ b → Delimited ts (first_in size ts) ⊎ Undelimited size ts (first_in size ts) → Delimited (t ∷ ts) (first_in size (t ∷ ts)) ⊎ Undelimited size (t ∷ ts) (first_in size (t ∷ ts))
    go true e r = inl (record { before = []; found = t; after = ts; whole = refl; none = λ u m. absurd (Memᴰ.not-nil m); delimits = e; is = first_here size t ts e })
    go false e (inl r) = inl (record {
      before = t ∷ r.before;
      found = r.found;
      after = r.after;
      whole = ap {B = List Token} (λ (us : List Token). t ∷ us) r.whole;
      none = others e r.before r.none;
      delimits = r.delimits;
      is = first_later size t ts e ∙ ap one_more r.is;
    })
    go false e (inr r) = inr (record { none = others e ts r.none; is = first_later size t ts e ∙ ap one_more r.is })

-- Where tokens lie end to end: the statement lies among them, its delimiter after what stands before it, and no token is without a byte.
pub record Lies (from to : ℕ) (c : Statement) : Type 0 where
  pub low : from ≤ c.bytes
  pub middle : c.bytes ≤ c.end
  pub high : c.end ≤ to
  pub few : c.tokens + from ≤ c.end

pub first_lies : (from : ℕ) (ts : List Token) (to : ℕ) → Tiles from ts to → Lies from to (first_in to ts)
first_lies from [] to p = rw (first_none to) (record { low = omega arith; middle = omega arith; high = omega arith; few = omega arith })
first_lies from (t ∷ ts) to p = go (delimiter t.kind) refl (first_lies t.end ts to p.2)
  where
    go : (b : Bool) → delimiter t.kind ≡ b → Lies t.end to (first_in to ts) → Lies from to (first_in to (t ∷ ts))
    go true e r =
        let l = tiles_le t.end ts to p.2 in
        rw (first_here to t ts e) (record { low = omega arith; middle = omega arith; high = omega arith; few = omega arith })
    go false e r =
        let a = r.low in
        let f = r.few in
        rw (first_later to t ts e) (record { low = omega arith; middle = r.middle; high = r.high; few = omega arith })

-- What `first_statement` answers, case by case.
module _ (s : List ℕ) where
  pub first_too_long : max_query_size < length s → first_statement s ≡ record { number = TooLong; statement = statement 0 0 0 }
  unfolding first_statement
  first_too_long h = rw (lt-ltb max_query_size (length s) h)

  pub first_done : length s ≤ max_query_size → first_statement s ≡ record { number = Done; statement = first_in (length s) (tokens s) }
  unfolding first_statement
  first_done h = rw (le-ltb max_query_size (length s) h)

module _ (s : List ℕ) (l : length s ≤ max_query_size) where
  -- "On valid UTF-8 it equals the answer taken from the full list": from the bytes that a listing stores.
  module _ (list : List ℕ) (v : valid s ≡ true) (r : length (tokens s) ≤ room list) where
    listed : listing full s list ≡ record { number = Done; value = length (tokens s); buffer = filled (pack (tokens s)) list }
    unfolding listing stored whole_list
    listed = rw (le-ltb max_query_size (length s) l, v, le-ltb (room list) (length (tokens s)) r)

    pub first_listed : first_statement s ≡ record { number = (listing full s list).number; statement = first_in (length s) (unpack (listing full s list).value (listing full s list).buffer) }
    first_listed = rw listed (rw (list_back (tokens s) (drop (length (pack (tokens s))) list) (chains_fit (length s) 0 (tokens s) (omega arith) (tokens_chain s))) (first_done s l))
