-- #101: what writer and reader check of a list, and that a walk from token to token finds it.
-- Assumes nothing.
use Prim.Native.Nat.{ℕ, ◌+◌, ◌≤◌, ◌<◌}
use native.Mathlib.Omega.{arith}
use mathlib.Core.Path.{◌≡◌, refl, sym, ap, ◌∙◌}
use mathlib.Core.List.{List, [], ◌∷◌}
use mathlib.Core.Bool.{Bool, true, false, not, ◌&&◌, ◌||◌}
use lib.Dec.{ltb, leb, eqb}
use lib.ListN.{length}
use borrow.Author.Tests.{lt-ltb, ltb-true}
use Rattle.rules.specs.Utf8.{within}
use Rattle.rules.specs.Kinds.{Whitespace, EndOfStream, ErrorToken}
use Rattle.rules.specs.Tokens.{Token}
use Rattle.rules.specs.Saved.{partial_flag, saved_kind, goes_on, chains, end_of, accepted}
use Rattle.rules.proofs.Tests.{eqb-true, eqb_same, leb-true, le-true, within-true, and_both}

-- the clauses of `chains` and `end_of`
pub chains_none : (size at : ℕ) → chains size at [] ≡ true
unfolding chains
chains_none size at = refl

pub end_none : (at : ℕ) → end_of at [] ≡ at
unfolding end_of
end_none at = refl

module _ (size at : ℕ) (t : Token) (ts : List Token) where
  pub chains_more : chains size at (t ∷ ts) ≡ (goes_on size at t && chains size t.end ts)
  unfolding chains
  chains_more = refl

  pub end_more : end_of at (t ∷ ts) ≡ end_of t.end ts
  unfolding end_of
  end_more = refl

-- A token that goes on.
pub record GoesOn (size at : ℕ) (t : Token) : Type 0 where
  pub start : t.start ≡ at
  pub rises : at < t.end
  pub inside : t.end ≤ size
  pub kind : t.kind ≤ ErrorToken

pub goes_on_lem : (size at : ℕ) (t : Token) → goes_on size at t ≡ true → GoesOn size at t
goes_on_lem size at t e =
    let a = and_both _ (saved_kind t.kind) e in
    let b = and_both _ (leb t.end size) a.0 in
    let c = and_both (eqb t.start at) (ltb at t.end) b.0 in
    let k = and_both (within Whitespace ErrorToken t.kind) (not (eqb t.kind EndOfStream)) a.1 in
    record { start = eqb-true c.0; rises = ltb-true at t.end c.1; inside = leb-true t.end size b.1; kind = (within-true Whitespace ErrorToken t.kind k.0).1 }

pub goes_of : (size at : ℕ) (t : Token) → t.start ≡ at → at < t.end → t.end ≤ size → saved_kind t.kind ≡ true → goes_on size at t ≡ true
goes_of size at t e r i k = rw (e, eqb_same at, lt-ltb at t.end r, le-true t.end size i, k)

-- A walk over a list that reached `at`, with `rest` left; `fits`: all tokens before went on.
pub record Reached (size : ℕ) (ts : List Token) (at : ℕ) (fits : Bool) (rest : List Token) : Type 0 where
  pub same : chains size 0 ts ≡ (chains size at rest && fits)
  pub last : end_of 0 ts ≡ end_of at rest

and-true : (b : Bool) → b ≡ (b && true)
and-true true = refl
and-true false = refl

-- the first of three tests becomes the last
turn : (a b c : Bool) → ((a && b) && c) ≡ (b && (c && a))
turn true true c = and-true c
turn true false c = refl
turn false true true = refl
turn false true false = refl
turn false false c = refl

pub reached_none : (size : ℕ) (ts : List Token) → Reached size ts 0 true ts
reached_none size ts = record { same = and-true (chains size 0 ts); last = refl }

module _ (size : ℕ) (ts : List Token) (at : ℕ) (fits : Bool) where
  pub reached_more : (t : Token) (rest : List Token) → Reached size ts at fits (t ∷ rest) → Reached size ts t.end (fits && goes_on size at t) rest
  reached_more t rest r = record {
    same = r.same ∙ ap (λ (b : Bool). b && fits) (chains_more size at t rest) ∙ turn (goes_on size at t) (chains size t.end rest) fits;
    last = r.last ∙ end_more size at t rest;
  }

  pub reached_all : Reached size ts at fits [] → (flag : ℕ) → accepted size ts flag ≡ (leb flag partial_flag && fits && (eqb flag partial_flag || eqb at size))
  reached_all r flag = rw (r.same ∙ ap (λ (b : Bool). b && fits) (chains_none size at), r.last ∙ end_none at)

-- There are no more tokens than bytes, and the last one ends in the text.
chains_few : (size at : ℕ) (ts : List Token) → at ≤ size → chains size at ts ≡ true → (length ts + at ≤ end_of at ts) × (end_of at ts ≤ size)
chains_few size at [] h e = let n = end_none at in (omega arith, omega arith)
chains_few size at (t ∷ ts) h e =
    let a = and_both (goes_on size at t) _ (sym (chains_more size at t ts) ∙ e) in
    let g = goes_on_lem size at t a.0 in
    let r = chains_few size t.end ts g.inside a.1 in
    let n = end_more size at t ts in
    let x = g.rises in
    (omega (arith, r.0), omega (arith, r.1))

-- What an accepted list has.
pub record Accepted (size : ℕ) (ts : List Token) (flag : ℕ) : Type 0 where
  pub one : flag ≤ partial_flag
  pub chain : chains size 0 ts ≡ true
  pub few : length ts ≤ size

pub accepted_has : (size : ℕ) (ts : List Token) (flag : ℕ) → accepted size ts flag ≡ true → Accepted size ts flag
accepted_has size ts flag e =
    let a = and_both (leb flag partial_flag && chains size 0 ts) (eqb flag partial_flag || eqb (end_of 0 ts) size) e in
    let b = and_both (leb flag partial_flag) (chains size 0 ts) a.0 in
    let n = chains_few size 0 ts (omega arith) b.1 in
    record { one = leb-true flag partial_flag b.0; chain = b.1; few = omega (arith, n.0, n.1) }
