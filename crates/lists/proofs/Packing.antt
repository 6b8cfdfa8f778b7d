-- A packed list that is filled from the front.
-- Assumes nothing.
use Prim.Native.Nat.{ℕ, suc, ◌+◌, ◌-◌, ◌*◌, ◌≤◌}
use mathlib.Core.Path.{◌≡◌, refl, sym, ap, ◌∙◌}
use mathlib.Core.List.{List, [], ◌∷◌, ◌++◌, append_assoc, append-nil}
use native.Mathlib.Nat.{add-zero, add-suc, suc-add}
use native.Mathlib.Omega.{arith}
use lib.ListN.{length, take, drop, take-append-drop, length-append}
use lib.Seq.{sets, sets-eq, length-sets, length-take-le, drop-append-add, take-append-add, drop-drop}
use Rattle.rules.specs.Limits.{token_bytes}
use Rattle.rules.specs.Tokens.{Token}
use Rattle.rules.specs.Listing.{pack_token, pack}
use Rattle.rules.specs.Answers.{filled}
use Rattle.rules.proofs.Listing.{length-pack}
use Rattle.lists.specs.Walks.{Packs}

sets_append : (xs ys l : List ℕ) (i : ℕ) → sets l i (xs ++ ys) ≡ sets (sets l i xs) (i + length xs) ys
sets_append [] ys l i = rw (add-zero i)
sets_append (x ∷ xs) ys l i = rw (add-suc i (length xs), ← suc-add i (length xs)) (sets_append xs ys _ (suc i))

-- two runs of stores, one after the other: of the first one only the second is left
pub put_first : (l l₁ xs ys : List ℕ) (i j : ℕ) → l₁ ≡ sets l i xs → j ≡ i + length xs → sets l₁ j ys ≡ sets l i (xs ++ ys)
put_first l l₁ xs ys i j e f = rw (e, f) (sym (sets_append xs ys l i))

pub put_both : (l l₁ l₂ xs ys : List ℕ) (i j : ℕ) → l₁ ≡ sets l i xs → j ≡ i + length xs → l₂ ≡ sets l₁ j ys → l₂ ≡ sets l i (xs ++ ys)
put_both l l₁ l₂ xs ys i j e f g = g ∙ put_first l l₁ xs ys i j e f

module _ (vs l : List ℕ) (i : ℕ) (h : i + length vs ≤ length l) where
  -- what is written ends where the rest begins
  written-length : i + length vs ≡ length (take i l ++ vs) + 0
  written-length = omega (arith, length-append (take i l) vs, length-take-le i l (omega arith))

  take_sets : take (i + length vs) (sets l i vs) ≡ take i l ++ vs
  take_sets =
      rw (sets-eq vs l i h)
      (ap (λ (k : ℕ). take k ((take i l ++ vs) ++ drop (i + length vs) l)) written-length
      ∙ take-append-add (take i l ++ vs) (drop (i + length vs) l) 0 ∙ append-nil (take i l ++ vs))

  drop_sets : drop (i + length vs) (sets l i vs) ≡ drop (i + length vs) l
  drop_sets =
      rw (sets-eq vs l i h)
      (ap (λ (k : ℕ). drop k ((take i l ++ vs) ++ drop (i + length vs) l)) written-length
      ∙ drop-append-add (take i l ++ vs) (drop (i + length vs) l) 0)

-- One state of a list, and a later one.
pub packs_none : (list : List ℕ) (at : ℕ) (rest : List Token) → Packs list at rest list at rest
packs_none list at rest = record { on = omega arith; len = refl; count = refl; front = refl; back = refl }

module _ (list₀ : List ℕ) (at₀ : ℕ) (rest₀ : List Token) (list : List ℕ) (at : ℕ) where
  module _ (t : Token) (rest : List Token) (f : Packs list₀ at₀ rest₀ list at (t ∷ rest)) where
    -- there is room for one more token
    pub packs_room : at₀ + length rest₀ * token_bytes ≤ length list₀ → at + token_bytes ≤ length list
    packs_room fits = let n = f.count in let l = f.len in omega arith

    pub packs_more : at + token_bytes ≤ length list → (list' : List ℕ) (at' : ℕ) → at' ≡ at + token_bytes → list' ≡ sets list at (pack_token t) → Packs list₀ at₀ rest₀ list' at' rest
    unfolding pack
    packs_more k list' at' a e =
        let n = f.count in
        let o = f.on in
        record {
          on = omega arith;
          len = ap length e ∙ length-sets list at (pack_token t) ∙ f.len;
          count = omega arith;
          front =
              rw (a, e)
              (ap (λ (x : List ℕ). x ++ pack rest) (take_sets (pack_token t) list at k)
              ∙ append_assoc (take at list) (pack_token t) (pack rest)
              ∙ f.front);
          back =
              rw (a, e)
              (drop_sets (pack_token t) list at k
              ∙ sym (drop-drop token_bytes at list) ∙ ap (drop token_bytes) f.back ∙ drop-drop token_bytes at list₀);
        }

  -- two steps, one after the other
  pub packs_both : (rest : List Token) → Packs list₀ at₀ rest₀ list at rest → (list' : List ℕ) (at' : ℕ) (rest' : List Token) → Packs list at rest list' at' rest' → Packs list₀ at₀ rest₀ list' at' rest'
  packs_both rest f list' at' rest' g =
      let o = f.on in
      let p = g.on in
      let z : at + (at' - at) ≡ at' = omega arith in
      record {
        on = omega arith;
        len = g.len ∙ f.len;
        count = g.count ∙ f.count;
        front = g.front ∙ f.front;
        back =
            g.back ∙ ap (λ (k : ℕ). drop k list) (sym z) ∙ sym (drop-drop (at' - at) at list) ∙ ap (drop (at' - at)) f.back
            ∙ drop-drop (at' - at) at list₀ ∙ ap (λ (k : ℕ). drop k list₀) z;
      }

-- `all` is to be packed into the list, which was list₀; what is before `at` is written, and `rest` is left.
abbrev pub Filled : List Token → List ℕ → List ℕ → ℕ → List Token → Type 0
Filled all list₀ list at rest = Packs list₀ 0 all list at rest

pub filled_none : (all : List Token) (list₀ : List ℕ) → Filled all list₀ list₀ 0 all
filled_none all list₀ = packs_none list₀ 0 all

module _ (all : List Token) (list₀ list : List ℕ) (at : ℕ) (fits : length all * token_bytes ≤ length list₀) where
  module _ (t : Token) (rest : List Token) (f : Filled all list₀ list at (t ∷ rest)) where
    pub filled-room : at + token_bytes ≤ length list
    filled-room = packs_room list₀ 0 all list at t rest f (omega arith)

    pub filled_more : (list' : List ℕ) (at' : ℕ) → at' ≡ at + token_bytes → list' ≡ sets list at (pack_token t) → Filled all list₀ list' at' rest
    filled_more = packs_more list₀ 0 all list at t rest f filled-room

  pub filled_all : Filled all list₀ list at [] → list ≡ filled (pack all) list₀
  unfolding pack
  filled_all f =
      let n : at ≡ length (pack all) = omega (arith, f.count, length-pack all) in
      sym (take-append-drop at list) ∙ ap (λ (x : List ℕ). x ++ drop at list) (sym (append-nil (take at list)) ∙ f.front)
      ∙ ap (λ (x : List ℕ). pack all ++ x) (f.back ∙ ap (λ (k : ℕ). drop k list₀) n)
