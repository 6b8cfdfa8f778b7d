-- The lists: lean drops exactly its kinds, the list up to a position is the front of the list, and how long packed lists are.
-- Assumes nothing.
use Prim.Native.Nat.{ℕ, suc, ◌*◌, ◌≤◌, ◌<◌}
use native.Mathlib.Omega.{arith}
use mathlib.Core.Path.{◌≡◌, refl, sym, ap, ◌∙◌, subst}
use mathlib.Core.Logic.{◌⊎◌, inl, inr, ◌↔◌}
use mathlib.Core.List.Memᴰ
use mathlib.Core.List.{List, [], ◌∷◌, Memᴰ}
use mathlib.Core.Bool.{Bool, true, false, not, ◌||◌}
use lib.Dec.{eqb}
use lib.ListN.{length}
use borrow.Author.Tests.{lt-ltb, le-ltb, ne_eqb, eqb-false, not-true}
use Rattle.rules.specs.Kinds.{Whitespace, Comment}
use Rattle.rules.specs.Limits.{token_bytes}
use Rattle.rules.specs.Tokens.{Token, tokens, token_at, tokens_from}
use Rattle.rules.specs.Listing.{lean, full, only, lean_keeps, lean_up_to_keeps, starts_before, whole_list, list_up_to, pack}
use Rattle.rules.proofs.Tests.{clash}
use Rattle.rules.proofs.Edges.{Tiles, from_step, tiles_from, step_fits}

-- the clauses of `only`
module _ (p : Token → Bool) (t : Token) (ts : List Token) where
  pub only_yes : p t ≡ true → only p (t ∷ ts) ≡ t ∷ only p ts
  unfolding only
  only_yes e = rw (e, only)

  pub only_no : p t ≡ false → only p (t ∷ ts) ≡ only p ts
  unfolding only
  only_no e = rw (e, only)

pub only_none : (p : Token → Bool) → only p [] ≡ []
unfolding only
only_none p = refl

-- What passes the test stays, and nothing else.
only_in : (p : Token → Bool) (ts : List Token) {t : Token} → Memᴰ t (only p ts) → Memᴰ t ts × (p t ≡ true)
unfolding only
only_in p [] m = absurd (Memᴰ.not-nil m)
only_in p (u ∷ ts) {t} m = go (p u) refl (λ m. only_in p ts m)
  where
    first : p u ≡ true → (t ≡ u) ⊎ Memᴰ t (only p ts) → (Memᴰ t (only p ts) → Memᴰ t ts × (p t ≡ true)) → Memᴰ t (u ∷ ts) × (p t ≡ true)
    first e (inl h) ih = (Memᴰ.head h, ap p h ∙ e)
    first e (inr h) ih = let r = ih h in (Memᴰ.tail r.0, r.1)

    go : (b : Bool) → p u ≡ b → (Memᴰ t (only p ts) → Memᴰ t ts × (p t ≡ true)) → Memᴰ t (u ∷ ts) × (p t ≡ true)
    go true e ih = first e (Memᴰ.cases_cons (subst (Memᴰ t) (only_yes p u ts e) m)) ih
    go false e ih = let r = ih (subst (Memᴰ t) (only_no p u ts e) m) in (Memᴰ.tail r.0, r.1)

only_out : (p : Token → Bool) (ts : List Token) {t : Token} → Memᴰ t ts → p t ≡ true → Memᴰ t (only p ts)
only_out p [] m e = absurd (Memᴰ.not-nil m)
only_out p (u ∷ ts) {t} m e = go (p u) refl (Memᴰ.cases_cons m) (λ m. only_out p ts m e)
  where
    go : (b : Bool) → p u ≡ b → (t ≡ u) ⊎ Memᴰ t ts → (Memᴰ t ts → Memᴰ t (only p ts)) → Memᴰ t (only p (u ∷ ts))
    go true f (inl h) ih = subst (Memᴰ t) (sym (only_yes p u ts f)) (Memᴰ.head h)
    go true f (inr h) ih = subst (Memᴰ t) (sym (only_yes p u ts f)) (Memᴰ.tail (ih h))
    go false f (inl h) ih = clash (sym (ap p h) ∙ e) f
    go false f (inr h) ih = subst (Memᴰ t) (sym (only_no p u ts f)) (ih h)

neither : (a b : Bool) → not (a || b) ≡ true → (a ≡ false) × (b ≡ false)
neither true b e = clash refl (sym e)
neither false true e = clash refl (sym e)
neither false false e = (refl, refl)

-- "Lean drops exactly Whitespace and Comment."
pub lean_exactly : (s : List ℕ) {t : Token} → Memᴰ t (whole_list lean s) ↔ (Memᴰ t (tokens s) × (t.kind ≡ Whitespace → ⊥) × (t.kind ≡ Comment → ⊥))
unfolding whole_list
lean_exactly s {t} = (to, back)
  where
    to : Memᴰ t (only lean_keeps (tokens s)) → Memᴰ t (tokens s) × (t.kind ≡ Whitespace → ⊥) × (t.kind ≡ Comment → ⊥)
    to m =
        let r = only_in lean_keeps (tokens s) m in
        let n = neither (eqb t.kind Whitespace) (eqb t.kind Comment) r.1 in
        (r.0, eqb-false t.kind Whitespace n.0, eqb-false t.kind Comment n.1)

    back : Memᴰ t (tokens s) × (t.kind ≡ Whitespace → ⊥) × (t.kind ≡ Comment → ⊥) → Memᴰ t (only lean_keeps (tokens s))
    back r = only_out lean_keeps (tokens s) r.0 (rw (ne_eqb t.kind Whitespace r.1, ne_eqb t.kind Comment r.2))

-- "Lean here drops Whitespace only and keeps Comment".
pub lean_up_to_exactly : (s : List ℕ) (position : ℕ) {t : Token} → Memᴰ t (list_up_to lean position s) ↔ (Memᴰ t (list_up_to full position s) × (t.kind ≡ Whitespace → ⊥))
unfolding list_up_to
lean_up_to_exactly s position {t} = (to, back)
  where
    ts : List Token
    ts = only (starts_before position) (tokens s)

    to : Memᴰ t (only lean_up_to_keeps ts) → Memᴰ t ts × (t.kind ≡ Whitespace → ⊥)
    to m = let r = only_in lean_up_to_keeps ts m in (r.0, eqb-false t.kind Whitespace (not-true (eqb t.kind Whitespace) r.1))

    back : Memᴰ t ts × (t.kind ≡ Whitespace → ⊥) → Memᴰ t (only lean_up_to_keeps ts)
    back r = only_out lean_up_to_keeps ts r.0 (rw (ne_eqb t.kind Whitespace r.1))

-- The list up to a position is the front of the list: its tokens are read while one starts before it.
pub late : (position from : ℕ) (ts : List Token) (to : ℕ) → Tiles from ts to → position ≤ from → only (starts_before position) ts ≡ []
late position from [] to t h = only_none (starts_before position)
late position from (t ∷ ts) to p h =
    only_no (starts_before position) t ts (le-ltb t.start position (omega arith)) ∙ late position t.end ts to p.2 (omega arith)

module _ (s : List ℕ) (position i : ℕ) where
  pub up_to_stop : i ≤ length s → position ≤ i → only (starts_before position) (tokens_from s i) ≡ []
  up_to_stop l h = late position i (tokens_from s i) (length s) (tiles_from s i l) h

  pub up_to_step : i < length s → i < position → only (starts_before position) (tokens_from s i) ≡ token_at s i ∷ only (starts_before position) (tokens_from s (token_at s i).end)
  up_to_step l h =
      ap (only (starts_before position)) (from_step s i l)
      ∙ only_yes (starts_before position) (token_at s i) (tokens_from s (token_at s i).end) (lt-ltb (token_at s i).start position (omega (arith, (step_fits s i l).0)))

-- A list with tokens left out is no longer.
pub only-length : (p : Token → Bool) (ts : List Token) → length (only p ts) ≤ length ts
only-length p [] = rw only_none (omega arith)
only-length p (t ∷ ts) = go (p t) refl (only-length p ts)
  where
    go : (b : Bool) → p t ≡ b → length (only p ts) ≤ length ts → length (only p (t ∷ ts)) ≤ suc (length ts)
    go true e ih = rw (only_yes p t ts e) (omega arith)
    go false e ih = rw (only_no p t ts e) (omega arith)

-- "12 bytes a token"
pub length-pack : (ts : List Token) → length (pack ts) ≡ length ts * token_bytes
unfolding pack
length-pack [] = refl
length-pack (t ∷ ts) = let h = length-pack ts in omega arith
