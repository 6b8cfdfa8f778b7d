-- A tag that is not seen again begins no here-document. Assumes nothing.
use Rattle.std.proofs.Common.{◌≡◌, ℕ, zero, suc, ◌+◌, ◌-◌, ◌<◌, ◌≤◌, Bool, true, false, eqb, List, length, get_or, drop, sym, refl, ap, ◌∙◌, add-zero, arith, get_or-drop, get_or-take}
use native.Mathlib.Decide.{dec_lt}
use mathlib.Core.Option.{none}
use borrow.Author.Tests.{eqb-false}
use Rattle.rules.specs.Utf8.{chars}
use Rattle.rules.specs.Characters.{dollar}
use Rattle.rules.specs.Dollars.{begins, find, here_doc}
use Rattle.rules.proofs.Tests.{clash, eqb-true}
use Rattle.rules.proofs.Decoding.{within_text}
use Rattle.rules.proofs.HereDocs.{begins_next, begins_differ, later, find_over, find_pass, opening, opening_size, opening-first, opening_plain, here_by}
use Rattle.lexer.specs.HereDocs.{TagEnd}
use Rattle.ahead.specs.Slots.{slot_at, Seen}
use Rattle.ahead.proofs.Slots.{slot_same}

-- The `$` at p, its tag up to e, and the `$` there.
module _ (s : List ℕ) (p e : ℕ) (t : TagEnd s (p + 1) e) (a : get_or s p 0 ≡ dollar) (z : get_or s e 0 ≡ dollar) where
  d : List ℕ
  d = opening s p e

  size : length d ≡ e + 1 - p
  unfolding d
  size = opening_size s p e t.from a t.tags z

  plain : (k : ℕ) → k < length d → (0 < get_or d k 0) × (get_or d k 0 < 0x80)
  unfolding d
  plain = opening_plain s p e t.from a t.tags z

  at : (k : ℕ) → k < e + 1 - p → get_or d k 0 ≡ get_or s (p + k) 0
  unfolding d
  at k h = get_or-take (e + 1 - p) (drop p s) k 0 h ∙ get_or-drop p s k 0

  first : get_or d 0 0 ≡ dollar
  unfolding d
  first = opening-first s p e t.from a t.tags z

  -- where it stands again, it has the same bytes
  same_at : (q k : ℕ) → k < e + 1 - p → begins (drop k d) (chars (drop (q + k) s)) ≡ true → get_or s (q + k) 0 ≡ get_or s (p + k) 0
  same_at q k h b = go (eqb (get_or s (q + k) 0) (get_or d k 0)) refl
    where
      go : (x : Bool) → eqb (get_or s (q + k) 0) (get_or d k 0) ≡ x → get_or s (q + k) 0 ≡ get_or s (p + k) 0
      go true f = eqb-true f ∙ at k h
      go false f = let l = size in clash b (begins_differ d plain s k (q + k) (omega arith) (eqb-false _ _ f))

  again : (q k : ℕ) → k ≤ e + 1 - p → begins d (chars (drop q s)) ≡ true → begins (drop k d) (chars (drop (q + k) s)) ≡ true
  again q zero h b = rw (add-zero q) b
  again q (suc k) h b =
      let r = again q k (omega arith) b in
      let l = size in
      let x : k + 1 ≡ suc k = omega arith in
      let y : q + k + 1 ≡ q + suc k = omega arith in
      rw (x, y) at (sym (begins_next d plain s k (q + k) (omega arith) (same_at q k (omega arith) r ∙ sym (at k (omega arith)))) ∙ r)

  same : (q k : ℕ) → begins d (chars (drop q s)) ≡ true → k < e + 1 - p → get_or s (q + k) 0 ≡ get_or s (p + k) 0
  same q k b h = same_at q k h (again q k (omega arith) b)

  same_slot : (table : List ℕ) (q : ℕ) → begins d (chars (drop q s)) ≡ true → slot_at s table q ≡ slot_at s table p
  same_slot table q b =
      let f = t.from in
      slot_same table s (p + 1) (q + 1) (e - (p + 1)) (λ k h. t.tags (p + 1 + k) (omega arith) (omega arith))
      (λ k h. let x : p + 1 + k ≡ p + (k + 1) = omega arith in let y : q + 1 + k ≡ q + (k + 1) = omega arith in rw (x, y) (same q (k + 1) b (omega arith)))
      (let x : p + 1 + (e - (p + 1)) ≡ e = omega arith in rw x z)

  module _ (from : ℕ) (table last : List ℕ) (v : Seen s from table last (length s)) (low : from ≤ p) (n : slot_at s table p < length last) (le : get_or last (slot_at s table p) 0 ≤ e) where
    never : (q : ℕ) → e < q → begins d (chars (drop q s)) ≡ true → ⊥
    never q h b =
        let f = t.from in
        let g : get_or s q 0 ≡ dollar = rw (add-zero q, add-zero p) at (same q 0 b (omega arith)) ∙ a in
        let m = same_slot table q b in
        let w = v.seen q (omega arith) (within_text s q (omega arith)) g (rw m n) in
        let x : get_or last (slot_at s table q) 0 ≡ get_or last (slot_at s table p) 0 = ap (λ (k : ℕ). get_or last k 0) m in
        omega arith

    absent : (fuel q : ℕ) → length s - q ≤ fuel → e < q → find d (chars (drop q s)) ≡ none
    absent zero q l h = find_over d s q (omega arith)
    absent (suc fuel) q l h = go (dec_lt q (length s)) (begins d (chars (drop q s))) refl (absent fuel (q + 1))
      where
        go : Dec (q < length s) → (x : Bool) → begins d (chars (drop q s)) ≡ x → (length s - (q + 1) ≤ fuel → e < q + 1 → find d (chars (drop (q + 1) s)) ≡ none) → find d (chars (drop q s)) ≡ none
        go (no i) x b ih = find_over d s q (omega arith)
        go (yes i) true b ih = absurd (never q h b)
        go (yes i) false b ih = find_pass d first s q i b ∙ ap (later 1) (ih (omega arith) (omega arith))

    pub not_again : here_doc (chars (drop (p + 1) s)) ≡ none
    unfolding d
    not_again = here_by s p e t.from a t.tags z none (absent (length s) (e + 1) (omega arith) (omega arith))
