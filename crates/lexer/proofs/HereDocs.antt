-- The search for a delimiter, and what `read_dollar` answers by the tag's end and by the search. Assumes nothing.
use Prim.Native.Nat.{ℕ, zero, suc, ◌+◌, ◌-◌, ◌*◌, ◌≤◌, ◌<◌}
use native.Mathlib.Omega.{arith}
use mathlib.Core.Path.{◌≡◌, refl, sym, ap, ◌∙◌, subst}
use mathlib.Core.List.{List}
use mathlib.Core.Bool.{Bool, true, false, not}
use mathlib.Core.Option.{Option, some, none}
use Rattle.std.proofs.Common.{Option as CodeOption, Some, None}
use lib.ListN.{length, get_or, drop}
use lib.Dec.{eqb}
use borrow.Author.Tests.{eqb-false, not-true}
use Rattle.rules.specs.Utf8.{chars}
use Rattle.rules.specs.Characters.{dollar}
use Rattle.rules.specs.Kinds.{HereDoc, DollarSign}
use Rattle.rules.specs.Dollars.{begins, find, here_doc, dollar_lexeme}
use Rattle.rules.proofs.Tests.{eqb-true}
use Rattle.rules.proofs.Decoding.{within_text}
use Rattle.rules.proofs.Dollars.{here_none}
use Rattle.rules.proofs.HereDocs.{tags_none, opening, opening-first, opening_plain, opening_size, here_by, later, begins_next, begins_differ, find_pass, no_dollar}
use Rattle.runs.specs.Classes.{Skips}
use Rattle.lexer.specs.declared.token.Lexed.{Lexed}
use Rattle.lexer.specs.Ends.{ends_at}
use Rattle.lexer.specs.HereDocs.{Delimiter, TagEnd, found_end}
use Rattle.lexer.proofs.Skips.{over}

-- what the search for d finds from i on
abbrev pub searched : List ℕ → List ℕ → ℕ → CodeOption ℕ
searched d s i = found_end i (length d) (find d (chars (drop i s)))

next_end : (i n : ℕ) (o : Option ℕ) → found_end i n (later 1 o) ≡ found_end (i + 1) n o
next_end i n none = refl
next_end i n (some m) = ap {B = CodeOption ℕ} Some (omega arith)

-- a byte is passed where d does not begin
pub search_on : (d : List ℕ) → get_or d 0 0 ≡ dollar → (s : List ℕ) (i : ℕ) → i < length s → begins d (chars (drop i s)) ≡ false → searched d s (i + 1) ≡ searched d s i
search_on d f s i h b = sym (ap (found_end i (length d)) (find_pass d f s i h b) ∙ next_end i (length d) (find d (chars (drop (i + 1) s))))

-- bytes that are no `$` are skipped
pub search_over : (d : List ℕ) → get_or d 0 0 ≡ dollar → (s : List ℕ) (i j : ℕ) → Skips (λ x. not (eqb x dollar)) s i j → searched d s j ≡ searched d s i
search_over d f s i j r =
    over (λ k. searched d s k ≡ searched d s i) (λ x. not (eqb x dollar)) s i j
    (λ k h e w. search_on d f s k h (no_dollar d f s k h (eqb-false (get_or s k 0) dollar (not-true (eqb (get_or s k 0) dollar) e))) ∙ w) r refl

-- bytes among which no `$` stands before the delimiter's second byte are skipped
module _ (d : List ℕ) (p : Delimiter d) (l : 1 < length d) (s : List ℕ) where
  absent : (k : ℕ) → k < length s → (get_or s k 0 ≡ dollar → get_or s (k + 1) 0 ≡ get_or d 1 0 → ⊥) → begins d (chars (drop k s)) ≡ false
  absent k h n = go (eqb (get_or s k 0) dollar) refl
    where
      go : (t : Bool) → eqb (get_or s k 0) dollar ≡ t → begins d (chars (drop k s)) ≡ false
      go false e = no_dollar d p.0 s k h (eqb-false (get_or s k 0) dollar e)
      go true e =
          let f : get_or s k 0 ≡ dollar = eqb-true e in
          begins_next d p.1 s 0 k (omega arith) (f ∙ sym p.0) ∙ begins_differ d p.1 s 1 (k + 1) l (n f)

  pub pairs_over : (i j : ℕ) → i ≤ j → j ≤ length s → ((k : ℕ) → i ≤ k → k < j → get_or s k 0 ≡ dollar → get_or s (k + 1) 0 ≡ get_or d 1 0 → ⊥) → searched d s j ≡ searched d s i
  pairs_over i j h u n = let e : i + (j - i) ≡ j = omega arith in subst (λ (k : ℕ). searched d s k ≡ searched d s i) e (go (j - i) (omega arith))
    where
      go : (m : ℕ) → i + m ≤ j → searched d s (i + m) ≡ searched d s i
      go zero q = let z : i + 0 ≡ i = omega arith in ap (searched d s) z
      go (suc m) q =
          let z : i + suc m ≡ i + m + 1 = omega arith in
          ap (searched d s) z ∙ search_on d p.0 s (i + m) (omega arith) (absent (i + m) (omega arith) (n (i + m) (omega arith) (omega arith))) ∙ go m (omega arith)

-- The tag bytes after the `$` at `start` end at e.
module _ (s : List ℕ) (start e : ℕ) (t : TagEnd s (start + 1) e) where
  abbrev answer : Lexed
  answer = ends_at start (dollar_lexeme (here_doc (chars (drop (start + 1) s))))

  lone : here_doc (chars (drop (start + 1) s)) ≡ none → record { kind = DollarSign; end = start + 1 } ≡ answer
  lone h = sym (ap (λ (o : Option ℕ). ends_at start (dollar_lexeme o)) h)

  pub not_closed : (get_or s e 0 ≡ dollar → ⊥) → here_doc (chars (drop (start + 1) s)) ≡ none
  not_closed n =
      let f = t.from in
      let q : e ≡ start + 1 + (e - (start + 1)) = omega arith in
      here_none (chars (drop (start + 1) s)) (tags_none s (e - (start + 1)) (start + 1) (λ k u l. t.tags k (omega arith) l) (rw q at t.over) (rw q at n))

  pub no_tag : (get_or s e 0 ≡ dollar → ⊥) → record { kind = DollarSign; end = start + 1 } ≡ answer
  no_tag n = lone (not_closed n)

  module _ (a : get_or s start 0 ≡ dollar) (z : get_or s e 0 ≡ dollar) where
    pub tag_closed : e + 1 ≤ length s
    tag_closed = let h = within_text s e (omega arith) in omega arith

    pub opens : Delimiter (opening s start e)
    opens = (opening-first s start e t.from a t.tags z, opening_plain s start e t.from a t.tags z)

    -- r: where the search after the tag found the closing delimiter's end
    module _ (r : CodeOption ℕ) (found : r ≡ found_end (e + 1) (length (opening s start e)) (find (opening s start e) (chars (drop (e + 1) s)))) where
      by : (o : Option ℕ) → find (opening s start e) (chars (drop (e + 1) s)) ≡ o → (here_doc (chars (drop (start + 1) s)) ≡ later (2 * (e + 1 - start)) o) × (r ≡ found_end (e + 1) (e + 1 - start) o)
      by o f = (
        here_by s start e t.from a t.tags z o f,
        found ∙ ap (λ (n : ℕ). found_end (e + 1) n (find (opening s start e) (chars (drop (e + 1) s)))) (opening_size s start e t.from a t.tags z) ∙ ap (found_end (e + 1) (e + 1 - start)) f,
      )

      pub not_found : r ≡ None → record { kind = DollarSign; end = start + 1 } ≡ answer
      not_found y = go (find (opening s start e) (chars (drop (e + 1) s))) refl
        where
          go : (o : Option ℕ) → find (opening s start e) (chars (drop (e + 1) s)) ≡ o → record { kind = DollarSign; end = start + 1 } ≡ answer
          go none f = lone (by none f).0
          go (some m) f = let h = (by (some m) f).1 in absurd (cc (y, h))

      pub here_found : (end : ℕ) → r ≡ Some end → record { kind = HereDoc; end = end } ≡ answer
      here_found end y = go (find (opening s start e) (chars (drop (e + 1) s))) refl
        where
          go : (o : Option ℕ) → find (opening s start e) (chars (drop (e + 1) s)) ≡ o → record { kind = HereDoc; end = end } ≡ answer
          go none f = let h = (by none f).1 in absurd (cc (y, h))
          go (some m) f =
              let h = (by (some m) f).1 in
              let q : end ≡ (e + 1) + m + (e + 1 - start) = cc (y, h) in
              let u = t.from in
              ap (λ (n : ℕ). record { kind = HereDoc; end = n }) (omega arith) ∙ sym (ap (λ (o : Option ℕ). ends_at start (dollar_lexeme o)) (by (some m) f).0)
