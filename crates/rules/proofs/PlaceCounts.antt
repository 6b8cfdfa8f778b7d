-- #103: a place is the count. The line is the number of line ends wholly before the offset, the column the units since the last of them.
-- Assumes nothing.
use Prim.Native.Nat.{ℕ, ◌+◌, ◌-◌, ◌≤◌, ◌<◌}
use native.Mathlib.Omega.{arith}
use native.Mathlib.Decide.{dec_lt, dec_le}
use mathlib.Core.Path.{◌≡◌, refl, sym, ap, ◌∙◌, subst, subst₂}
use mathlib.Core.List.{List, [], ◌∷◌}
use mathlib.Core.Bool.{Bool, true, false}
use mathlib.Core.Logic.{inr}
use lib.Dec.{eqb}
use lib.ListN.{length}
use borrow.Author.Tests.{ne_eqb, eqb-true, eqb-false}
use Rattle.rules.specs.Characters.{line_feed, carriage_return}
use Rattle.rules.specs.Utf8.{Char, width, chars}
use Rattle.rules.specs.Lexeme.{first}
use Rattle.rules.specs.Places.{units, ends_line, Counted, before, place_of}
use Rattle.rules.proofs.Reading.{read-chars}
use Rattle.rules.proofs.Proper.{Proper, Propers, propers, one_wide}
use Rattle.rules.proofs.Places.{before_whole, before-cut}
use Rattle.rules.proofs.LineEnds.{LineEnd, bytes, line_ends_from, line_ends_of, wholly, last_end, units_from, units_between, feed_fresh, feed_taken, return_feed, return_alone, no_end, whole, cut, counts_not, units_late, ends_late}
use Rattle.rules.proofs.CountSteps.{plain, Counts, rest, other, ends, both, count_lines, count_columns}

module _ (offset : ℕ) where
  -- The two counts of the characters from an index on agree.
  abbrev Here : ℕ → List Char → Type 0
  Here at cs = Counts offset at cs (wholly offset (line_ends_from at false cs)) (before (offset - at) cs)

  module _ (at : ℕ) (c : Char) (cs : List Char) where
    here_cut : Proper c → offset < at + width c → Here at (c ∷ cs)
    here_cut p h =
        subst₂ (Counts offset at (c ∷ cs)) (sym (go (dec_lt at offset))) (sym (before-cut (offset - at) c cs (omega (arith, p.wide))))
        (rest (λ a. counts_not offset at a c cs (inr h) ∙ units_late offset (at + width c) a cs h))
      where
        go : Dec (at < offset) → wholly offset (line_ends_from at false (c ∷ cs)) ≡ []
        go (yes l) =
            ap (wholly offset) (no_end at c cs false (λ e. omega (arith, one_wide p (omega arith))) (λ e. omega (arith, one_wide p (omega arith))))
            ∙ ends_late offset (at + width c) false cs (omega arith)
        go (no l) = ends_late offset at false (c ∷ cs) (omega arith)

    module _ (h : at + width c ≤ offset) where
      before_more : (b : Bool) → ends_line c.code (first cs) ≡ b → before (offset - at) (c ∷ cs) ≡ record { units = units c; ends = b } ∷ before (offset - (at + width c)) cs
      before_more b e =
          before_whole (offset - at) c cs (omega arith)
          ∙ ap (λ (b : Bool). record { units = units c; ends = b } ∷ before (offset - at - width c) cs) e
          ∙ ap (λ (n : ℕ). record { units = units c; ends = b } ∷ before n cs) (omega arith)

      here_ends : width c ≡ 1 → line_ends_from at false (c ∷ cs) ≡ bytes at (at + 1) ∷ line_ends_from (at + width c) false cs → ends_line c.code (first cs) ≡ true
          → Here (at + width c) cs → Here at (c ∷ cs)
      here_ends w e f i =
          subst₂ (Counts offset at (c ∷ cs)) (sym (ap (wholly offset) e ∙ whole offset (bytes at (at + 1)) (line_ends_from (at + width c) false cs) (omega arith))) (sym (before_more true f)) (ends w i)

      here_one : Proper c → (c.code ≡ carriage_return → first cs ≡ line_feed → ⊥) → Here (at + width c) cs → Here at (c ∷ cs)
      here_one p n i = go (eqb c.code line_feed) (eqb c.code carriage_return) refl refl
        where
          go : (x y : Bool) → eqb c.code line_feed ≡ x → eqb c.code carriage_return ≡ y → Here at (c ∷ cs)
          go true y s r =
              let e = eqb-true c.code line_feed s in
              here_ends (one_wide p (omega arith)) (feed_fresh at c cs e) (rw s) i
          go false true s r =
              let e = eqb-true c.code carriage_return r in
              here_ends (one_wide p (omega arith)) (return_alone at c cs false e (n e)) (rw (s, r, ne_eqb (first cs) line_feed (n e))) i
          go false false s r =
              subst₂ (Counts offset at (c ∷ cs)) (sym (ap (wholly offset) (no_end at c cs false (eqb-false c.code line_feed s) (eqb-false c.code carriage_return r)))) (sym (before_more false (rw (s, r))))
              (other h i)

  here_both : (at : ℕ) (c d : Char) (cs : List Char) → at + width c ≤ offset → Proper c → Proper d → c.code ≡ carriage_return → d.code ≡ line_feed
      → Here (at + width c + width d) cs → Here at (c ∷ d ∷ cs)
  here_both at c d cs h p q e f i = go (dec_le (at + 2) offset)
    where
      w : width c ≡ 1
      w = one_wide p (omega arith)

      v : width d ≡ 1
      v = one_wide q (omega arith)

      o : before (offset - at) (c ∷ d ∷ cs) ≡ plain c ∷ before (offset - (at + width c)) (d ∷ cs)
      o = before_more at c (d ∷ cs) h false (rw (e, f))

      m : line_ends_from at false (c ∷ d ∷ cs) ≡ bytes at (at + 2) ∷ line_ends_from (at + width c) true (d ∷ cs)
      m = return_feed at c (d ∷ cs) false e f

      go : Dec (at + 2 ≤ offset) → Here at (c ∷ d ∷ cs)
      go (yes l) =
          subst₂ (Counts offset at (c ∷ d ∷ cs))
          (sym (ap (wholly offset) m ∙ whole offset (bytes at (at + 2)) (line_ends_from (at + width c) true (d ∷ cs)) l ∙ ap (λ (es : List LineEnd). bytes at (at + 2) ∷ wholly offset es) (feed_taken (at + width c) d cs f)))
          (sym (o ∙ ap (λ (ks : List Counted). plain c ∷ ks) (before_more (at + width c) d cs (omega (arith, w, v)) true (rw f))))
          (both w v i)
      go (no l) =
          subst₂ (Counts offset at (c ∷ d ∷ cs))
          (sym (ap (wholly offset) m ∙ cut offset (bytes at (at + 2)) (line_ends_from (at + width c) true (d ∷ cs)) (omega (arith, w, v)) ∙ ends_late offset (at + width c) true (d ∷ cs) (omega (arith, w, v))))
          (sym (o ∙ ap (λ (ks : List Counted). plain c ∷ ks) (before-cut (offset - (at + width c)) d cs (omega (arith, w, v)))))
          (other h (rest (λ a. counts_not offset (at + width c) a d cs (inr (omega (arith, w, v))) ∙ units_late offset (at + width c + width d) a cs (omega (arith, w, v)))))

  here : (at : ℕ) (cs : List Char) → Propers cs → Here at cs
  unfolding line_ends_from wholly before units_from
  here at [] p = rest (λ a. refl)
  here at (c ∷ []) p = go (dec_le (at + width c) offset) (here (at + width c) [] tt)
    where
      go : Dec (at + width c ≤ offset) → Here (at + width c) [] → Here at (c ∷ [])
      go (yes h) i = here_one at c [] h p.0 (λ e f. omega arith) i
      go (no h) i = here_cut at c [] p.0 (omega arith)
  here at (c ∷ d ∷ cs) p = go (dec_le (at + width c) offset) (eqb c.code carriage_return) (eqb d.code line_feed) refl refl (here (at + width c) (d ∷ cs) p.1) (here (at + width c + width d) cs p.1.1)
    where
      go : Dec (at + width c ≤ offset) → (x y : Bool) → eqb c.code carriage_return ≡ x → eqb d.code line_feed ≡ y → Here (at + width c) (d ∷ cs) → Here (at + width c + width d) cs → Here at (c ∷ d ∷ cs)
      go (no h) x y s r i j = here_cut at c (d ∷ cs) p.0 (omega arith)
      go (yes h) true true s r i j = here_both at c d cs h p.0 p.1.0 (eqb-true c.code carriage_return s) (eqb-true d.code line_feed r) j
      go (yes h) true false s r i j = here_one at c (d ∷ cs) h p.0 (λ e f. eqb-false d.code line_feed r f) i
      go (yes h) false y s r i j = here_one at c (d ∷ cs) h p.0 (λ e f. eqb-false c.code carriage_return s e) i

module _ (s : List ℕ) (offset : ℕ) where
  counted : Counts offset 0 (chars s) (wholly offset (line_ends_of s)) (before offset (chars s))
  counted =
      subst (λ (n : ℕ). Counts offset 0 (chars s) (wholly offset (line_ends_of s)) (before n (chars s))) (omega arith)
      (here offset 0 (chars s) (propers (chars s) (read-chars s)))

  -- "the line is the number of line ends that lie wholly before the offset"
  pub line_counts : (place_of s offset).line ≡ length (wholly offset (line_ends_of s))
  unfolding place_of
  line_counts = sym (count_lines offset counted)

  -- "the column the sum of the units of the characters between the last of them (or the start) and the offset"
  pub column_sums : (place_of s offset).column ≡ units_between (last_end 0 (wholly offset (line_ends_of s))) offset s
  unfolding place_of
  column_sums = count_columns offset counted 0 (omega arith)
