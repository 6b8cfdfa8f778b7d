-- The two counts of #103 side by side, character by character: a text's line ends, and its characters as they are counted.
-- Assumes nothing.
use Prim.Native.Nat.{ℕ, ◌+◌, ◌≤◌, ◌<◌}
use native.Mathlib.Omega.{arith}
use native.Mathlib.Decide.{dec_lt}
use mathlib.Core.Path.{◌≡◌, refl, sym, ap, ◌∙◌}
use mathlib.Core.List.{List, [], ◌∷◌}
use mathlib.Core.Bool.{true, false}
use mathlib.Core.Logic.{inl}
use lib.ListN.{length}
use Rattle.rules.specs.Utf8.{Char, width}
use Rattle.rules.specs.Places.{units, Counted, line_ends, last_line, units_of}
use Rattle.rules.proofs.Places.{lines_cons, column_all, column_rest}
use Rattle.rules.proofs.LineEnds.{LineEnd, bytes, last_end, units_from, counts, counts_not}

abbrev pub plain : Char → Counted
plain c = record { units = units c; ends = false }

abbrev pub ending : Char → Counted
ending c = record { units = units c; ends = true }

last_none : (es : List LineEnd) (start : ℕ) → length es ≡ 0 → last_end start es ≡ start
unfolding last_end
last_none [] start e = refl
last_none (x ∷ es) start e = absurd (omega arith)

pub column_same : (ks : List Counted) → line_ends ks ≡ 0 → units_of (last_line ks) ≡ units_of ks
unfolding last_line
column_same [] e = refl
column_same (k ∷ ks) e = column_all k ks e

module _ (offset : ℕ) where
  -- What is left past the offset counts nothing; before it stands any other character, a line end of one character, or CR LF together.
  pub data Counts : ℕ → List Char → List LineEnd → List Counted → Type 0 where
    rest : {at : ℕ} {cs : List Char} → ((a : ℕ) → units_from at a offset cs ≡ 0) → Counts at cs [] []
    other : {at : ℕ} {c : Char} {cs : List Char} {es : List LineEnd} {ks : List Counted}
        → at + width c ≤ offset → Counts (at + width c) cs es ks → Counts at (c ∷ cs) es (plain c ∷ ks)
    ends : {at : ℕ} {c : Char} {cs : List Char} {es : List LineEnd} {ks : List Counted}
        → width c ≡ 1 → Counts (at + width c) cs es ks → Counts at (c ∷ cs) (bytes at (at + 1) ∷ es) (ending c ∷ ks)
    both : {at : ℕ} {c d : Char} {cs : List Char} {es : List LineEnd} {ks : List Counted}
        → width c ≡ 1 → width d ≡ 1 → Counts (at + width c + width d) cs es ks
        → Counts at (c ∷ d ∷ cs) (bytes at (at + 2) ∷ es) (plain c ∷ ending d ∷ ks)

  pub count_lines : {at : ℕ} {cs : List Char} {es : List LineEnd} {ks : List Counted} → Counts at cs es ks → length es ≡ line_ends ks
  unfolding line_ends
  count_lines (rest r) = refl
  count_lines (other h p) = omega (arith, count_lines p)
  count_lines (ends w p) = omega (arith, count_lines p)
  count_lines (both w v p) = omega (arith, count_lines p)

  -- The last line end ends past the start, and past where the first character begins.
  last_past : {at : ℕ} {cs : List Char} {es : List LineEnd} {ks : List Counted} → Counts at cs es ks → (start : ℕ) → start ≤ at → start ≤ last_end start es
  unfolding last_end
  last_past (rest r) start h = omega arith
  last_past (other l p) start h = last_past p start (omega arith)
  last_past {at} (ends w p) start h = omega (arith, last_past p (at + 1) (omega arith))
  last_past {at} (both w v p) start h = omega (arith, last_past p (at + 2) (omega arith))

  last_late : {at : ℕ} {cs : List Char} {es : List LineEnd} {ks : List Counted} → Counts at cs es ks → (start : ℕ) → 0 < length es → at < last_end start es
  unfolding last_end
  last_late (rest r) start h = absurd (omega arith)
  last_late (other l p) start h = omega (arith, last_late p start h)
  last_late {at} (ends w p) start h = omega (arith, last_past p (at + 1) (omega arith))
  last_late {at} (both w v p) start h = omega (arith, last_past p (at + 2) (omega arith))

  pub count_columns : {at : ℕ} {cs : List Char} {es : List LineEnd} {ks : List Counted} → Counts at cs es ks
      → (start : ℕ) → start ≤ at → units_of (last_line ks) ≡ units_from at (last_end start es) offset cs
  unfolding last_line units_of last_end
  count_columns (rest r) start h = sym (r start)
  count_columns {at} (other {c = c} {cs = cs} {es = es} {ks = ks} l p) start h = go (dec_lt 0 (line_ends ks)) (count_columns p start (omega arith))
    where
      go : Dec (0 < line_ends ks) → units_of (last_line ks) ≡ units_from (at + width c) (last_end start es) offset cs → units_of (last_line (plain c ∷ ks)) ≡ units_from at (last_end start es) offset (c ∷ cs)
      go (yes m) i =
          let n = count_lines p in
          column_rest (plain c) ks (λ e. omega (arith, lines_cons (plain c) ks)) ∙ i ∙ sym (counts_not offset at (last_end start es) c cs (inl (omega (arith, last_late p start (omega arith)))))
      go (no m) i =
          let n = count_lines p in
          column_all (plain c) ks (omega (arith, lines_cons (plain c) ks))
          ∙ ap (λ (n : ℕ). units c + n) (sym (column_same ks (omega arith)) ∙ i)
          ∙ sym (counts offset at (last_end start es) c cs (omega (arith, last_none es start (omega arith))) l)
  count_columns {at} (ends {c = c} {cs = cs} {es = es} {ks = ks} w p) start h =
      column_rest (ending c) ks (λ e. omega (arith, lines_cons (ending c) ks))
      ∙ count_columns p (at + 1) (omega arith)
      ∙ sym (counts_not offset at (last_end (at + 1) es) c cs (inl (omega (arith, last_past p (at + 1) (omega arith)))))
  count_columns {at} (both {c = c} {d = d} {cs = cs} {es = es} {ks = ks} w v p) start h =
      let l = last_past p (at + 2) (omega arith) in
      column_rest (plain c) (ending d ∷ ks) (λ e. omega (arith, lines_cons (plain c) (ending d ∷ ks), lines_cons (ending d) ks))
      ∙ column_rest (ending d) ks (λ e. omega (arith, lines_cons (ending d) ks))
      ∙ count_columns p (at + 2) (omega arith)
      ∙ sym (counts_not offset at (last_end (at + 2) es) c (d ∷ cs) (inl (omega arith)) ∙ counts_not offset (at + width c) (last_end (at + 2) es) d cs (inl (omega arith)))
