-- #103: on ASCII text without CR the place of an offset is document 01's old one, byte by byte. Assumes nothing.
use Prim.Native.Nat.{ℕ, zero, suc, ◌+◌, ◌-◌, ◌<◌}
use native.Mathlib.Omega.{arith}
use native.Mathlib.Decide.{dec_lt}
use mathlib.Core.Path.{◌≡◌, refl, sym, ap, ap₂, ◌∙◌}
use mathlib.Core.List.{List, [], ◌∷◌}
use mathlib.Core.Bool.{Bool, true, false, cond, or-false}
use lib.Dec.{eqb}
use lib.ListN.{length, get_or, take}
use borrow.Author.Tests.{lt-leb, ne_eqb, eqb-true, eqb-false}
use Rattle.rules.specs.Characters.{line_feed, carriage_return}
use Rattle.rules.specs.Utf8.{Char, chars_after, chars}
use Rattle.rules.specs.Lexeme.{first}
use Rattle.rules.specs.Places.{Place, units, ends_line, Counted, before, line_ends, last_line, units_of, place_of}
use Rattle.rules.proofs.Decoding.{chars_ascii}
use Rattle.rules.proofs.Places.{before_none, before_whole}

-- Document 01, "Hidden bytes and places", before #103: "line is the number of LF bytes before the offset, column the number of bytes between
-- the last of these (or the text's start) and the offset."
unfoldable pub feeds : List ℕ → ℕ
feeds [] = 0
feeds (b ∷ s) = cond (eqb b line_feed) 1 0 + feeds s

-- The bytes after the last LF; all of them where there is none.
unfoldable pub after_feeds : List ℕ → List ℕ
after_feeds [] = []
after_feeds (b ∷ s) = elim (eqb (feeds (b ∷ s)) 0) [ true ↦ b ∷ s | false ↦ after_feeds s ]

abbrev pub old_place : List ℕ → ℕ → Place
old_place s offset = record { line = feeds (take offset s); column = length (after_feeds (take offset s)) }

-- ASCII without CR.
abbrev pub Plain : List ℕ → Type 0
Plain s = (i : ℕ) → i < length s → (get_or s i 0 < 0x80) × (get_or s i 0 ≡ carriage_return → ⊥)

-- Each byte is a character then, of one unit, and a line ends with it where it is LF.
abbrev counted : List ℕ → List Counted
counted [] = []
counted (b ∷ s) = record { units = 1; ends = eqb b line_feed } ∷ counted s

module _ (b : ℕ) (s : List ℕ) where
  byte_counts : b < 0x80 → (b ≡ carriage_return → ⊥) → (n : ℕ) → before (suc n) (chars (b ∷ s)) ≡ record { units = 1; ends = eqb b line_feed } ∷ before n (chars s)
  byte_counts h k n =
      let c : Char = record { code = b; bytes = b ∷ [] } in
      let e : suc n - 1 ≡ n = omega arith in
      ap (before (suc n)) (chars_ascii (b ∷ s) 0 (omega arith) h)
      ∙ before_whole (suc n) c (chars s) (omega arith)
      ∙ ap (λ (m : ℕ). record { units = units c; ends = ends_line b (first (chars s)) } ∷ before m (chars s)) e
      ∙ rw (lt-leb 0x10000 b (omega arith), ne_eqb b carriage_return k, or-false)

bytes_count : (s : List ℕ) → Plain s → (offset : ℕ) → before offset (chars s) ≡ counted (take offset s)
unfolding before chars_after
bytes_count [] p zero = before_none [] 0
bytes_count [] p (suc n) = refl
bytes_count (b ∷ s) p zero = before_none (b ∷ s) 0
bytes_count (b ∷ s) p (suc n) =
    let q = p 0 (omega arith) in
    byte_counts b s q.0 q.1 n
    ∙ ap (λ (ks : List Counted). record { units = 1; ends = eqb b line_feed } ∷ ks) (bytes_count s (λ i l. p (suc i) (omega arith)) n)

lines_counted : (t : List ℕ) → line_ends (counted t) ≡ feeds t
unfolding line_ends feeds
lines_counted [] = refl
lines_counted (b ∷ t) = ap (λ (n : ℕ). cond (eqb b line_feed) 1 0 + n) (lines_counted t)

units_counted : (t : List ℕ) → units_of (counted t) ≡ length t
unfolding units_of
units_counted [] = refl
units_counted (b ∷ t) = omega (arith, units_counted t)

columns_counted : (t : List ℕ) → units_of (last_line (counted t)) ≡ length (after_feeds t)
unfolding last_line units_of after_feeds
columns_counted [] = refl
columns_counted (b ∷ t) = go (eqb (feeds (b ∷ t)) 0) refl (columns_counted t)
  where
    go : (x : Bool) → eqb (feeds (b ∷ t)) 0 ≡ x → units_of (last_line (counted t)) ≡ length (after_feeds t) → units_of (last_line (counted (b ∷ t))) ≡ length (after_feeds (b ∷ t))
    go true e i = rw (ap (λ (n : ℕ). eqb n 0) (lines_counted (b ∷ t)), e, last_line, after_feeds) (units_counted (b ∷ t))
    go false e i = rw (ap (λ (n : ℕ). eqb n 0) (lines_counted (b ∷ t)), e, last_line, after_feeds) i

pub same_on_ascii : (s : List ℕ) → Plain s → (offset : ℕ) → place_of s offset ≡ old_place s offset
unfolding place_of
same_on_ascii s p offset =
    let e = bytes_count s p offset in
    ap₂ (λ (l c : ℕ). record { line = l; column = c }) (ap line_ends e ∙ lines_counted (take offset s)) (ap (λ (ks : List Counted). units_of (last_line ks)) e ∙ columns_counted (take offset s))

-- The old definition as it stood, the place after one byte more.
abbrev past : ℕ → Place → Place
past b p = elim (eqb b line_feed) [ true ↦ record { line = suc p.line; column = 0 } | false ↦ record { line = p.line; column = suc p.column } ]

unfoldable pub place_after : Place → List ℕ → Place
place_after p [] = p
place_after p (b ∷ s) = place_after (past b p) s

-- It gives the same place.
module _ (b : ℕ) (s : List ℕ) where
  feeds_is : b ≡ line_feed → feeds (b ∷ s) ≡ suc (feeds s)
  unfolding feeds
  feeds_is e = rw e (omega arith)

  feeds_not : (b ≡ line_feed → ⊥) → feeds (b ∷ s) ≡ feeds s
  unfolding feeds
  feeds_not e = rw (ne_eqb b line_feed e) (omega arith)

  after_rest : 0 < feeds (b ∷ s) → after_feeds (b ∷ s) ≡ after_feeds s
  unfolding after_feeds
  after_rest h = rw (ne_eqb (feeds (b ∷ s)) 0 (λ e. omega arith), after_feeds)

after_all : (s : List ℕ) → feeds s ≡ 0 → after_feeds s ≡ s
unfolding after_feeds
after_all [] e = refl
after_all (b ∷ s) e = rw (e, after_feeds)

record Stood (p q : Place) (s : List ℕ) : Type 0 where
  line : q.line ≡ p.line + feeds s
  none : feeds s ≡ 0 → q.column ≡ p.column + length s
  some : 0 < feeds s → q.column ≡ length (after_feeds s)

stood_start : {p q : Place} (s : List ℕ) → Stood p q s → p.column ≡ 0 → q.column ≡ length (after_feeds s)
stood_start {p} {q} s i z = go (dec_lt 0 (feeds s))
  where
    go : Dec (0 < feeds s) → q.column ≡ length (after_feeds s)
    go (yes h) = i.some h
    go (no h) = omega (arith, i.none (omega arith), ap length (after_all s (omega arith)))

stood : (s : List ℕ) (p : Place) → Stood p (place_after p s) s
unfolding place_after feeds
stood [] p = record { line = omega arith; none = λ e. omega arith; some = λ h. absurd (omega arith) }
stood (b ∷ s) p = go (eqb b line_feed) refl (λ q. stood s q)
  where
    go : (x : Bool) → eqb b line_feed ≡ x → ((q : Place) → Stood q (place_after q s) s)
        → Stood p (place_after (elim x [ true ↦ record { line = suc p.line; column = 0 } | false ↦ record { line = p.line; column = suc p.column } ]) s) (b ∷ s)
    go true e ih =
        let i = ih (record { line = suc p.line; column = 0 }) in
        let f = feeds_is b s (eqb-true b line_feed e) in
        record {
          line = omega (arith, i.line);
          none = λ z. absurd (omega arith);
          some = λ h. stood_start s i refl ∙ sym (ap length (after_rest b s h));
        }
    go false e ih =
        let i = ih (record { line = p.line; column = suc p.column }) in
        let f = feeds_not b s (eqb-false b line_feed e) in
        record {
          line = omega (arith, i.line);
          none = λ z. omega (arith, i.none (omega arith));
          some = λ h. i.some (omega arith) ∙ sym (ap length (after_rest b s h));
        }

pub old_as_stood : (s : List ℕ) (offset : ℕ) → place_after (record { line = 0; column = 0 }) (take offset s) ≡ old_place s offset
old_as_stood s offset =
    let i = stood (take offset s) (record { line = 0; column = 0 }) in
    ap₂ (λ (l c : ℕ). record { line = l; column = c }) (omega (arith, i.line)) (stood_start (take offset s) i refl)
