-- Runs of a class at an index: where they end, and what one turn of a loop over one keeps.
-- Assumes nothing.
use Prim.Native.Nat.{ℕ, ◌+◌, ◌-◌, ◌*◌, ◌%◌, ◌≤◌, ◌<◌}
use native.Mathlib.Omega.{arith}
use mathlib.Core.Path.{◌≡◌, refl, sym, ap, ◌∙◌}
use mathlib.Core.List.{List, [], ◌∷◌}
use mathlib.Core.Bool.{Bool, true, false, not, ◌&&◌}
use lib.ListN.{length, get_or, drop}
use lib.Dec.{ltb}
use borrow.Author.Tests.{ne_eqb, ltb-true, lt-ltb}
use Rattle.rules.specs.Utf8.{utf8_tail, well_formed, code_of, Char, no_code, char_at, chars_after, chars}
use Rattle.rules.specs.Characters.{line_feed}
use Rattle.rules.specs.Lexeme.{first, run}
use Rattle.rules.specs.Spaces.{not_line_feed}
use Rattle.rules.proofs.Tests.{and_both, clash}
use Rattle.rules.proofs.Decoding.{at_index, formed-two, code_two, some_left, chars-at, chars_ascii, chars_end}
use Rattle.rules.proofs.Bytes.{byte_step, next_is}
use Rattle.rules.proofs.Runs.{run-cons}
use Rattle.utf8.specs.declared.Unit.{Unit}
use Rattle.utf8.specs.declared.Unit.TheVariants as unit
use Rattle.utf8.specs.Units.{unit_at}
use Rattle.utf8.proofs.Units.{unit_char, Here, char_unit, broken_unit, end_unit, here_at}
use Rattle.utf8.specs.Units.{unit_code, unit_len}
use Rattle.lexer.specs.Steps.{Step}
use Rattle.runs.specs.Classes.{Skips}
use Rattle.lexer.proofs.Skips.{over}

-- The character that a byte of ASCII is.
abbrev pub ascii : ℕ → Char
ascii b = record { code = b; bytes = b ∷ [] }

run_other : (p : ℕ → Bool) (c : Char) (cs : List Char) → p c.code ≡ false → run p (c ∷ cs) ≡ 0
unfolding run
run_other p c cs e = rw (e, run)

run-nil : (p : ℕ → Bool) → run p (chars []) ≡ 0
unfolding run chars_after
run-nil p = refl

-- The run from i on ends where the run from j on does: the invariant of each loop over a run.
abbrev pub Reaches : (ℕ → Bool) → List ℕ → ℕ → ℕ → Type 0
Reaches p s i j = j + run p (chars (drop j s)) ≡ i + run p (chars (drop i s))

module _ (p : ℕ → Bool) (s : List ℕ) (j : ℕ) where
  pub run_end : length s ≤ j → run p (chars (drop j s)) ≡ 0
  unfolding run
  run_end h = rw (chars_end s j h)

  -- a character that is not of the class
  pub char_stop : j < length s → p (char_at (drop j s)).code ≡ false → run p (chars (drop j s)) ≡ 0
  char_stop h e = ap (run p) (chars-at s j h) ∙ run_other p (char_at (drop j s)) _ e

  module _ (h : j < length s) (l : get_or s j 0 < 0x80) where
    ascii_more : p (get_or s j 0) ≡ true → run p (chars (drop j s)) ≡ 1 + run p (chars (drop (j + 1) s))
    ascii_more e = ap (run p) (chars_ascii s j h l) ∙ run-cons p (ascii (get_or s j 0)) (chars (drop (j + 1) s)) e

    pub ascii_stop : p (get_or s j 0) ≡ false → run p (chars (drop j s)) ≡ 0
    ascii_stop e = ap (run p) (chars_ascii s j h l) ∙ run_other p (ascii (get_or s j 0)) (chars (drop (j + 1) s)) e

  -- a byte, by a test that only ASCII passes
  module _ (h : j < length s) (t : Bool) (e : t ≡ (ltb (get_or s j 0) 0x80 && p (get_or s j 0))) where
    pub byte_more : t ≡ true → run p (chars (drop j s)) ≡ 1 + run p (chars (drop (j + 1) s))
    byte_more f = let b = and_both (ltb (get_or s j 0) 0x80) (p (get_or s j 0)) (sym e ∙ f) in ascii_more h (ltb-true (get_or s j 0) 0x80 b.0) b.1

    pub byte_stop : get_or s j 0 < 0x80 → t ≡ false → run p (chars (drop j s)) ≡ 0
    byte_stop l f = ascii_stop h l (rw (lt-ltb (get_or s j 0) 0x80 l) at (sym e ∙ f))

  -- any character, by the unit
  module _ (c n : ℕ) (w : Here (drop j s) c n) where
    step_on : p c ≡ true → Step p s j n
    step_on e =
        let a = here_at s j c n w in
        let q : p (char_at (drop j s)).code ≡ true = ap p w.code ∙ e in
        let z = w.some in
        record {
          goes = λ x. (ap (run p) a.0 ∙ run-cons p (char_at (drop j s)) (chars (drop (j + n) s)) q ∙ ap (λ (k : ℕ). k + run p (chars (drop (j + n) s))) w.size, a.1);
          stops = λ x. absurd (omega arith);
        }

    step_off : p c ≡ false → Step p s j 0
    step_off e =
        let a = here_at s j c n w in
        record {
          goes = λ x. absurd (x refl);
          stops = λ x. ap (run p) a.0 ∙ run_other p (char_at (drop j s)) (chars (drop (j + n) s)) (ap p w.code ∙ e);
        }

  -- a character of two bytes, by these
  pub step-two : j < length s → 0xC2 ≤ get_or s j 0 → get_or s j 0 < 0xE0 → utf8_tail (get_or s (j + 1) 0) ≡ true → p (get_or s j 0 % 32 * 64 + get_or s (j + 1) 0 % 64) ≡ true → Step p s j 2
  step-two h l u t e =
      let f : well_formed (drop j s) ≡ 2 = at_index s j ∙ formed-two (get_or s j 0) (get_or s (j + 1) 0) (get_or s (j + 2) 0) (get_or s (j + 3) 0) l u ∙ rw t in
      step_on (code_of 2 (drop j s)) 2 (char_unit (drop j s) _ 2 (unit_char (drop j s) 2 (some_left s j h) (sym f) (λ z. omega arith))) (ap p (code_two s j 2 refl) ∙ e)

  step_end : unit_at (drop j s) ≡ unit.End → Step p s j 0
  step_end u = record { goes = λ x. absurd (x refl); stops = λ x. ap (λ (t : List ℕ). run p (chars t)) (end_unit (drop j s) u) ∙ run-nil p }

  module _ (u : Unit) (e : u ≡ unit_at (drop j s)) (c : ℕ) (k : c ≡ unit_code u) (t : Bool) (f : t ≡ p c) where
    pub step_taken : (n : ℕ) → n ≡ unit_len u → p no_code ≡ false → t ≡ true → Step p s j n
    step_taken n l z g = rw l (go u (sym e) (ap p (sym k) ∙ sym f ∙ g))
      where
        go : (u : Unit) → unit_at (drop j s) ≡ u → p (unit_code u) ≡ true → Step p s j (unit_len u)
        go (unit.Char c n) e q = step_on c n (char_unit (drop j s) c n e) q
        go (unit.Broken n) e q = clash q z
        go unit.End e q = clash q z

    pub step_left : t ≡ false → Step p s j 0
    step_left g = go u (sym e) (ap p (sym k) ∙ sym f ∙ g)
      where
        go : (u : Unit) → unit_at (drop j s) ≡ u → p (unit_code u) ≡ false → Step p s j 0
        go (unit.Char c n) e q = step_off c n (char_unit (drop j s) c n e) q
        go (unit.Broken n) e q = step_off no_code n (broken_unit (drop j s) n e) q
        go unit.End e q = step_end e

-- a byte that is no line feed, whether or not a character begins there
pub line_more : (s : List ℕ) (j : ℕ) → j < length s → (get_or s j 0 ≡ line_feed → ⊥) → run not_line_feed (chars (drop j s)) ≡ 1 + run not_line_feed (chars (drop (j + 1) s))
line_more s j h n =
    byte_step ◌+◌ (λ x. omega arith) (λ x y z. omega arith) (run not_line_feed) not_line_feed refl (run-cons not_line_feed) s j h
    (ap (λ (cs : List Char). not_line_feed (first cs)) (sym (chars-at s j h)) ∙ ap not (next_is line_feed (omega arith) (omega arith) s j ∙ ne_eqb (get_or s j 0) line_feed n))

-- the same of bytes that are skipped
module _ (s : List ℕ) (i j : ℕ) where
  pub ascii_over : (p : ℕ → Bool) → Skips (λ b. ltb b 0x80 && p b) s i j → Reaches p s i j
  ascii_over p r = over (Reaches p s i) (λ b. ltb b 0x80 && p b) s i j (λ k h e w. omega (arith, byte_more p s k h true (sym e) refl)) r refl

  -- and up to a byte of ASCII at which the run ends
  pub run_over : (p : ℕ → Bool) → Skips (λ b. ltb b 0x80 && p b) s i j → 8 ≤ length s - j → get_or s j 0 < 0x80 → j ≡ i + run p (chars (drop i s))
  run_over p r h l = omega (arith, ascii_over p r, byte_stop p s j (omega arith) _ refl l (r.stop h))

  pub line_over : Skips not_line_feed s i j → Reaches not_line_feed s i j
  line_over r = over (Reaches not_line_feed s i) not_line_feed s i j (λ k h e w. omega (arith, line_more s k h (λ q. clash e (ap not_line_feed q)))) r refl
