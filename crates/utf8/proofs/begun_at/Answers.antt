-- A law of `begun` for each range of the first byte. Assumes nothing.
use Rattle.std.proofs.Common.{◌≡◌, ℕ, List, Bool, true, false, cond, ◌&&◌, ◌+◌, ◌≤◌, ◌<◌, sym, ap, ap₂, ◌∙◌, get_or, drop, arith}
use Rattle.rules.specs.Utf8.{utf8_tail, utf8_three, utf8_four, broken_length}
use Rattle.rules.proofs.Decoding.{begun_index, begun_low, begun_middle, begun_high}
use Rattle.utf8.proofs.begun_at.Goals as goal

module _ (s : List ℕ) (i : ℕ) where
  low-at : get_or s i 0 < 0xE0 → 1 ≡ broken_length (drop i s)
  low-at h = sym (begun_index s i ∙ begun_low _ _ _ h)

  -- the outcome v of the code's test t of two bytes
  middle-at : {b : ℕ} {t : Bool} (v : Bool) → 0xE0 ≤ get_or s i 0 → get_or s i 0 < 0xF0 → b ≡ get_or s (i + 1) 0 → t ≡ utf8_three (get_or s i 0) b 0x80 → t ≡ v
      → cond v 2 1 ≡ broken_length (drop i s)
  middle-at v l h eb e q = sym (begun_index s i ∙ begun_middle _ _ _ l h ∙ ap (λ (x : Bool). cond x 2 1) (sym (rw eb at e) ∙ q))

  -- the outcomes of the tests of two bytes and of the third
  module _ (l : 0xF0 ≤ get_or s i 0) {b : ℕ} (t : Bool) (eb : b ≡ get_or s (i + 1) 0) (e : (c d : ℕ) → (t && utf8_tail c && utf8_tail d) ≡ utf8_four (get_or s i 0) b c d) where
    high-at : broken_length (drop i s) ≡ cond (t && utf8_tail (get_or s (i + 2) 0) && true) 3 (cond (t && true && true) 2 1)
    high-at =
        begun_index s i
        ∙ begun_high _ _ _ l
        ∙ ap₂ (λ (x y : Bool). cond x 3 (cond y 2 1)) (sym (rw eb at (e (get_or s (i + 2) 0) 0x80))) (sym (rw eb at (e 0x80 0x80)))

    lone-at : t ≡ false → 1 ≡ broken_length (drop i s)
    lone-at f = sym (high-at ∙ ap (λ (t : Bool). cond (t && utf8_tail (get_or s (i + 2) 0) && true) 3 (cond (t && true && true) 2 1)) f)

    third_at : {c : ℕ} {u : Bool} (v : Bool) → t ≡ true → c ≡ get_or s (i + 2) 0 → u ≡ utf8_tail c → u ≡ v → cond (v && true) 3 2 ≡ broken_length (drop i s)
    third_at v f ec g q =
        sym (high-at ∙ ap₂ (λ (t u : Bool). cond (t && u && true) 3 (cond (t && true && true) 2 1)) f (sym (rw ec at g) ∙ q))

pub returns-in-224-to-239 : goal.returns-in-224-to-239
returns-in-224-to-239 c =
    middle-at c.args.s.now c.args.j true (omega arith) (omega arith) c.byte_at-b.ensures c.is_three.ensures c.if-is_three.true

pub returns-then-is_tail : goal.returns-then-is_tail
returns-then-is_tail c =
    third_at c.args.s.now c.args.j (omega arith) c.is_second.result c.byte_at-b.ensures c.is_second.ensures true c.if-is_second.true c.byte_at.ensures c.is_tail.ensures c.if-is_tail.true

pub returns-else-is_tail : goal.returns-else-is_tail
returns-else-is_tail c =
    third_at c.args.s.now c.args.j (omega arith) c.is_second.result c.byte_at-b.ensures c.is_second.ensures false c.if-is_second.true c.byte_at.ensures c.is_tail.ensures c.if-is_tail.false

pub returns-in_default : goal.returns-in_default
returns-in_default c = low-at c.args.s.now c.args.j (omega arith)

pub returns-in_default-2 : goal.returns-in_default-2
returns-in_default-2 c =
    middle-at c.args.s.now c.args.j false (omega arith) (omega arith) c.byte_at-b.ensures c.is_three.ensures c.if-is_three.false

pub returns-in_default-3 : goal.returns-in_default-3
returns-in_default-3 c = lone-at c.args.s.now c.args.j (omega arith) c.is_second.result c.byte_at-b.ensures c.is_second.ensures c.if-is_second.false
