-- Going on a byte at a time where no character is longer than three. Assumes nothing.
use Prim.Native.Nat.{ℕ, ◌+◌, ◌≤◌, ◌<◌}
use mathlib.Core.Path.{◌≡◌, refl, sym, ap, ◌∙◌}
use mathlib.Core.Logic.{⊎_elim}
use mathlib.Core.List.{List}
use mathlib.Core.Bool.{Bool, true, false, not, cond, ◌&&◌, ◌||◌, beq}
use native.Mathlib.Omega.{arith}
use borrow.Author.Tests.{not-true, ltb-true, le-leb, lt-leb, leb-true, leb-false, eqb-true, eqb-false}
use lib.Dec.{leb, ltb, eqb}
use lib.ListN.{length, get_or, drop}
use Rattle.rules.specs.Utf8.{within, utf8_tail, utf8_three, well_formed}
use Rattle.rules.proofs.Tests.{and_both, or_cases}
use Rattle.rules.proofs.Decoding.{at_index, formed-two, formed-three, three-first, three_surrogate, three_other}
use Rattle.utf8.specs.Units.{Passes, after, takes_tail}
use Rattle.utf8.proofs.Passing.{pass_none, pass_char, pass_first}

beq_eq : (a b : Bool) → beq a b ≡ true → a ≡ b
beq_eq true true h = refl
beq_eq true false h = sym h
beq_eq false true h = h
beq_eq false false h = refl

-- what begins three bytes, and two tails of which the first is within its bounds, are a character
three_of : (a b c : ℕ) → 0xE0 ≤ a → a < 0xF0 → ((not (eqb a 0xE0) || leb 0xA0 b) && (not (eqb a 0xED) || leb b 0x9F)) ≡ true → utf8_tail b ≡ true → utf8_tail c ≡ true → utf8_three a b c ≡ true
three_of a b c l u e tb tc = go (eqb a 0xE0) refl (eqb a 0xED) refl
  where
    go : (x : Bool) → eqb a 0xE0 ≡ x → (y : Bool) → eqb a 0xED ≡ y → utf8_three a b c ≡ true
    go true p y q =
        let l : leb 0xA0 b ≡ true = (and_both (leb 0xA0 b) (not (eqb a 0xED) || leb b 0x9F) (rw p at e)).0 in
        three-first a b c (eqb-true a 0xE0 p) ∙ rw (l, (and_both (leb 0x80 b) (leb b 0xBF) tb).1, tc)
    go false p true q =
        let u : leb b 0x9F ≡ true = rw (p, q) at e in
        three_surrogate a b c (eqb-true a 0xED q) ∙ rw ((and_both (leb 0x80 b) (leb b 0xBF) tb).0, u, tc)
    go false p false q = three_other a b c (omega (arith, eqb-false a 0xE0 p)) u (eqb-false a 0xED q) ∙ rw (tb, tc)

-- what is a tail or begins a character, but not one of three bytes
below_three : (a : ℕ) → (utf8_tail a || within 0xC2 0xEF a) ≡ true → within 0xE0 0xEF a ≡ false → (utf8_tail a || within 0xC2 0xDF a) ≡ true
below_three a e w = ⊎_elim
    (λ t. rw t)
    (λ v.
    let b = and_both (leb 0xC2 a) (leb a 0xEF) v in
    let u = leb-false 0xE0 a (and_left (leb 0xE0 a) (leb a 0xEF) w b.1) in
    rw (b.0, le-leb a 0xDF (omega arith)) (or-true (utf8_tail a)))
    (or_cases (utf8_tail a) (within 0xC2 0xEF a) e)
  where
    and_left : (x y : Bool) → (x && y) ≡ false → y ≡ true → x ≡ false
    and_left true y e f = absurd_bool e f
      where
        absurd_bool : {x : Bool} → x ≡ false → x ≡ true → true ≡ false
        absurd_bool p q = sym q ∙ p
    and_left false y e f = refl

    or-true : (x : Bool) → (x || true) ≡ true
    or-true true = refl
    or-true false = refl

module _ (s : List ℕ) (i : ℕ) where
  module _ (h : i + 2 < length s) where
    -- a tail that is passed already, or a byte of ASCII
    pub pass_last : get_or s i 0 < 0xC0 → utf8_tail (get_or s (i + 1) 0) ≡ false → Passes s (after 2 s i) (after 2 s (i + 1))
    pass_last u none = go (leb 0x80 (get_or s i 0)) refl
      where
        go : (x : Bool) → leb 0x80 (get_or s i 0) ≡ x → Passes s (after 2 s i) (after 2 s (i + 1))
        go true e = rw (e, le-leb (get_or s i 0) 0xBF (omega arith), none) (pass_none s (i + 1) (omega arith))
        go false e = rw (e, none) (pass_first s i (omega arith) (leb-false 0x80 (get_or s i 0) e))

    -- the first byte of three, and its tails
    pass_three : 0xE0 ≤ get_or s i 0 → get_or s i 0 < 0xF0 → utf8_three (get_or s i 0) (get_or s (i + 1) 0) (get_or s (i + 2) 0) ≡ true → utf8_tail (get_or s (i + 1) 0) ≡ true → utf8_tail (get_or s ((i + 1) + 1) 0) ≡ true → Passes s (after 2 s i) (after 2 s (i + 1))
    pass_three l u three tb tc =
        let lead : utf8_tail (get_or s i 0) ≡ false = rw (le-leb 0x80 (get_or s i 0) (omega arith), lt-leb (get_or s i 0) 0xBF (omega arith)) in
        let f : well_formed (drop i s) ≡ 3 = at_index s i ∙ formed-three _ _ _ _ l u ∙ ap (λ (t : Bool). cond t 3 0) three in
        let n : i + 3 ≡ ((i + 1) + 1) + 1 = omega arith in
        rw (lead, tb, tc) (rw n at (pass_char s i i 3 (pass_none s i (omega arith)) (omega arith) (sym f) (λ z. omega arith)))

    -- the first byte of two, or a tail that is passed already, and the tail
    pass_two_of : (utf8_tail (get_or s i 0) || within 0xC2 0xDF (get_or s i 0)) ≡ true → utf8_tail (get_or s (i + 1) 0) ≡ true → utf8_tail (get_or s ((i + 1) + 1) 0) ≡ false → Passes s (after 2 s i) (after 2 s (i + 1))
    pass_two_of e tb tc = ⊎_elim
        (λ (ta : utf8_tail (get_or s i 0) ≡ true). rw (ta, tb, tc) (pass_none s ((i + 1) + 1) (omega arith)))
        (λ w.
        let b = and_both (leb 0xC2 (get_or s i 0)) (leb (get_or s i 0) 0xDF) w in
        let l = leb-true 0xC2 (get_or s i 0) b.0 in
        let u = leb-true (get_or s i 0) 0xDF b.1 in
        let lead : utf8_tail (get_or s i 0) ≡ false = rw (le-leb 0x80 (get_or s i 0) (omega arith), lt-leb (get_or s i 0) 0xBF (omega arith)) in
        let f : well_formed (drop i s) ≡ 2 = at_index s i ∙ formed-two _ _ _ _ l (omega arith) ∙ ap (λ (t : Bool). cond t 2 0) tb in
        let n : i + 2 ≡ (i + 1) + 1 = omega arith in
        rw (lead, tb, tc) (rw n at (pass_char s i i 2 (pass_none s i (omega arith)) (omega arith) (sym f) (λ z. omega arith))))
        (or_cases (utf8_tail (get_or s i 0)) (within 0xC2 0xDF (get_or s i 0)) e)

    -- a tail that may come after the byte: a third byte is a tail where the first begins three
    pub pass_tail : {m three : Bool} → takes_tail (get_or s i 0) (get_or s (i + 1) 0) ≡ true → m ≡ utf8_tail (get_or s (i + 2) 0) → three ≡ within 0xE0 0xEF (get_or s i 0) → m ≡ three → utf8_tail (get_or s (i + 1) 0) ≡ true → Passes s (after 2 s i) (after 2 s (i + 1))
    pass_tail e em et q tb = go (within 0xE0 0xEF (get_or s i 0)) refl
      where
        n : (i + 1) + 1 ≡ i + 2
        n = omega arith

        third : utf8_tail (get_or s ((i + 1) + 1) 0) ≡ within 0xE0 0xEF (get_or s i 0)
        third = ap (λ (k : ℕ). utf8_tail (get_or s k 0)) n ∙ sym em ∙ q ∙ et

        parts : ((utf8_tail (get_or s i 0) || within 0xC2 0xEF (get_or s i 0)) ≡ true) × (((not (eqb (get_or s i 0) 0xE0) || leb 0xA0 (get_or s (i + 1) 0)) && (not (eqb (get_or s i 0) 0xED) || leb (get_or s (i + 1) 0) 0x9F)) ≡ true)
        parts = and_both (utf8_tail (get_or s i 0) || within 0xC2 0xEF (get_or s i 0)) ((not (eqb (get_or s i 0) 0xE0) || leb 0xA0 (get_or s (i + 1) 0)) && (not (eqb (get_or s i 0) 0xED) || leb (get_or s (i + 1) 0) 0x9F)) e

        go : (w : Bool) → within 0xE0 0xEF (get_or s i 0) ≡ w → Passes s (after 2 s i) (after 2 s (i + 1))
        go true w =
            let b = and_both (leb 0xE0 (get_or s i 0)) (leb (get_or s i 0) 0xEF) w in
            let l = leb-true 0xE0 (get_or s i 0) b.0 in
            let u = leb-true (get_or s i 0) 0xEF b.1 in
            let t = third ∙ w in
            pass_three l (omega arith) (three_of (get_or s i 0) (get_or s (i + 1) 0) (get_or s (i + 2) 0) l (omega arith) parts.1 tb (rw n at t)) tb t
        go false w = pass_two_of (below_three (get_or s i 0) parts.0 w) tb (third ∙ w)

    -- by the code's tests: t of the second byte, m of the third, k of the first two
    pub pass_triple : {t m k : Bool} → t ≡ utf8_tail (get_or s (i + 1) 0) → m ≡ utf8_tail (get_or s (i + 2) 0) → k ≡ takes_tail (get_or s i 0) (get_or s (i + 1) 0) → ((not t && ltb (get_or s i 0) 0xC0) || (t && (k && beq m (within 0xE0 0xEF (get_or s i 0))))) ≡ true → Passes s (after 2 s i) (after 2 s (i + 1))
    pass_triple {t} {m} {k} et em ek e = ⊎_elim
        (λ x. let b = and_both (not t) (ltb (get_or s i 0) 0xC0) x in pass_last (ltb-true (get_or s i 0) 0xC0 b.1) (sym et ∙ not-true t b.0))
        (λ y.
        let b = and_both t (k && beq m (within 0xE0 0xEF (get_or s i 0))) y in
        let d = and_both k (beq m (within 0xE0 0xEF (get_or s i 0))) b.1 in
        pass_tail (sym ek ∙ d.0) em refl (beq_eq m (within 0xE0 0xEF (get_or s i 0)) d.1) (sym et ∙ b.0))
        (or_cases (not t && ltb (get_or s i 0) 0xC0) (t && (k && beq m (within 0xE0 0xEF (get_or s i 0)))) e)
