-- A well-formed character depends on its own bytes alone, and a `#` in place of a byte after any character, whole or broken, leaves the character as it is.
-- Assumes nothing.
use Prim.Native.Nat.{ℕ, ◌<◌}
use native.Mathlib.Omega.{arith}
use mathlib.Core.Path.{◌≡◌, refl}
use mathlib.Core.List.{List}
use mathlib.Core.Bool.{Bool, true, false, cond, ◌||◌, and-false}
use lib.ListN.{get_or}
use Rattle.rules.specs.Utf8.{utf8_one, utf8_two, utf8_three, utf8_four, formed, well_formed, begun}
use Rattle.rules.specs.Limits.{mask_byte}

-- the length by the four tests
chain : Bool → Bool → Bool → Bool → ℕ
chain one two three four = cond one 1 (cond two 2 (cond three 3 (cond four 4 0)))

without_four : (p q r s : Bool) → chain p q r s < 4 → chain p q r false ≡ chain p q r s
unfolding chain
without_four true q r s h = refl
without_four false true r s h = refl
without_four false false true s h = refl
without_four false false false true h = absurd (omega arith)
without_four false false false false h = refl

without_three : (p q r s : Bool) → chain p q r s < 3 → chain p q false false ≡ chain p q r s
unfolding chain
without_three true q r s h = refl
without_three false true r s h = refl
without_three false false true s h = absurd (omega arith)
without_three false false false s h = without_four false false false s (omega arith)

without_two : (p q r s : Bool) → chain p q r s < 2 → chain p false false false ≡ chain p q r s
unfolding chain
without_two true q r s h = refl
without_two false true r s h = absurd (omega arith)
without_two false false r s h = without_three false false r s (omega arith)

-- a test after the first that passes is not asked
before_all : (p q r s p' q' r' s' : Bool) → 0 < chain p q r s → p' ≡ p → (1 < chain p q r s → q' ≡ q) → (2 < chain p q r s → r' ≡ r) → (3 < chain p q r s → s' ≡ s)
    → chain p' q' r' s' ≡ chain p q r s
unfolding chain
before_all true q r s p' q' r' s' h a b c d = rw a
before_all false true r s p' q' r' s' h a b c d = rw (a, b (omega arith))
before_all false false true s p' q' r' s' h a b c d = rw (a, b (omega arith), c (omega arith))
before_all false false false true p' q' r' s' h a b c d = rw (a, b (omega arith), c (omega arith), d (omega arith))
before_all false false false false p' q' r' s' h a b c d = absurd (omega arith)

-- A text that begins with the bytes of a well-formed character begins with that character.
pub formed_own : (s t : List ℕ) → 0 < well_formed s → ((i : ℕ) → i < well_formed s → get_or t i 0 ≡ get_or s i 0) → well_formed t ≡ well_formed s
unfolding formed chain
formed_own s t h e =
    before_all (one s) (two s) (three s) (four s) (one t) (two t) (three t) (four t) h
    (rw (e 0 h)) (λ l. rw (e 0 h, e 1 l)) (λ l. rw (e 0 h, e 1 (omega arith), e 2 l)) (λ l. rw (e 0 h, e 1 (omega arith), e 2 (omega arith), e 3 l))
  where
    one : List ℕ → Bool
    one l = utf8_one (get_or l 0 0)

    two : List ℕ → Bool
    two l = utf8_two (get_or l 0 0) (get_or l 1 0)

    three : List ℕ → Bool
    three l = utf8_three (get_or l 0 0) (get_or l 1 0) (get_or l 2 0)

    four : List ℕ → Bool
    four l = utf8_four (get_or l 0 0) (get_or l 1 0) (get_or l 2 0) (get_or l 3 0)

-- a `#` is no tail, so it ends no longer character
module _ (a b c d : ℕ) where
  pub dark_fourth : formed a b c d < 4 → formed a b c mask_byte ≡ formed a b c d
  unfolding formed chain
  dark_fourth h = simp and-false (without_four (utf8_one a) (utf8_two a b) (utf8_three a b c) (utf8_four a b c d) h)

  pub dark_third : formed a b c d < 3 → formed a b mask_byte d ≡ formed a b c d
  unfolding formed chain
  dark_third h = simp and-false (without_three (utf8_one a) (utf8_two a b) (utf8_three a b c) (utf8_four a b c d) h)

  pub dark_second : formed a b c d < 2 → formed a mask_byte c d ≡ formed a b c d
  unfolding formed chain
  dark_second h = simp and-false (without_two (utf8_one a) (utf8_two a b) (utf8_three a b c) (utf8_four a b c d) h)

-- the same of a broken character: its length by the two tests
pick : Bool → Bool → ℕ
pick three two = cond three 3 (cond two 2 1)

without_third : (p q : Bool) → pick p q < 3 → pick false q ≡ pick p q
unfolding pick
without_third true q h = absurd (omega arith)
without_third false q h = refl

without_second : (p q : Bool) → pick p q < 2 → pick false false ≡ pick p q
unfolding pick
without_second true q h = absurd (omega arith)
without_second false true h = absurd (omega arith)
without_second false false h = refl

module _ (a b c : ℕ) where
  pub begun_dark_third : begun a b c < 3 → begun a b mask_byte ≡ begun a b c
  unfolding begun pick
  begun_dark_third h = simp and-false (without_third (utf8_four a b c 0x80) (utf8_three a b 0x80 || utf8_four a b 0x80 0x80) h)

  pub begun_dark_second : begun a b c < 2 → begun a mask_byte c ≡ begun a b c
  unfolding begun pick
  begun_dark_second h = simp and-false (without_second (utf8_four a b c 0x80) (utf8_three a b 0x80 || utf8_four a b 0x80 0x80) h)
