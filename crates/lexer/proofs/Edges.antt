-- The classes of ASCII that are skipped, by their edges. Assumes nothing.
use Prim.Native.Nat.{ℕ, ◌+◌, ◌<◌}
use native.Mathlib.Omega.{arith}
use mathlib.Core.Path.{◌≡◌, refl, sym, ap, ◌∙◌}
use mathlib.Core.List.{List, [], ◌∷◌}
use mathlib.Core.Bool.{Bool, true, false, not, cond, ◌&&◌, and-false, not-not}
use lib.Dec.{leb, ltb, eqb}
use borrow.Author.Tests.{eq-eqb, ne_eqb, le-leb, leb-true, leb-false, ltb-true, ltb-false, lt-ltb}
use Rattle.rules.specs.Classes.{in_ranges, white_space, digit}
use Rattle.rules.specs.Tables.{white_space_table}
use Rattle.rules.specs.Words.{word_character}
use Rattle.rules.specs.Dollars.{tag_byte}
use Rattle.rules.proofs.Tests.{eqb-true}
use Rattle.rules.proofs.Tables.{agree_at}
use Rattle.rules.proofs.NumberBytes.{radix_high}
use Rattle.runs.specs.Classes.{past, inside, passes}
use Rattle.lexer.specs.Words.{ascii_word}
use Rattle.lexer.proofs.Classes.{ascii_agree, ascii_tag}

abbrev spaces : List ℕ
spaces = 9 ∷ 14 ∷ 32 ∷ 33 ∷ 0 ∷ 0 ∷ 0 ∷ 0 ∷ []

pub inside_spaces : (x : ℕ) → passes false spaces x ≡ (ltb x 0x80 && white_space x)
unfolding past white_space in_ranges white_space_table
inside_spaces = ascii_agree (past spaces) white_space (agree_at (past spaces) white_space 0x80 refl)

abbrev pub words : List ℕ
words = 0x30 ∷ 0x3A ∷ 0x41 ∷ 0x5B ∷ 0x5F ∷ 0x60 ∷ 0x61 ∷ 0x7B ∷ []

pub inside_words : (x : ℕ) → passes false words x ≡ ascii_word x
unfolding past
inside_words = ascii_agree (past words) word_character (λ x l. agree_at (past words) tag_byte 0x80 refl x l ∙ sym (ascii_tag x l))

abbrev pub figures : List ℕ
figures = 0x30 ∷ 0x3A ∷ 0 ∷ 0 ∷ 0 ∷ 0 ∷ 0 ∷ 0 ∷ []

pub inside-figures : (x : ℕ) → passes false figures x ≡ digit x
unfolding past
inside-figures x = go (ltb x 0x80) refl
  where
    go : (t : Bool) → ltb x 0x80 ≡ t → (t && past figures x) ≡ digit x
    go true e = agree_at (past figures) digit 0x80 refl x (ltb-true x 0x80 e)
    go false e = sym (radix_high false x (ltb-false x 0x80 e))

-- two edges about one byte, and two that bound nothing
past_one : (a : ℕ) (es : List ℕ) (x : ℕ) → past (a ∷ (a + 1) ∷ es) x ≡ cond (eqb x a) (not (past es x)) (past es x)
unfolding past
past_one a es x = go (leb a x) (leb (a + 1) x) (past es x) refl refl
  where
    go : (u v w : Bool) → leb a x ≡ u → leb (a + 1) x ≡ v → cond u (not (cond v (not w) w)) (cond v (not w) w) ≡ cond (eqb x a) (not w) w
    go true true w e f = let l = leb-true (a + 1) x f in rw (ne_eqb x a (λ q. omega arith)) (not-not w)
    go true false w e f = let l = leb-true a x e in let m = leb-false (a + 1) x f in rw (eq-eqb x a (omega arith))
    go false true w e f = let l = leb-false a x e in let m = leb-true (a + 1) x f in absurd (omega arith)
    go false false w e f = let l = leb-false a x e in rw (ne_eqb x a (λ q. omega arith))

past_none : (es : List ℕ) (x : ℕ) → past (0 ∷ 0 ∷ es) x ≡ past es x
unfolding past
past_none es x = rw (le-leb 0 x (omega arith)) (not-not (past es x))

module _ (a : ℕ) (la : a < 0x80) (x : ℕ) where
  pub outside-one : passes true (a ∷ (a + 1) ∷ 0 ∷ 0 ∷ 0 ∷ 0 ∷ 0 ∷ 0 ∷ []) x ≡ not (eqb x a)
  unfolding past
  outside-one = ap (λ (t : Bool). not (ltb x 0x80 && t)) edged ∙ go (eqb x a) refl
    where
      edged : past (a ∷ (a + 1) ∷ 0 ∷ 0 ∷ 0 ∷ 0 ∷ 0 ∷ 0 ∷ []) x ≡ cond (eqb x a) true false
      edged = rw (past_one a (0 ∷ 0 ∷ 0 ∷ 0 ∷ 0 ∷ 0 ∷ []) x, past_none (0 ∷ 0 ∷ 0 ∷ 0 ∷ []) x, past_none (0 ∷ 0 ∷ []) x, past_none [] x)

      go : (u : Bool) → eqb x a ≡ u → not (ltb x 0x80 && cond u true false) ≡ not u
      go true e = rw (lt-ltb x 0x80 (let q : x ≡ a = eqb-true e in omega arith))
      go false e = ap not (and-false (ltb x 0x80))

  pub outside-two : (b : ℕ) → b < 0x80 → (a ≡ b → ⊥) → passes true (a ∷ (a + 1) ∷ b ∷ (b + 1) ∷ 0 ∷ 0 ∷ 0 ∷ 0 ∷ []) x ≡ (not (eqb x a) && not (eqb x b))
  unfolding past
  outside-two b lb n = ap (λ (t : Bool). not (ltb x 0x80 && t)) edged ∙ go (eqb x a) (eqb x b) refl refl
    where
      edged : past (a ∷ (a + 1) ∷ b ∷ (b + 1) ∷ 0 ∷ 0 ∷ 0 ∷ 0 ∷ []) x ≡ cond (eqb x a) (not (cond (eqb x b) true false)) (cond (eqb x b) true false)
      edged = rw (past_one a (b ∷ (b + 1) ∷ 0 ∷ 0 ∷ 0 ∷ 0 ∷ []) x, past_one b (0 ∷ 0 ∷ 0 ∷ 0 ∷ []) x, past_none (0 ∷ 0 ∷ []) x, past_none [] x)

      go : (u v : Bool) → eqb x a ≡ u → eqb x b ≡ v → not (ltb x 0x80 && cond u (not (cond v true false)) (cond v true false)) ≡ (not u && not v)
      go true true e f = let p : x ≡ a = eqb-true e in let q : x ≡ b = eqb-true f in absurd (n (omega arith))
      go true false e f = rw (lt-ltb x 0x80 (let q : x ≡ a = eqb-true e in omega arith))
      go false true e f = rw (lt-ltb x 0x80 (let q : x ≡ b = eqb-true f in omega arith))
      go false false e f = ap not (and-false (ltb x 0x80))

-- the class of one byte
abbrev pub one : ℕ → List ℕ
one a = a ∷ (a + 1) ∷ 0 ∷ 0 ∷ 0 ∷ 0 ∷ 0 ∷ 0 ∷ []

pub inside_one : (a : ℕ) → a < 0x80 → (x : ℕ) → inside (one a) x ≡ eqb x a
inside_one a h x = sym (not-not (inside (one a) x)) ∙ ap not (outside-one a h x) ∙ not-not (eqb x a)
