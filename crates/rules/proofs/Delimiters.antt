-- #102: a delimiter is a `;`, or a backslash with a G or a g, so that no dot stands before what follows it. Assumes nothing.
use Prim.Native.Nat.{ℕ, zero, suc, ◌+◌, ◌≤◌, ◌<◌}
use native.Mathlib.Omega.{arith}
use native.Mathlib.Decide.{dec_lt}
use mathlib.Core.Path.{◌≡◌, refl, sym, ap, ◌∙◌}
use mathlib.Core.Logic.{◌⊎◌, inl, inr}
use mathlib.Core.List.{List, [], ◌∷◌}
use mathlib.Core.Bool.{Bool, true, false, not}
use lib.Dec.{eqb}
use lib.ListN.{length, get_or, drop}
use lib.Seq.{get_or-drop}
use native.Mathlib.Nat.{add-zero}
use Rattle.rules.specs.Utf8.{Char, width, char_at, chars}
use Rattle.rules.specs.Characters.{semicolon, backslash, capital_g, small_g}
use Rattle.rules.specs.Lexeme.{Lexeme, is, first, two}
use Rattle.rules.specs.Operators.{single, pair, spaceship, operator}
use Rattle.rules.specs.Tokens.{Rule, others, rule, read, lexeme_of, lexeme, is_dot, after_dot_at, token_at}
use Rattle.rules.specs.Saved.{saved_kind}
use Rattle.rules.specs.Statements.{delimiter}
use Rattle.rules.proofs.Tests.{clash, eqb-true, eqb_same, and_right}
use Rattle.rules.proofs.Decoding.{chars-at, chars_ascii, code_high}
use Rattle.rules.proofs.Bytes.{next_is}
use Rattle.rules.proofs.Rules.{lexeme_by, two-true}
use Rattle.rules.proofs.Operators.{operator-three, operator-two, operator-one}
use Rattle.rules.proofs.KnownKinds.{either_is, same, usual, read_usual}

-- which of the kinds in the tables of rule 2 delimit
single-not : (c : ℕ) → eqb c semicolon ≡ false → delimiter (single c) ≡ false
unfolding single
single-not c e = simp (e, either_is, same)

pair-not : (a b : ℕ) → two a b backslash capital_g ≡ false → two a b backslash small_g ≡ false → delimiter (pair a b) ≡ false
unfolding pair
pair-not a b e f = simp (e, f, either_is, same)

-- What a delimiter is made of.
abbrev Made : Char → List Char → Lexeme → Type 0
Made c cs l =
    ((c.code ≡ semicolon) × (l.size ≡ width c))
    ⊎ ((c.code ≡ backslash) × ((first cs ≡ capital_g) ⊎ (first cs ≡ small_g)) × (l.size ≡ 2))

module _ (c : Char) (cs : List Char) where
  made_one : (b : Bool) → eqb c.code semicolon ≡ b → delimiter (single c.code) ≡ true → Made c cs (is (single c.code) (width c))
  made_one true e h = inl (eqb-true e, refl)
  made_one false e h = clash h (single-not c.code e)

  made_two : (k : ℕ) (x y : Bool) → two c.code (first cs) backslash capital_g ≡ x → two c.code (first cs) backslash small_g ≡ y → delimiter (pair c.code (first cs)) ≡ true → Made c cs (is k 2)
  made_two k true y e f h = let t = two-true c.code (first cs) backslash capital_g e in inr (t.0, inl t.1, refl)
  made_two k false true e f h = let t = two-true c.code (first cs) backslash small_g f in inr (t.0, inr t.1, refl)
  made_two k false false e f h = clash h (pair-not c.code (first cs) e f)

  made_operator : delimiter (operator c cs).kind ≡ true → Made c cs (operator c cs)
  made_operator h = go (spaceship c.code (first cs) (first (drop 1 cs))) (pair c.code (first cs)) refl refl
    where
      go : (t : Bool) (k : ℕ) → spaceship c.code (first cs) (first (drop 1 cs)) ≡ t → pair c.code (first cs) ≡ k → Made c cs (operator c cs)
      go true k s p = clash (sym (ap (λ (l : Lexeme). delimiter l.kind) (operator-three c cs s)) ∙ h) refl
      go false (suc k) s p =
          let e = operator-two c cs k s p in
          let d : delimiter (suc k) ≡ true = sym (ap (λ (l : Lexeme). delimiter l.kind) e) ∙ h in
          rw e (made_two (suc k) _ _ refl refl (ap delimiter p ∙ d))
      go false zero s p =
          let e = operator-one c cs s p in
          rw e (made_one _ refl (sym (ap (λ (l : Lexeme). delimiter l.kind) e) ∙ h))

  made : (d : Bool) → delimiter (lexeme_of d (c ∷ cs)).kind ≡ true → Made c cs (lexeme_of d (c ∷ cs))
  unfolding lexeme_of read
  made d h = go (rule c.code (first cs)) refl (read_usual (rule c.code (first cs)) d c cs)
    where
      go : (r : Rule) → rule c.code (first cs) ≡ r → (usual (lexeme_of d (c ∷ cs)).kind ≡ true) ⊎ (rule c.code (first cs) ≡ others) → Made c cs (lexeme_of d (c ∷ cs))
      go r e (inl u) = let n = and_right (saved_kind (lexeme_of d (c ∷ cs)).kind) (not (delimiter (lexeme_of d (c ∷ cs)).kind)) u in clash refl (sym n ∙ ap not h)
      go r e (inr o) =
          let f = lexeme_by d c cs others o in
          rw f (made_operator (sym (ap (λ (l : Lexeme). delimiter l.kind) f) ∙ h))

module _ (s : List ℕ) (i : ℕ) (h : i < length s) (e : delimiter (token_at s i).kind ≡ true) where
  abbrev d : Bool
  d = after_dot_at s i

  -- a delimiter's first byte is of ASCII
  plain_end : get_or s i 0 < 0x80 → after_dot_at s (i + (lexeme d (drop i s)).size) ≡ false
  unfolding token_at
  plain_end l = go (made head rest d (sym (ap (λ (cs : List Char). delimiter (lexeme_of d cs).kind) whole) ∙ e))
    where
      head : Char
      head = record { code = get_or s i 0; bytes = get_or s i 0 ∷ [] }

      rest : List Char
      rest = chars (drop (i + 1) s)

      whole : chars (drop i s) ≡ head ∷ rest
      whole = chars_ascii s i h l

      size : (lexeme d (drop i s)).size ≡ (lexeme_of d (head ∷ rest)).size
      size = ap (λ (cs : List Char). (lexeme_of d cs).size) whole

      -- the byte after a backslash
      second : (x : ℕ) → 0 < x → x < 0x80 → is_dot x ≡ false → first rest ≡ x → is_dot (get_or s (i + 1) 0) ≡ false
      second x p q n f =
          let y : get_or s (i + 1) 0 ≡ x = eqb-true (sym (next_is x p q s (i + 1)) ∙ ap (λ (y : ℕ). eqb y x) f ∙ eqb_same x) in
          ap is_dot y ∙ n

      go : Made head rest (lexeme_of d (head ∷ rest)) → after_dot_at s (i + (lexeme d (drop i s)).size) ≡ false
      go (inl m) =
          let z : i + (lexeme d (drop i s)).size ≡ suc i = omega (arith, size, m.1) in
          ap (after_dot_at s) z ∙ ap is_dot m.0
      go (inr m) =
          let z : i + (lexeme d (drop i s)).size ≡ suc (i + 1) = omega (arith, size, m.2) in
          ap (after_dot_at s) z ∙ letter m.1
        where
          letter : (first rest ≡ capital_g) ⊎ (first rest ≡ small_g) → is_dot (get_or s (i + 1) 0) ≡ false
          letter (inl f) = second capital_g (omega arith) (omega arith) refl f
          letter (inr f) = second small_g (omega arith) (omega arith) refl f

  -- No dot stands before what follows a delimiter.
  pub delimiter-dot : after_dot_at s (token_at s i).end ≡ false
  unfolding token_at
  delimiter-dot = go (dec_lt (get_or s i 0) 0x80)
    where
      c : Char
      c = char_at (drop i s)

      cs : List Char
      cs = chars (drop (i + width c) s)

      high : 0x80 ≤ c.code → Made c cs (lexeme_of d (c ∷ cs)) → after_dot_at s (i + (lexeme d (drop i s)).size) ≡ false
      high k (inl m) = absurd (let z = m.0 in omega arith)
      high k (inr m) = absurd (let z = m.0 in omega arith)

      go : Dec (get_or s i 0 < 0x80) → after_dot_at s (i + (lexeme d (drop i s)).size) ≡ false
      go (yes l) = plain_end l
      go (no l) =
          let f : get_or (drop i s) 0 0 ≡ get_or s i 0 = get_or-drop i s 0 0 ∙ ap (λ (n : ℕ). get_or s n 0) (add-zero i) in
          high (code_high (drop i s) (omega arith)) (made c cs d (sym (ap (λ (xs : List Char). delimiter (lexeme_of d xs).kind) (chars-at s i h)) ∙ e))
