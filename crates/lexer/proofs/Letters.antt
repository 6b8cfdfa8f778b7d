-- Characters past ASCII at which no rule starts a token, told by their bytes. Assumes nothing.
use Prim.Native.Nat.{ℕ, suc, ◌+◌, ◌*◌, ◌%◌, ◌≤◌, ◌<◌}
use native.Mathlib.Omega.{arith}
use mathlib.Core.Path.{◌≡◌, refl, ap, ◌∙◌}
use mathlib.Core.List.{List}
use mathlib.Core.Bool.{true, false, ◌&&◌, and-false}
use mathlib.Core.Logic.{◌⊎◌, inl, inr}
use lib.Dec.{leb, ltb, eqb}
use lib.ListN.{length, get_or, drop}
use borrow.Author.Tests.{ne_eqb, lt-leb, le-ltb}
use Rattle.rules.specs.Utf8.{utf8_tail, well_formed, code_of, char_of, char_at, width}
use Rattle.rules.specs.Classes.{white_space}
use Rattle.rules.specs.Characters.{quote_open, double_quote_open, minus_sign}
use Rattle.rules.specs.Kinds.{ErrorToken}
use Rattle.rules.specs.Lexeme.{is}
use Rattle.rules.proofs.Tables.{later_space}
use Rattle.rules.proofs.Decoding.{at_index, three_other, formed-two, formed-three, width-formed, some_left, code_two, code_three}
use Rattle.rules.proofs.RuleBytes.{wide_other, single_wide}
use Rattle.lexer.specs.Ends.{Unruled}

-- Codes of letters, below the white space from U+1680 on or above U+3000.
abbrev pub Apart : ℕ → Type 0
Apart c = (c < 0x1680) ⊎ (0x3000 < c)

-- such a code past U+00A0 is none that a rule names
module _ (c : ℕ) (h : 0xA0 < c) where
  is_none : Apart c → (k : ℕ) → 0x1680 ≤ k → k ≤ 0x3000 → c ≡ k → ⊥
  is_none (inl a) k l m e = omega arith
  is_none (inr a) k l m e = omega arith

  pub no_space : Apart c → white_space c ≡ false
  no_space a =
      let n : (k : ℕ) → 0x1680 ≤ k → k ≤ 0x3000 → eqb c k ≡ false = λ k l m. ne_eqb c k (is_none a k l m) in
      later_space c (omega arith)
      ∙ rw (
        ne_eqb c 0x85 (λ e. omega arith),
        ne_eqb c 0xA0 (λ e. omega arith),
        n 0x1680 (omega arith) (omega arith),
        n 0x202F (omega arith) (omega arith),
        n 0x205F (omega arith) (omega arith),
        n 0x3000 (omega arith) (omega arith),
        range a 0x2000 0x200B (omega arith) (omega arith),
        range a 0x2028 0x202A (omega arith) (omega arith),
      )
    where
      range : Apart c → (lo hi : ℕ) → 0x1680 ≤ lo → hi ≤ 0x3000 → (leb lo c && ltb c hi) ≡ false
      range (inl x) lo hi l m = rw (lt-leb lo c (omega arith))
      range (inr x) lo hi l m = rw (le-ltb c hi (omega arith)) (and-false (leb lo c))

-- a character with such a code
module _ (s : List ℕ) (i w : ℕ) (h : i < length s) (l : 0x80 ≤ get_or s i 0) (f : well_formed (drop i s) ≡ suc w) where
  code_is : (char_at (drop i s)).code ≡ code_of (suc w) (drop i s)
  unfolding char_of
  code_is = ap (λ (n : ℕ). (char_of n (drop i s)).code) f

  unruled : 0xA0 < code_of (suc w) (drop i s) → Apart (code_of (suc w) (drop i s)) → Unruled s i (suc w)
  unruled a b =
      let c = (char_at (drop i s)).code in
      let x : 0xA0 < c = omega (arith, code_is) in
      let y : Apart c = subst_apart b in
      let n = is_none c x y in
      record {
        space = no_space c x y;
        token = λ d.
            wide_other d s i h l (no_space c x y) (n quote_open (omega arith) (omega arith)) (n double_quote_open (omega arith) (omega arith))
            ∙ ap (λ (k : ℕ). is k (width (char_at (drop i s)))) (single_wide c (omega arith) (n minus_sign (omega arith) (omega arith)))
            ∙ ap (λ (n : ℕ). is ErrorToken n) (width-formed (drop i s) w (some_left s i h) f);
      }
    where
      subst_apart : Apart (code_of (suc w) (drop i s)) → Apart (char_at (drop i s)).code
      subst_apart (inl q) = inl (omega (arith, code_is))
      subst_apart (inr q) = inr (omega (arith, code_is))

module _ (s : List ℕ) (i : ℕ) (h : i < length s) where
  -- C3 to DF with a tail: U+00C0 to U+07FF
  pub unruled_two : 0xC3 ≤ get_or s i 0 → get_or s i 0 ≤ 0xDF → utf8_tail (get_or s (i + 1) 0) ≡ true → Unruled s i 2
  unruled_two a b t =
      let f : well_formed (drop i s) ≡ 2 = at_index s i ∙ formed-two (get_or s i 0) (get_or s (i + 1) 0) (get_or s (i + 2) 0) (get_or s (i + 3) 0) (omega arith) (omega arith) ∙ rw t in
      let c = code_two s i 2 refl in
      unruled s i 1 h (omega arith) f (omega arith) (inl (omega arith))

  -- E1 to EC with two tails, by the code
  pub unruled_three : 0xE1 ≤ get_or s i 0 → get_or s i 0 ≤ 0xEC → utf8_tail (get_or s (i + 1) 0) ≡ true → utf8_tail (get_or s (i + 2) 0) ≡ true
      → Apart (get_or s i 0 % 16 * 4096 + get_or s (i + 1) 0 % 64 * 64 + get_or s (i + 2) 0 % 64) → Unruled s i 3
  unruled_three a b t u p =
      let o = three_other (get_or s i 0) (get_or s (i + 1) 0) (get_or s (i + 2) 0) (omega arith) (omega arith) (λ e. omega arith) in
      let f : well_formed (drop i s) ≡ 3 = at_index s i ∙ formed-three (get_or s i 0) (get_or s (i + 1) 0) (get_or s (i + 2) 0) (get_or s (i + 3) 0) (omega arith) (omega arith) ∙ rw (o, t, u) in
      let c = code_three s i 3 refl in
      unruled s i 2 h (omega arith) f (omega arith) (go p)
    where
      go : Apart (get_or s i 0 % 16 * 4096 + get_or s (i + 1) 0 % 64 * 64 + get_or s (i + 2) 0 % 64) → Apart (code_of 3 (drop i s))
      go (inl x) = inl (omega (arith, code_three s i 3 refl))
      go (inr x) = inr (omega (arith, code_three s i 3 refl))
