-- What a character begins is a token of a kind from 1 to 47 that is not EndOfStream, and only an operator delimits a statement. Assumes nothing.
use Prim.Native.Nat.{ℕ, zero, suc, ◌+◌, ◌-◌, ◌≤◌}
use native.Mathlib.Omega.{arith}
use mathlib.Core.Path.{◌≡◌, refl, sym, subst}
use mathlib.Core.List.{List, [], ◌∷◌}
use mathlib.Core.Option.{Option, some, none}
use mathlib.Core.Logic.{◌⊎◌, inl, inr}
use mathlib.Core.Bool.{Bool, true, false, not, cond, ◌&&◌}
use lib.Dec.{leb, eqb}
use lib.ListN.{take, drop}
use Rattle.rules.specs.Utf8.{within, Char, width, char_at, chars, chars_after}
use Rattle.rules.specs.Kinds.{Whitespace, Number, BareWord, Spaceship, EndOfStream, ErrorWrongNumber, ErrorToken, ErrorMaxQuerySizeExceeded}
use Rattle.rules.specs.Lexeme.{Lexeme, is, first, run}
use Rattle.rules.specs.Operators.{single, pair, spaceship, operator}
use Rattle.rules.specs.Dollars.{here_doc, dollar_lexeme}
use Rattle.rules.specs.Numbers.{number_word, starts_suffix, all_chars, figures, closing, number}
use Rattle.rules.specs.Tokens.{Rule, spaces, dashes, slash_star, numeral, letters, quoted, double_quoted, back_quoted, curly_quoted, curly_double_quoted, dollars, others, rule, read, lexeme_of, lexeme}
use Rattle.rules.specs.Statements.{delimiter}
use Rattle.rules.specs.Saved.{saved_kind}
use Rattle.rules.proofs.Tests.{le-true, within-true, and_left}

abbrev Known : Lexeme → Type 0
Known l = saved_kind l.kind ≡ true

-- such a kind that delimits nothing
abbrev pub usual : ℕ → Bool
usual k = saved_kind k && not (delimiter k)

abbrev Usual : Lexeme → Type 0
Usual l = usual l.kind ≡ true

either : (b : Bool) (x y n : ℕ) → leb (cond b x y) n ≡ cond b (leb x n) (leb y n)
either true x y n = refl
either false x y n = refl

either_above : (b : Bool) (x y n : ℕ) → leb n (cond b x y) ≡ cond b (leb n x) (leb n y)
either_above true x y n = refl
either_above false x y n = refl

pub either_is : (b : Bool) (x y n : ℕ) → eqb (cond b x y) n ≡ cond b (eqb x n) (eqb y n)
either_is true x y n = refl
either_is false x y n = refl

pub same : (b c : Bool) → cond b c c ≡ c
same true c = refl
same false c = refl

single_kind : (c : ℕ) → saved_kind (single c) ≡ true
unfolding single
single_kind c = simp (either, either_above, either_is, same)

-- two characters that are no operator have kind 0
pair_kind : (a b : ℕ) → (leb (pair a b) ErrorToken && not (eqb (pair a b) EndOfStream)) ≡ true
unfolding pair
pair_kind a b = simp (either, either_is, same)

operator_kind : (c : Char) (cs : List Char) → Known (operator c cs)
unfolding operator
operator_kind c cs = go (spaceship c.code (first cs) (first (drop 1 cs))) (pair c.code (first cs)) (pair_kind c.code (first cs))
  where
    go : (b : Bool) (k : ℕ) → (leb k ErrorToken && not (eqb k EndOfStream)) ≡ true → Known (elim b [ true ↦ is Spaceship 3 | false ↦ elim k [ suc j ↦ is (suc j) 2 | zero ↦ is (single c.code) (width c) ] ])
    go true k e = refl
    go false zero e = single_kind c.code
    go false (suc k) e = rw (le-true Whitespace (suc k) (omega arith)) e

closing_kind : (n : ℕ) (cs : List Char) → Usual (closing n cs)
unfolding closing
closing_kind n cs = go (starts_suffix (first (drop n cs)))
  where
    go : (b : Bool) → Usual (elim b [ false ↦ is Number n | true ↦ is (cond (all_chars number_word (take n cs)) BareWord ErrorWrongNumber) (n + run number_word (drop n cs)) ])
    go false = refl
    go true = simp (either, either_above, either_is, same)

number_kind : (d : Bool) (cs : List Char) → Usual (number d cs)
unfolding number
number_kind d cs = go (figures d cs).well
  where
    go : (b : Bool) → Usual (elim b [ true ↦ closing (figures d cs).size cs | false ↦ is ErrorWrongNumber (figures d cs).size ])
    go true = closing_kind (figures d cs).size cs
    go false = refl

dollar_kind : (n : Option ℕ) → Usual (dollar_lexeme n)
dollar_kind none = refl
dollar_kind (some n) = refl

-- each rule but that of the operators
pub read_usual : (r : Rule) (d : Bool) (c : Char) (cs : List Char) → Usual (read r d c cs) ⊎ (r ≡ others)
unfolding read
read_usual spaces d c cs = inl refl
read_usual dashes d c cs = inl refl
read_usual slash_star d c cs = inl (simp (either, either_above, either_is, same))
read_usual numeral d c cs = inl (number_kind d (c ∷ cs))
read_usual letters d c cs = inl refl
read_usual quoted d c cs = inl (simp (either, either_above, either_is, same))
read_usual double_quoted d c cs = inl (simp (either, either_above, either_is, same))
read_usual back_quoted d c cs = inl (simp (either, either_above, either_is, same))
read_usual curly_quoted d c cs = inl (simp (either, either_above, either_is, same))
read_usual curly_double_quoted d c cs = inl (simp (either, either_above, either_is, same))
read_usual dollars d c cs = inl (dollar_kind (here_doc cs))
read_usual others d c cs = inr refl

read_kind : (r : Rule) (d : Bool) (c : Char) (cs : List Char) → Known (read r d c cs)
unfolding read
read_kind r d c cs = go (read_usual r d c cs)
  where
    go : Usual (read r d c cs) ⊎ (r ≡ others) → Known (read r d c cs)
    go (inl u) = and_left (saved_kind (read r d c cs).kind) (not (delimiter (read r d c cs).kind)) u
    go (inr e) = subst (λ (r : Rule). Known (read r d c cs)) (sym e) (operator_kind c cs)

pub kind_saved : (d : Bool) (b : ℕ) (s : List ℕ) → saved_kind (lexeme d (b ∷ s)).kind ≡ true
unfolding lexeme_of chars_after
kind_saved d b s = let c = char_at (b ∷ s) in let cs = chars_after (width c - 1) s in read_kind (rule c.code (first cs)) d c cs

kind_most : (k : ℕ) → saved_kind k ≡ true → k ≤ ErrorToken
kind_most k e = (within-true Whitespace ErrorToken k (and_left (within Whitespace ErrorToken k) (not (eqb k EndOfStream)) e)).1

pub kind_known : (d : Bool) (s : List ℕ) → (lexeme d s).kind ≤ ErrorMaxQuerySizeExceeded
unfolding lexeme_of
kind_known d s = go (chars s)
  where
    go : (cs : List Char) → (lexeme_of d cs).kind ≤ ErrorMaxQuerySizeExceeded
    go [] = omega arith
    go (c ∷ cs) = omega (arith, kind_most (read (rule c.code (first cs)) d c cs).kind (read_kind (rule c.code (first cs)) d c cs))
