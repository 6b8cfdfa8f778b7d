-- The three tables: each rises, which is computed over the whole of it, and what each class is below 128, which is computed at all 128.
-- Assumes nothing.
use Prim.Native.Nat.{ℕ, zero, suc, ◌+◌, ◌-◌, ◌≤◌, ◌<◌}
use mathlib.Core.Path.{◌≡◌, refl, sym, ◌∙◌}
use mathlib.Core.List.{List, [], ◌∷◌}
use mathlib.Core.Bool.{Bool, true, false, ◌&&◌, ◌||◌, beq, and-false, or_assoc, or-false}
use mathlib.Core.Logic.{⊎_elim}
use native.Mathlib.Omega.{arith}
use native.Mathlib.Nat.{not-suc-le-zero, le_of_suc-le-suc, eq-or-lt_of_le}
use borrow.Author.Tests.{le-ltb}
use lib.Dec.{leb, ltb, eqb, leb-zero, leb-suc-zero, leb-suc-suc, eqb-zero-suc, eqb-suc-zero, eqb-suc-suc}
use Rattle.rules.specs.Utf8.{within, no_code}
use Rattle.rules.specs.Tables.{white_space_table, alphabetic_table, numeric_table}
use Rattle.rules.specs.Classes.{in_ranges, rises, white_space, alphabetic, numeric, alphanumeric, letter, digit}
use Rattle.rules.proofs.Tests.{and_both, letter_small}

-- "They rise and never overlap."
pub white_space-rises : rises white_space_table ≡ true
unfolding rises white_space_table
white_space-rises = refl

pub alphabetic-rises : rises alphabetic_table ≡ true
unfolding rises alphabetic_table
alphabetic-rises = refl

pub numeric-rises : rises numeric_table ≡ true
unfolding rises numeric_table
numeric-rises = refl

-- Rule 1: "25 of them; U+200B and U+FEFF are not".
abbrev pub characters : List ℕ → ℕ
characters [] = 0
characters (lo ∷ []) = 0
characters (lo ∷ hi ∷ t) = (hi - lo) + characters t

pub white_space-count : characters white_space_table ≡ 25
unfolding white_space_table
white_space-count = refl

pub no_space : (white_space 0x200B ≡ false) × (white_space 0xFEFF ≡ false)
unfolding white_space in_ranges white_space_table
no_space = (refl, refl)

-- The code of a broken character is of no class.
pub white_space_none : white_space no_code ≡ false
unfolding white_space in_ranges white_space_table
white_space_none = refl

pub alphabetic_none : alphabetic no_code ≡ false
unfolding alphabetic in_ranges alphabetic_table
alphabetic_none = refl

pub numeric_none : numeric no_code ≡ false
unfolding numeric in_ranges numeric_table
numeric_none = refl

pub alphanumeric_none : alphanumeric no_code ≡ false
unfolding alphanumeric
alphanumeric_none = cc (alphabetic_none, numeric_none)

-- Two tests that agree at each number below n: computed, and then known of any one.
abbrev pub agree : (ℕ → Bool) → (ℕ → Bool) → ℕ → Bool
agree f g zero = true
agree f g (suc n) = beq (f n) (g n) && agree f g n

beq_eq : (a b : Bool) → beq a b ≡ true → a ≡ b
beq_eq true true h = refl
beq_eq true false h = sym h
beq_eq false true h = h
beq_eq false false h = refl

pub agree_at : (f g : ℕ → Bool) (n : ℕ) → agree f g n ≡ true → (c : ℕ) → c < n → f c ≡ g c
agree_at f g zero h c l = absurd (not-suc-le-zero l)
agree_at f g (suc n) h c l =
    let b = and_both (beq (f n) (g n)) (agree f g n) h in
    ⊎_elim (λ (e : c ≡ n). rw e (beq_eq (f n) (g n) b.0)) (λ m. agree_at f g n b.1 c m)
    (eq-or-lt_of_le (le_of_suc-le-suc l))

pub ascii_space : (c : ℕ) → c < 128 → white_space c ≡ (eqb c 0x20 || within 0x09 0x0D c)
unfolding white_space in_ranges white_space_table
ascii_space = agree_at white_space (λ c. eqb c 0x20 || within 0x09 0x0D c) 128 refl

single : (a c : ℕ) → (leb a c && ltb c (suc a)) ≡ eqb c a
single zero zero = refl
single zero (suc c) = rw (leb-zero, leb-suc-suc, leb-suc-zero, eqb-suc-zero)
single (suc a) zero = simp (leb-suc-zero, eqb-zero-suc)
single (suc a) (suc c) = simp (leb-suc-suc, eqb-suc-suc) (simp leb-suc-suc at (single a c))

-- Past ASCII: the ranges that are left, six of which hold one character.
pub later_space :
    (c : ℕ) → 128 ≤ c
    → white_space c
    ≡ (eqb c 0x85
    || eqb c 0xA0
    || eqb c 0x1680
    || leb 0x2000 c && ltb c 0x200B
    || leb 0x2028 c && ltb c 0x202A
    || eqb c 0x202F
    || eqb c 0x205F
    || eqb c 0x3000)
unfolding white_space in_ranges white_space_table
later_space c l =
    simp (
      le-ltb c 0x0E (omega arith),
      le-ltb c 0x21 (omega arith),
      and-false,
      single 0x85 c,
      single 0xA0 c,
      single 0x1680 c,
      single 0x202F c,
      single 0x205F c,
      single 0x3000 c,
      or_assoc,
      or-false,
    )

pub ascii_alphabetic : (c : ℕ) → c < 128 → alphabetic c ≡ letter c
unfolding alphabetic in_ranges alphabetic_table
ascii_alphabetic = agree_at alphabetic letter 128 refl

pub ascii_numeric : (c : ℕ) → c < 128 → numeric c ≡ digit c
unfolding numeric in_ranges numeric_table
ascii_numeric = agree_at numeric digit 128 refl

pub ascii_alphanumeric : (c : ℕ) → c < 128 → alphanumeric c ≡ (letter c || digit c)
unfolding alphanumeric
ascii_alphanumeric c h = rw (ascii_alphabetic c h, ascii_numeric c h)

-- ASCII's letters are below 128, and so of Unicode's classes.
pub letter-alphabetic : (c : ℕ) → letter c ≡ true → alphabetic c ≡ true
letter-alphabetic c h = ascii_alphabetic c (letter_small c h) ∙ h

pub letter-alphanumeric : (c : ℕ) → letter c ≡ true → alphanumeric c ≡ true
unfolding alphanumeric
letter-alphanumeric c h = rw (letter-alphabetic c h)
