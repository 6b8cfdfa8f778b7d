-- The classes by the code's tests: ASCII's white space by comparisons, its word bytes by one bit of a mask, other words by the tables.
-- Assumes nothing.
use Prim.Native.Nat.{ℕ, zero, suc, ◌+◌, ◌/◌, ◌%◌, ◌^◌, ◌≤◌, ◌<◌}
use native.Mathlib.Omega.{arith}
use native.Mathlib.Nat.{eq-or-lt_of_le}
use mathlib.Core.Logic.{⊎_elim}
use mathlib.Core.Path.{◌≡◌, refl, sym, ap, ◌∙◌}
use mathlib.Core.Bool.{Bool, true, false, ◌&&◌, ◌||◌, and-false}
use lib.Dec.{ltb, eqb}
use borrow.Author.Tests.{ne_eqb, lt-leb, ltb-true, ltb-false, lt-ltb}
use Rattle.rules.specs.Utf8.{within, no_code}
use Rattle.rules.specs.Characters.{underscore}
use Rattle.rules.specs.Tables.{alphabetic_table, numeric_table}
use Rattle.rules.specs.Classes.{in_ranges, white_space, alphabetic, numeric, alphanumeric}
use Rattle.rules.specs.Words.{word_character}
use Rattle.rules.specs.Numbers.{number_word}
use Rattle.rules.specs.Dollars.{tag_byte}
use Rattle.rules.proofs.Tests.{and_both}
use Rattle.rules.proofs.Tables.{agree_at, ascii_space, alphanumeric_none}
use Rattle.lexer.specs.Words.{word_with, word_mask}

pub ascii_agree : (p q : ℕ → Bool) → ((b : ℕ) → b < 0x80 → p b ≡ q b) → (b : ℕ) → (ltb b 0x80 && p b) ≡ (ltb b 0x80 && q b)
ascii_agree p q e b = go (ltb b 0x80) refl
  where
    go : (t : Bool) → ltb b 0x80 ≡ t → (t && p b) ≡ (t && q b)
    go true h = e b (ltb-true b 0x80 h)
    go false h = refl

pub space_byte : (b : ℕ) → (ltb b 0x80 && white_space b) ≡ (eqb b 0x20 || within 0x09 0x0D b)
space_byte b = go (ltb b 0x80) refl
  where
    go : (t : Bool) → ltb b 0x80 ≡ t → (t && white_space b) ≡ (eqb b 0x20 || within 0x09 0x0D b)
    go true h = ascii_space b (ltb-true b 0x80 h)
    go false h = let l = ltb-false b 0x80 h in simp (ne_eqb b 0x20 (λ e. omega arith), lt-leb b 0x0D (omega arith), and-false)

pub word_none : (d : Bool) → word_with d no_code ≡ false
word_none true = rw alphanumeric_none
word_none false = rw alphanumeric_none

-- Each number of a range is a letter: computed at all of them.
abbrev lettered : ℕ → ℕ → Bool
lettered lo zero = true
lettered lo (suc n) = alphabetic (lo + n) && lettered lo n

pub alphabetic_from : (lo n : ℕ) → lettered lo n ≡ true → (c : ℕ) → lo ≤ c → c < lo + n → alphabetic c ≡ true
alphabetic_from lo zero h c l m = absurd (omega arith)
alphabetic_from lo (suc n) h c l k =
    let b = and_both (alphabetic (lo + n)) (lettered lo n) h in
    ⊎_elim (λ (e : c ≡ lo + n). rw e b.0) (λ m. alphabetic_from lo n b.1 c l m) (eq-or-lt_of_le (let u : c ≤ lo + n = omega arith in u))

pub alphabetic_word : (d : Bool) (c : ℕ) → alphabetic c ≡ true → word_with d c ≡ true
unfolding alphanumeric
alphabetic_word true c e = rw e
alphabetic_word false c e = rw e

abbrev bit : ℕ → ℕ → Bool
bit m b = eqb ((m / 2 ^ (b % 64)) % 2) 1

ascii_bit : (d : Bool) (b : ℕ) → b < 0x80 → bit (word_mask d b) b ≡ word_with d b
unfolding alphanumeric alphabetic numeric in_ranges alphabetic_table numeric_table
ascii_bit true = agree_at (λ b. bit (word_mask true b) b) number_word 0x80 refl
ascii_bit false = agree_at (λ b. bit (word_mask false b) b) word_character 0x80 refl

pub word_bit : (d : Bool) (b m : ℕ) → m ≡ word_mask d b → (ltb b 0x80 && bit m b) ≡ (ltb b 0x80 && word_with d b)
word_bit d b m e = ap (λ (m : ℕ). ltb b 0x80 && bit m b) e ∙ ascii_agree (λ b. bit (word_mask d b) b) (word_with d) (ascii_bit d) b

-- A tag's bytes are the word bytes of ASCII.
pub ascii_tag : (b : ℕ) → b < 0x80 → word_character b ≡ tag_byte b
unfolding alphanumeric alphabetic numeric in_ranges alphabetic_table numeric_table
ascii_tag = agree_at word_character tag_byte 0x80 refl

pub tag_word : (b : ℕ) → (ltb b 0x80 && word_with false b) ≡ tag_byte b
tag_word b = go (ltb b 0x80) refl
  where
    go : (t : Bool) → ltb b 0x80 ≡ t → (t && word_with false b) ≡ tag_byte b
    go true h = ascii_tag b (ltb-true b 0x80 h)
    go false h =
        let l = ltb-false b 0x80 h in
        simp (ne_eqb b underscore (λ e. omega arith), lt-leb b 0x5A (omega arith), lt-leb b 0x7A (omega arith), lt-leb b 0x39 (omega arith), and-false)

-- a test that only ASCII passes, of a byte of ASCII
pub below : (p : ℕ → Bool) (a : ℕ) → a < 0x80 → {r : Bool} → r ≡ (ltb a 0x80 && p a) → p a ≡ r
below p a l e = sym (e ∙ ap (λ (b : Bool). b && p a) (lt-ltb a 0x80 l))
