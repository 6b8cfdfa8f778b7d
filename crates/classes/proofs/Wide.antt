-- The two widest ranges of Alphabetic below U+10000. Assumes nothing.
use Rattle.std.proofs.Common.{◌≡◌, refl, ◌∙◌, ℕ, ◌+◌, ◌*◌, ◌≤◌, ◌<◌, List, true, length, get_or, arith}
use lib.Dec.{ltb}
use borrow.Author.Tests.{ltb-true}
use Rattle.rules.specs.Tables.{alphabetic_table}
use Rattle.rules.specs.Classes.{in_ranges, rises, alphabetic}
use Rattle.rules.proofs.Ranges.{in_order, odd, parity}
use Rattle.rules.proofs.Tables.{alphabetic-rises}

-- From one bound to the next of a table that rises.
between : (t : List ℕ) → rises t ≡ true → (k c : ℕ) → k + 1 < length t → get_or t k 0 ≤ c → c < get_or t (k + 1) 0 → in_ranges t c ≡ odd (k + 1)
between t r k c l a b =
    parity t c (k + 1) (record {
      inside = omega arith;
      below = λ m g. omega (arith, in_order t r m k (omega arith) (omega arith));
      above = λ m g g'. omega (arith, in_order t r (k + 1) m g g');
    })

-- Range number n of Alphabetic is from lo to hi, and the table is long enough to have it: computed.
abbrev Range : ℕ → ℕ → ℕ → Type 0
Range n lo hi = (get_or alphabetic_table (2 * n) 0 ≡ lo) × (get_or alphabetic_table (2 * n + 1) 0 ≡ hi) × (ltb (2 * n + 1) (length alphabetic_table) ≡ true)

number_346 : Range 346 0x4E00 0xA48D
unfolding alphabetic_table
number_346 = (refl, refl, refl)

number_390 : Range 390 0xAC00 0xD7A4
unfolding alphabetic_table
number_390 = (refl, refl, refl)

in_range : (n lo hi c : ℕ) → Range n lo hi → odd (2 * n + 1) ≡ true → lo ≤ c → c < hi → alphabetic c ≡ true
unfolding alphabetic
in_range n lo hi c r o l h =
    between alphabetic_table alphabetic-rises (2 * n) c (ltb-true (2 * n + 1) (length alphabetic_table) r.2) (omega (arith, r.0)) (omega (arith, r.1)) ∙ o

pub ideographs : (c : ℕ) → 0x4E00 ≤ c → c < 0xA48D → alphabetic c ≡ true
unfolding odd
ideographs c = in_range 346 0x4E00 0xA48D c number_346 refl

pub hangul : (c : ℕ) → 0xAC00 ≤ c → c < 0xD7A4 → alphabetic c ≡ true
unfolding odd
hangul c = in_range 390 0xAC00 0xD7A4 c number_390 refl
