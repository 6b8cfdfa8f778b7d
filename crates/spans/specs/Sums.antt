-- What the places are added up from, byte by byte.
use Rattle.std.specs.Prelude.{ℕ, zero, suc, ◌+◌, ◌-◌, ◌≤◌, ◌<◌, ◌≡◌, List, ◌⊎◌, Bool, not, cond, ◌&&◌, ◌||◌, leb, eqb, length, get_or, drop}
use Rattle.rules.specs.Utf8.{within, utf8_tail, utf8_two, width, char_at}
use Rattle.rules.specs.Places.{units, ends_line}
use Rattle.spans.specs.declared.places.Mark.{Mark}
use Rattle.spans.specs.declared.places.Mark.TheVariants.{End, Lead, Two, Three, Four}

-- The sum of a function over n indices, from i on.
unfoldable pub sum_over : (ℕ → ℕ) → ℕ → ℕ → ℕ
sum_over f i zero = 0
sum_over f i (suc n) = sum_over f i n + f (i + n)

-- From one index to another.
abbrev pub between : (ℕ → ℕ) → ℕ → ℕ → ℕ
between f i j = sum_over f i (j - i)

-- 1 where a test holds
abbrev pub bit : Bool → ℕ
bit test = cond test 1 0

-- 1 where a line ends with the byte.
abbrev pub end_at : List ℕ → ℕ → ℕ
end_at s i = bit (ends_line (get_or s i 0) (get_or s (i + 1) 0))

-- What the character at an index has more of bytes than of units. At a byte inside of a character that is nothing.
abbrev pub surplus_at : List ℕ → ℕ → ℕ
surplus_at s i = width (char_at (drop i s)) - units (char_at (drop i s))

-- A second byte that goes on with what the first begins: a tail, which E0, ED, F0 and F4 bound more.
abbrev pub goes_on : ℕ → ℕ → Bool
goes_on a b =
    (leb 0xC2 a && utf8_tail b)
    && (((not (eqb a 0xE0) || leb 0xA0 b) && (not (eqb a 0xED) || not (leb 0xA0 b))) && (leb a 0xF4 && ((not (eqb a 0xF0) || leb 0x90 b) && (not (eqb a 0xF4) || not (leb 0x90 b)))))

-- What a character has more of bytes than of units, by its first three bytes: whole ones of four bytes have two units, and so as much as cut ones of three.
abbrev pub surplus_by : ℕ → ℕ → ℕ → ℕ
surplus_by a b c = bit (goes_on a b) + bit ((goes_on a b && leb 0xE0 a) && utf8_tail c)

-- What a mark says of a byte and the two after it.
unfoldable pub marked : Mark → ℕ → ℕ → ℕ → Bool
marked End a b c = ends_line a b
marked Lead a b c = leb 0xC2 a
marked Two a b c = utf8_two a b
marked Three a b c = (leb 0xE1 a && not (eqb a 0xED)) && (utf8_tail b && utf8_tail c)
marked Four a b c = (eqb a 0xF0 && within 0x90 0xBF b) && utf8_tail c

-- 1 where the byte is marked.
abbrev pub mark_at : Mark → List ℕ → ℕ → ℕ
mark_at mark s i = bit (marked mark (get_or s i 0) (get_or s (i + 1) 0) (get_or s (i + 2) 0))

-- Each byte between two indices is between two others.
pub record Within (s : List ℕ) (from upto least most : ℕ) : Type 0 where
  pub low : (k : ℕ) → from ≤ k → k < upto → least ≤ get_or s k 0
  pub high : (k : ℕ) → from ≤ k → k < upto → get_or s k 0 ≤ most

-- Of the bytes between two indices no line ends with one from r on, and one ends with the byte before r, unless there is none. From r on the
-- characters have n bytes more than units.
pub record Starts (s : List ℕ) (from upto r n : ℕ) : Type 0 where
  pub low : from ≤ r
  pub high : r ≤ upto
  pub none : between (end_at s) r upto ≡ 0
  pub after : from < r → end_at s (r - 1) ≡ 1
  pub more : n ≡ between (surplus_at s) r upto

-- No character goes on past e, and the offset is e or lies inside the character at e.
pub record Edge (s : List ℕ) (offset e : ℕ) : Type 0 where
  pub low : e ≤ offset
  pub whole : (p : ℕ) → p < e → p + width (char_at (drop p s)) ≤ e
  pub inside : (e ≡ offset) ⊎ ((e < length s) × (offset < e + width (char_at (drop e s))))
