-- What a text has at a position, in the code's own enum; and what it is for a text to be well-formed from one index to another.
use Rattle.std.specs.Prelude.{ℕ, zero, suc, ◌+◌, ◌≤◌, ◌≡◌, List, [], ◌∷◌, Bool, not, cond, ◌&&◌, ◌||◌, Option, Some, None, leb, eqb, length, get_or, drop}
use Rattle.rules.specs.Utf8.{within, utf8_tail, no_code, well_formed, broken_length, code_of, valid_length}
use Rattle.utf8.specs.declared.Unit.{Unit}
use Rattle.utf8.specs.declared.Unit.TheVariants.{Char, Broken, End}

-- A length, where 0 stands for none.
abbrev pub some_length : ℕ → Option ℕ
some_length zero = None
some_length (suc w) = Some (suc w)

-- A character of length w that a text begins with; a broken one where w is 0.
abbrev pub unit_of : ℕ → List ℕ → Unit
unit_of zero s = Broken (broken_length s)
unit_of (suc w) s = Char (code_of (suc w) s) (suc w)

-- What a text begins with.
unfoldable pub unit_at : List ℕ → Unit
unit_at [] = End
unit_at (b ∷ s) = unit_of (well_formed (b ∷ s)) (b ∷ s)

-- The code of a unit; of no character, a code past all of them.
abbrev pub unit_code : Unit → ℕ
unit_code (Char c n) = c
unit_code (Broken n) = no_code
unit_code End = no_code

-- The bytes of a unit.
abbrev pub unit_len : Unit → ℕ
unit_len (Char c n) = n
unit_len (Broken n) = n
unit_len End = 0

-- The text is well-formed from i to j: what is valid from i on ends where what is valid from j on does.
pub record Passes (s : List ℕ) (i j : ℕ) : Type 0 where
  pub from : i ≤ j
  pub upto : j ≤ length s
  pub rest : valid_length (drop i s) + i ≡ valid_length (drop j s) + j

-- Past at most n tails from i on: where a character begins next, if none has more.
abbrev pub after : ℕ → List ℕ → ℕ → ℕ
after zero s i = i
after (suc n) s i = cond (utf8_tail (get_or s i 0)) (after n s (i + 1)) i

-- A tail b may come after a: a tail, or the first of two bytes or of three. E0 and ED bound the second.
abbrev pub takes_tail : ℕ → ℕ → Bool
takes_tail a b = (utf8_tail a || within 0xC2 0xEF a) && ((not (eqb a 0xE0) || leb 0xA0 b) && (not (eqb a 0xED) || leb b 0x9F))
