-- What the search for a here-document's end asks and answers.
use Rattle.std.specs.Prelude.{ℕ, ◌+◌, ◌≤◌, ◌<◌, ◌≡◌, List, true, false, length, get_or, Some, None}
use Rattle.std.specs.Prelude.{Option as CodeOption}
use Rattle.std.proofs.Math.Option.{Option, some, none}
use Rattle.rules.specs.Characters.{dollar}
use Rattle.rules.specs.Dollars.{tag_byte}

-- Each code is one of ASCII, and none is 0, as which a byte past the end reads.
abbrev pub Ascii : List ℕ → Type 0
Ascii d = (k : ℕ) → k < length d → (0 < get_or d k 0) × (get_or d k 0 < 0x80)

abbrev pub Delimiter : List ℕ → Type 0
Delimiter d = (get_or d 0 0 ≡ dollar) × Ascii d

-- The longest run of tag bytes at an offset ends at e.
pub record TagEnd (s : List ℕ) (at e : ℕ) : Type 0 where
  pub from : at ≤ e
  pub upto : e ≤ length s
  pub tags : (k : ℕ) → k < e → at ≤ k → tag_byte (get_or s k 0) ≡ true
  pub over : tag_byte (get_or s e 0) ≡ false

-- Where a delimiter of n bytes ends that was found from an offset on.
abbrev pub found_end : ℕ → ℕ → Option ℕ → CodeOption ℕ
found_end at n none = None
found_end at n (some m) = Some (at + m + n)
