-- A table of hashes of tags, and where a tag of each slot is last seen in a text. Only what is read of the table is defined: it may hold anything.
use Rattle.std.specs.Prelude.{◌≡◌, ℕ, zero, suc, ◌+◌, ◌*◌, ◌/◌, ◌%◌, ◌^◌, ◌<◌, ◌≤◌, Bool, true, false, List, [], ◌∷◌, length, drop, ◌==◌, slice_index, Option, MatchOption}
use Rattle.rules.specs.Characters.{dollar}
use Rattle.rules.specs.Dollars.{tag_byte}

-- A hash is looked for first at one of these, and then at up to 63 that follow.
abbrev pub slots : ℕ
slots = 81920

-- Behind them stand 32,768 words of bits, of which one says that a hash may be there.
abbrev pub filter_at : ℕ
filter_at = 81984

-- Behind these, two keys.
abbrev pub key_at : ℕ
key_at = 114752

abbrev pub table_size : ℕ
table_size = 114754

-- No slot.
abbrev pub no_slot : ℕ
no_slot = 114754

-- One byte more of a hash, with a key.
abbrev pub mixed : ℕ → ℕ → ℕ → ℕ
mixed k h b = h % 0x100000000 * k + h / 0x100000000 + b

-- The hash of a tag and of the byte after it, with two keys that take turns.
unfoldable pub hash_from : ℕ → ℕ → ℕ → List ℕ → ℕ
hash_from a b h [] = mixed b (mixed a h 0) 0
hash_from a b h (c ∷ s) = elim (tag_byte c) [ true ↦ hash_from b a (mixed a h c) s | false ↦ mixed b (mixed a h c) 0 ]

abbrev pub start_of : ℕ → ℕ
start_of h = h % 0x100000000 * slots / 0x100000000

abbrev pub word_of : ℕ → ℕ
word_of h = filter_at + h % 0x100000000 / 0x20000

-- The first of n places from i on that holds a number, unless an empty one comes first.
unfoldable pub probed : List ℕ → ℕ → ℕ → ℕ → ℕ
probed table f i zero = no_slot
probed table f i (suc n) =
    elim (slice_index table i == f) [ true ↦ i | false ↦ elim (slice_index table i == 0) [ true ↦ no_slot | false ↦ probed table f (i + 1) n ] ]

abbrev pub may_hold : List ℕ → ℕ → Bool
may_hold table h = slice_index table (word_of h) / 2 ^ (h / 0x1000 % 32) % 2 == 1

-- A place, or none where the number is no slot.
abbrev pub IsPlace : Option ℕ → ℕ → Type 0
IsPlace o n = MatchOption o (n ≡ no_slot) (λ i. (i ≡ n) × (i < filter_at))

-- The slot of a hash.
unfoldable pub slot_of : List ℕ → ℕ → ℕ
slot_of table h = elim (may_hold table h) [ true ↦ probed table (h / 0x100000000) (start_of h) 64 | false ↦ no_slot ]

-- The slot of a tag.
abbrev pub slot_from : List ℕ → List ℕ → ℕ
slot_from table s = slot_of table (hash_from (slice_index table key_at) (slice_index table (key_at + 1)) (slice_index table key_at) s)

-- The slot of the `$` at an offset.
abbrev pub slot_at : List ℕ → List ℕ → ℕ → ℕ
slot_at s table at = slot_from table (drop (at + 1) s)

-- No `$` from an offset on, before another, stands beyond what is noted for its slot.
pub record Seen (s : List ℕ) (from : ℕ) (table last : List ℕ) (to : ℕ) : Type 0 where
  pub seen : (at : ℕ) → from ≤ at → at < to → slice_index s at ≡ dollar → slot_at s table at < length last → at ≤ slice_index last (slot_at s table at)
