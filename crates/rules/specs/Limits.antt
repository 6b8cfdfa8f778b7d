-- The numbers of document 01 that a later request may change, each in one place.
use Rattle.std.specs.Prelude.{ℕ}
use Rattle.rules.specs.Characters.{hash}

-- "text over 1,000,000 bytes" is refused.
abbrev pub max_query_size : ℕ
max_query_size = 1000000

-- "A packed list holds 12 bytes a token".
abbrev pub token_bytes : ℕ
token_bytes = 12

-- "Each hidden byte becomes 23 hex."
abbrev pub mask_byte : ℕ
mask_byte = hash
