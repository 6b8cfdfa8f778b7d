-- A row of strides is one number. What its bytes are in all.
use Rattle.std.specs.Prelude.{ℕ, zero, suc, ◌+◌, ◌/◌, ◌%◌}

-- The n lowest bytes of a number in all.
unfoldable pub byte_sum : ℕ → ℕ → ℕ
byte_sum zero x = 0
byte_sum (suc n) x = x % 256 + byte_sum n (x / 256)
