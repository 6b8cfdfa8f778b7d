-- What a packed answer of a C function has room for: its number 8 bits, a small extra number 8, its value 48, or two numbers 28 each.
use Rattle.std.specs.Prelude.{ℕ, ◌^◌, ◌<◌}

abbrev pub number_end : ℕ
number_end = 2 ^ 8

abbrev pub extra_end : ℕ
extra_end = 2 ^ 8

abbrev pub value_end : ℕ
value_end = 2 ^ 48

abbrev pub half_end : ℕ
half_end = 2 ^ 28

-- A number and a value.
abbrev pub Fits : ℕ → ℕ → Type 0
Fits number value = (number < number_end) × (value < value_end)

-- With a small extra number.
abbrev pub FitsExtra : ℕ → ℕ → ℕ → Type 0
FitsExtra number extra value = (number < number_end) × (extra < extra_end) × (value < value_end)

-- A number and two more in place of a value.
abbrev pub FitsHalves : ℕ → ℕ → ℕ → Type 0
FitsHalves number first second = (number < number_end) × (first < half_end) × (second < half_end)
