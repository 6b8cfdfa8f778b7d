-- Eight bytes as eight rows of bits, turned so that the rows are columns.
use Rattle.std.specs.Prelude.{ℕ, ◌*◌, ◌/◌, ◌^◌}
use Rattle.std.specs.Int.Bits.{bit_and, bit_xor}

-- The bits of the mask change places with those k above them.
abbrev pub swap : ℕ → ℕ → ℕ → ℕ
swap k mask t = bit_xor (bit_xor t (bit_and (bit_xor t (t / 2 ^ k)) mask)) (bit_and (bit_xor t (t / 2 ^ k)) mask * 2 ^ k)

abbrev pub turn : ℕ → ℕ
turn t = swap 28 0x0000_0000_F0F0_F0F0 (swap 14 0x0000_CCCC_0000_CCCC (swap 7 0x00AA_00AA_00AA_00AA t))
