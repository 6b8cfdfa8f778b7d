-- What is masked stays below 64 bits where it is put higher. Assumes nothing.
use Rattle.std.proofs.Common.{◌/◌, ◌^◌, arith}
use Rattle.std.specs.Int.Bits.{bit_xor, and_le_r}
use Rattle.blocks.specs.Turns.{swap}
use Rattle.blocks.proofs.turned.Goals as goal

pub overflow_mul-t : goal.overflow_mul-t
overflow_mul-t c = let t = c.args.t in omega (arith, and_le_r (bit_xor t (t / 2 ^ 7)) 0x00AA_00AA_00AA_00AA)

pub overflow_mul-t-2 : goal.overflow_mul-t-2
overflow_mul-t-2 c = let t = swap 7 0x00AA_00AA_00AA_00AA c.args.t in omega (arith, and_le_r (bit_xor t (t / 2 ^ 14)) 0x0000_CCCC_0000_CCCC)

pub overflow_mul-result : goal.overflow_mul-result
overflow_mul-result c = let t = swap 14 0x0000_CCCC_0000_CCCC (swap 7 0x00AA_00AA_00AA_00AA c.args.t) in omega (arith, and_le_r (bit_xor t (t / 2 ^ 28)) 0x0000_0000_F0F0_F0F0)
