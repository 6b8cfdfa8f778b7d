-- The marks of eight bytes are a row of bits. Assumes nothing.
use Prim.Native.Nat.{ℕ, zero, suc, ◌+◌, ◌*◌, ◌^◌, ◌<◌}
use native.Mathlib.Omega.{arith}
use mathlib.Core.Path.{◌≡◌, sym, ap, ◌∙◌}
use mathlib.Core.List.{List}
use mathlib.Core.Bool.{Bool, true, false, not, cond}
use lib.ListN.{get_or}
use lib.Bits.{bit_xor, xor_comm, xor_shifted, xor_zero_r}
use Rattle.runs.specs.Classes.{Ascii, inside}
use Rattle.runs.specs.Lanes.{packed, others, marks}
use Rattle.runs.proofs.Firsts.{lane, none}
use Rattle.blocks.specs.Edges.{outside}
use Rattle.blocks.proofs.Xors.{shl_linear}
use Rattle.blocks.proofs.Spans.{span, lanes, span_each}

module _ (es : List ℕ) (a : Ascii es) (s : List ℕ) (fits : (k : ℕ) → get_or s k 0 < 256) where
  marked : (n i : ℕ) → marks false n es (packed n s i) ≡ span (lanes n) (outside es s) i
  unfolding span lanes
  marked zero i = none false es a s fits i
  marked (suc n) i =
      lane false es a s fits n i
      ∙ ap (λ (x : ℕ). x * 256 + cond (inside es (get_or s i 0)) 0 0x80) (marked n (i + 1))
      ∙ go (inside es (get_or s i 0))
      ∙ ap (bit_xor (cond (outside es s i) 0x80 0)) (span_each (outside es s) (λ a. a * 2 ^ 8) (shl_linear 8 (omega arith)) (lanes n) (i + 1))
    where
      go : (t : Bool) → span (lanes n) (outside es s) (i + 1) * 256 + cond t 0 0x80 ≡ bit_xor (cond (not t) 0x80 0) (span (lanes n) (outside es s) (i + 1) * 2 ^ 8)
      go true = sym (xor_shifted (span (lanes n) (outside es s) (i + 1)) 8 0 (omega arith)) ∙ xor_comm (span (lanes n) (outside es s) (i + 1) * 2 ^ 8) 0
      go false = sym (xor_shifted (span (lanes n) (outside es s) (i + 1)) 8 0x80 (omega arith)) ∙ xor_comm (span (lanes n) (outside es s) (i + 1) * 2 ^ 8) 0x80

  pub row_of : (i m : ℕ) → m ≡ others 8 es (packed 8 s i) → m ≡ span (lanes 8) (outside es s) i
  row_of i m e = e ∙ sym (xor_zero_r (others 8 es (packed 8 s i))) ∙ marked 8 i
