-- The eight bytes as std reads them and as `packed` does. Assumes nothing.
use Rattle.std.proofs.Common.{◌≡◌, ℕ, ◌+◌, ap, arith, get_or}
use Rattle.runs.specs.Lanes.{packed}
use Rattle.runs.proofs.eight.Goals as goal

pub returns : goal.returns
unfolding packed
returns c =
    let s = c.args.text.now in
    let i = c.args.i in
    let at : (j k : ℕ) → j ≡ k → get_or s j 0 ≡ get_or s k 0 = λ j k e. ap (λ n. get_or s n 0) e in
    omega (
      arith,
      c.from_le_bytes.ensures,
      at (i + 1 + 1) (i + 2) (omega arith),
      at (i + 1 + 1 + 1) (i + 3) (omega arith),
      at (i + 1 + 1 + 1 + 1) (i + 4) (omega arith),
      at (i + 1 + 1 + 1 + 1 + 1) (i + 5) (omega arith),
      at (i + 1 + 1 + 1 + 1 + 1 + 1) (i + 6) (omega arith),
      at (i + 1 + 1 + 1 + 1 + 1 + 1 + 1) (i + 7) (omega arith),
    )
