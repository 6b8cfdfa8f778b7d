-- A set of offsets as the bits of a number, the first lowest.
use Rattle.std.specs.Prelude.{ℕ, zero, suc, ◌+◌, ◌*◌, Bool, cond}

-- Of the n offsets from p on, those of which f holds.
unfoldable pub set : ℕ → (ℕ → Bool) → ℕ → ℕ
set zero f p = 0
set (suc n) f p = set n f (p + 1) * 2 + cond (f p) 1 0
