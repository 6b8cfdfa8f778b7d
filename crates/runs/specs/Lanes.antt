-- Bytes as one number, and what is reckoned of all of them at once.
use Rattle.std.specs.Prelude.{ℕ, zero, suc, ◌+◌, ◌-◌, ◌*◌, List, [], ◌∷◌, Bool, cond, get_or}
use Rattle.std.specs.Int.Bits.{bit_and, bit_or, bit_xor}

-- 1 in each of n bytes.
unfoldable pub ones : ℕ → ℕ
ones zero = 0
ones (suc n) = ones n * 256 + 1

-- The n bytes from i on, the first lowest.
unfoldable pub packed : ℕ → List ℕ → ℕ → ℕ
packed zero s i = 0
packed (suc n) s i = packed n s (i + 1) * 256 + get_or s i 0

-- A byte below 80, raised so that its high bit says whether it is at least an edge: all such, joined by exclusive or.
unfoldable pub raised : ℕ → List ℕ → ℕ → ℕ
raised n [] y = 0
raised n (e ∷ es) y = bit_xor (y + (0x80 - e) * ones n) (raised n es y)

-- The high bit of each byte that is not inside the edges.
abbrev pub others : ℕ → List ℕ → ℕ → ℕ
others n es x = bit_and (bit_or (bit_xor (raised n es (bit_and x (0x7F * ones n))) (0x80 * ones n)) x) (0x80 * ones n)

-- The high bit of each byte that does not pass.
abbrev pub marks : Bool → ℕ → List ℕ → ℕ → ℕ
marks out n es x = bit_xor (others n es x) (cond out (0x80 * ones n) 0)
