-- The code of the Unicode quote of the bytes E2 80 last.
use Rattle.std.specs.Prelude.{ℕ, ◌+◌, ◌%◌}

abbrev pub curly_close : ℕ → ℕ
curly_close last = 0x2000 + last % 64
