-- One character of a run.
use Rattle.std.specs.Prelude.{ℕ, ◌+◌, ◌≤◌, ◌≡◌, List, Bool, length, drop}
use Rattle.rules.specs.Utf8.{chars}
use Rattle.rules.specs.Lexeme.{run}

-- The run of a class from i on goes over n bytes of the text, and on after them; where n is 0, the run is empty.
pub record Step (p : ℕ → Bool) (s : List ℕ) (i n : ℕ) : Type 0 where
  pub goes : (n ≡ 0 → ⊥) → (run p (chars (drop i s)) ≡ n + run p (chars (drop (i + n) s))) × (i + n ≤ length s)
  pub stops : n ≡ 0 → run p (chars (drop i s)) ≡ 0
