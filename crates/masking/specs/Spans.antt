-- A token by its first byte and the byte after its last.
use Rattle.std.specs.Prelude.{ℕ, ◌+◌, ◌-◌, ◌≤◌, ◌<◌, ◌≡◌, List, true, length, take, drop}
use Rattle.rules.specs.Kinds.{hiding_kind}
use Rattle.rules.specs.Masking.{front, back}

-- Its bytes.
abbrev pub bytes_of : List ℕ → ℕ → ℕ → List ℕ
bytes_of s start end = take (end - start) (drop start s)

-- It has at least one byte, and lies in the text.
abbrev pub Span : List ℕ → ℕ → ℕ → Type 0
Span s start end = (start < end) × (end ≤ length s)

-- It hides bytes: what it keeps at its front and at its back does not meet.
pub record Hiding (kind : ℕ) (s : List ℕ) (start end : ℕ) : Type 0 where
  pub span : Span s start end
  pub hides : hiding_kind kind ≡ true
  pub apart : front kind (bytes_of s start end) + back kind (bytes_of s start end) ≤ end - start
