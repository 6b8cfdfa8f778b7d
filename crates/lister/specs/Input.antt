-- What standard input gave.
use Rattle.std.specs.Prelude.{ℕ, ◌≡◌, ◌<◌, List, length, take, ⊤, Option, Some, None}
use Rattle.std.specs.Io.KnownBytes.{Consumes, IsAtEnd, Keeps}

-- How many bytes were read.
abbrev pub count_of : Option ℕ → ℕ
count_of (Some n) = n
count_of None = 0

-- One read of a reader that had the bytes `old` left, and has `new` left now, where these are known: the bytes that it gave stand at the part's start. It gave none only at the end or where the part has no room, and took none where it failed.
abbrev pub ReadSome : Option (List ℕ) → Option (List ℕ) → Option ℕ → List ℕ → Type 0
ReadSome old new (Some n) part = Consumes old new (take n part) × (n ≡ 0 → 0 < length part → IsAtEnd new)
ReadSome old new None part = Keeps old new

-- All that was read stands at the text's start, and where the text has room left, that is all that there was.
abbrev pub ReadText : Option (List ℕ) → Option (List ℕ) → Option ℕ → List ℕ → Type 0
ReadText old new (Some n) text = Consumes old new (take n text) × (n < length text → IsAtEnd new)
ReadText old new None text = ⊤
