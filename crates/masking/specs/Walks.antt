-- How masking goes on, for the functions that do a part of it.
use Rattle.std.specs.Prelude.{ℕ, ◌≤◌, ◌<◌, ◌≡◌, List, ◌++◌, length, drop}
use Rattle.rules.specs.Tokens.{tokens_from}
use Rattle.rules.specs.Masking.{mask_tokens, masked}

-- Up to an offset a copy is masked, from there on it is the text, and what follows is as it was at first.
pub record Copied (s copy₀ copy : List ℕ) (i : ℕ) : Type 0 where
  pub done : List ℕ
  pub size : length done ≡ i
  pub bytes : copy ≡ done ++ (drop i s ++ drop (length s) copy₀)
  pub all : done ++ mask_tokens (tokens_from s i) (drop i s) ≡ masked s

-- The offset stays in the text, and moves if there is anything to do. A copy that was masked up to the one is then masked up to the other.
pub record MaskedOn (s : List ℕ) (from : ℕ) (copy : List ℕ) (to : ℕ) (copy' : List ℕ) : Type 0 where
  pub later : from ≤ to
  pub inside : to ≤ length s
  pub moved : from < length s → from < to
  pub len : length copy' ≡ length copy
  pub masks : (copy₀ : List ℕ) → length s ≤ length copy₀ → Copied s copy₀ copy from → Copied s copy₀ copy' to
