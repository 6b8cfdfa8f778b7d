-- One token of a text and its masked copy: what the proof of `relex` asks of each rule.
use Prim.Native.Nat.{ℕ, ◌+◌, ◌≤◌}
use mathlib.Core.Path.{◌≡◌}
use mathlib.Core.List.{List, [], ◌∷◌, ◌++◌}
use mathlib.Core.Bool.{Bool, true, false}
use Rattle.rules.specs.Utf8.{Char, width}
use Rattle.rules.specs.Classes.{digit}
use Rattle.rules.specs.Lexeme.{first, is}
use Rattle.rules.specs.Tokens.{lexeme_of, is_dot}
use Rattle.rules.specs.Masking.{front, back, mask_token}
use Rattle.rules.proofs.Reading.{flatten, widths}
use Rattle.rules.proofs.Masks.{Masks, Kept}

-- Whether the last byte is a dot; d where there is none.
abbrev pub last_dot : Bool → List ℕ → Bool
last_dot d [] = d
last_dot d (b ∷ s) = last_dot (is_dot b) s

-- cs begins with the token head ∷ body, of which the masked copy is head ∷ dark.
pub record Step (dot : Bool) (cs : List Char) : Type 0 where
  pub head : Char
  pub body : List Char
  pub tail : List Char
  pub kind : ℕ
  pub dark : List Char
  pub whole : cs ≡ head ∷ (body ++ tail)
  pub lexes : lexeme_of dot (head ∷ (body ++ tail)) ≡ is kind (width head + widths body)
  pub hides : mask_token kind (head.bytes ++ flatten body) ≡ head.bytes ++ flatten dark
  pub masks : Masks body dark
  pub again : (after : List Char) → Kept tail after → lexeme_of dot (head ∷ (dark ++ after)) ≡ is kind (width head + widths body)
  pub dots : digit (first tail) ≡ true → last_dot false (head.bytes ++ flatten dark) ≡ last_dot false (head.bytes ++ flatten body)
  pub fits : front kind (head.bytes ++ flatten body) + back kind (head.bytes ++ flatten body) ≤ width head + widths body
