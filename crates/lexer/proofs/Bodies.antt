-- A loop over a body, which F reads: closed, it has one kind, else another. Assumes nothing.
use Prim.Native.Nat.{ℕ, ◌+◌, ◌≤◌, ◌<◌}
use native.Mathlib.Omega.{arith}
use mathlib.Core.Path.{◌≡◌, refl, sym, ap, ◌∙◌}
use mathlib.Core.List.{List, []}
use mathlib.Core.Bool.{false, not, ◌&&◌}
use lib.ListN.{length, get_or, drop}
use lib.Dec.{eqb}
use borrow.Author.Tests.{eqb-false}
use Rattle.rules.specs.Utf8.{Char, chars}
use Rattle.rules.specs.Characters.{backslash}
use Rattle.rules.specs.Quotes.{quoted_body}
use Rattle.rules.specs.Lexeme.{Body, further, closed_by, open_to, enclosed}
use Rattle.rules.proofs.Decoding.{chars_end}
use Rattle.rules.proofs.Bodies.{quoted_at}
use Rattle.runs.specs.Classes.{Skips}
use Rattle.lexer.specs.declared.token.Lexed.{Lexed}
use Rattle.lexer.specs.Ends.{ends_at}
use Rattle.lexer.proofs.Skips.{over, neither}

-- what there is to answer from i on
abbrev pub reading : (List Char → Body) → List ℕ → ℕ → ℕ → ℕ → Lexed
reading F s kind error i = ends_at i (enclosed 0 (F (chars (drop i s))) kind error)

-- Where a loop that began at `at` has come to i, by what F says there: it goes on over n bytes, or answers.
pub record Turn (F : List Char → Body) (s : List ℕ) (kind error at i : ℕ) : Type 0 where
  pub goes : (n : ℕ) → F (chars (drop i s)) ≡ further n (F (chars (drop (i + n) s))) → reading F s kind error (i + n) ≡ reading F s kind error at
  pub shuts : (n : ℕ) → F (chars (drop i s)) ≡ closed_by n → record { kind = kind; end = i + n } ≡ reading F s kind error at
  pub cuts : (n : ℕ) → F (chars (drop i s)) ≡ open_to n → record { kind = error; end = i + n } ≡ reading F s kind error at
  pub ends : F [] ≡ open_to 0 → length s ≤ i → record { kind = error; end = i } ≡ reading F s kind error at

-- The loop keeps what there is to answer.
module _ (F : List Char → Body) (s : List ℕ) (kind error at i : ℕ) (kept : reading F s kind error i ≡ reading F s kind error at) where
  by : (b : Body) (m : ℕ) → F (chars (drop i s)) ≡ b → m ≡ i + b.bytes → record { kind = (enclosed 0 b kind error).kind; end = m } ≡ reading F s kind error at
  by b m e h =
      ap (λ (m : ℕ). record { kind = (enclosed 0 b kind error).kind; end = m }) (omega arith) ∙ sym (ap (λ (b : Body). ends_at i (enclosed 0 b kind error)) e) ∙ kept

  pub turn : Turn F s kind error at i
  turn =
      record {
        goes = λ n e. by (further n (F (chars (drop (i + n) s)))) (i + n + (0 + (F (chars (drop (i + n) s))).bytes)) e (omega arith);
        shuts = λ n e. by (closed_by n) (i + n) e refl;
        cuts = λ n e. by (open_to n) (i + n) e refl;
        ends = λ e h. by (open_to 0) i (ap F (chars_end s i h) ∙ e) (omega arith);
      }

-- in quotes, bytes that are neither the quote nor a backslash are skipped
pub quoted_over :
    (q : ℕ) → 0 < q → q < 0x80 → (q ≡ backslash → ⊥) → (s : List ℕ) (kind error at i j : ℕ) → Skips (λ x. not (eqb x q) && not (eqb x backslash)) s i j
    → reading (quoted_body q false) s kind error i ≡ reading (quoted_body q false) s kind error at
    → reading (quoted_body q false) s kind error j ≡ reading (quoted_body q false) s kind error at
quoted_over q some small other s kind error at i j =
    over (λ k. reading (quoted_body q false) s kind error k ≡ reading (quoted_body q false) s kind error at) (λ x. not (eqb x q) && not (eqb x backslash)) s i j (λ k h e w.
    let n = neither (get_or s k 0) q backslash e in
    (turn (quoted_body q false) s kind error at k w).goes 1
    ((quoted_at q some small other s k h).pass (eqb-false (get_or s k 0) backslash n.1) (eqb-false (get_or s k 0) q n.0)))
