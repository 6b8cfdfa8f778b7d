-- What a walk over a text's tokens gives.
use Rattle.std.specs.Prelude.{ℕ, ◌≤◌, ◌<◌, ◌≡◌, List, length, drop, Option, MatchOption}
use Rattle.rules.specs.Tokens.{lexeme, after_dot_at}
use Rattle.lexer.specs.declared.token.Lexed.{Lexed}
use Rattle.lexer.specs.declared.token.Token.{Token}
use Rattle.lexer.specs.Ends.{ends_at}
use Rattle.edges.specs.declared.walk.Walk.{Walk}

-- A walk over a text from an offset to a position: it stops there or before, and has moved unless it is to go to the position.
pub record Goes (s : List ℕ) (position from : ℕ) (w : Walk) : Type 0 where
  pub text : w.text.now ≡ s
  pub upto : w.stop ≤ position
  pub still : w.cursor ≤ from → w.stop ≡ position
  pub later : from ≤ w.cursor
  pub inside : w.cursor ≤ length s

-- The token at an offset comes, and ends at another one.
pub record Comes (s : List ℕ) (at : ℕ) (t : Token) (end : ℕ) : Type 0 where
  pub start : t.start ≡ at
  pub upto : t.end ≡ end
  pub lexed : (let r : Lexed = record { kind = t.kind; end = t.end } in r ≡ ends_at at (lexeme (after_dot_at s at) (drop at s)))
  pub moves : at < end
  pub inside : end ≤ length s

-- A step of a walk: none, at its stop, or the token at its cursor.
pub record Steps (w : Walk) (r : Option Token) (w' : Walk) : Type 0 where
  pub going : (s : List ℕ) (position from : ℕ) → Goes s position from w → Goes s position from w'
  pub token : (s : List ℕ) (position from : ℕ) → Goes s position from w
      → MatchOption r ((w'.cursor ≡ w.cursor) × (from < position → from < w'.cursor)) (λ t. (w.cursor < position) × Comes s w.cursor t w'.cursor)
