-- What the readers answer, in the code's own structs.
use Rattle.std.specs.Prelude.{ℕ, ◌+◌, ◌≤◌, ◌<◌, ◌≡◌, length, get_or, drop, List, [], ◌∷◌, Bool, false, if◌then◌else◌, Result, Ok, Err}
use Rattle.rules.specs.Utf8.{Char, char_at}
use Rattle.rules.specs.Classes.{white_space}
use Rattle.rules.specs.Kinds.{EndOfStream, ErrorToken}
use Rattle.rules.specs.Lexeme.{Lexeme, is}
use Rattle.rules.specs.Operators.{operator}
use Rattle.rules.specs.Numbers.{Opening, Figures}
use Rattle.rules.specs.Tokens.{Token, lexeme}
use Rattle.lexer.specs.declared.token.Token.{Token as CodeToken}
use Rattle.lexer.specs.declared.token.Lexed.{Lexed}
use Rattle.lexer.specs.declared.tokenizer.Opened.{Opened}

-- A lexeme that starts at an offset: its kind, and where it ends.
abbrev pub ends_at : ℕ → Lexeme → Lexed
ends_at at l = record { kind = l.kind; end = at + l.size }

-- How a number opens.
abbrev pub opened : Opening → Opened
opened o = record { hex = o.hex; size = o.size }

-- A part of a number that starts at an offset: where it ends, as an error where it does not end well.
abbrev pub part_at : ℕ → Figures → Result ℕ ℕ
part_at at f = if f.well then Ok (at + f.size) else Err (at + f.size)

-- The operator that a text begins with.
abbrev pub operator_at : List Char → Lexeme
operator_at [] = is EndOfStream 0
operator_at (c ∷ cs) = operator c cs

-- A character past ASCII, of so many bytes, at which no rule starts a token: it is no white space, and an ErrorToken by itself.
pub record Unruled (s : List ℕ) (at size : ℕ) : Type 0 where
  pub space : white_space (char_at (drop at s)).code ≡ false
  pub token : (d : Bool) → lexeme d (drop at s) ≡ is ErrorToken size

-- The bytes from i to j are there, and are ASCII.
pub record AsciiTo (s : List ℕ) (i j : ℕ) : Type 0 where
  pub from : i ≤ j
  pub upto : j ≤ length s
  pub ascii : (k : ℕ) → i ≤ k → k < j → get_or s k 0 < 0x80

-- A token.
abbrev pub token_of : Token → CodeToken
token_of t = record { kind = t.kind; start = t.start; end = t.end }
