-- The token that a text begins with: which of the rules 1 to 7 reads it, by its first two characters; and the full list.
use Rattle.std.specs.Prelude.{ℕ, zero, suc, ◌+◌, ◌-◌, List, [], ◌∷◌, Bool, false, cond, get_or, drop, eqb}
use Rattle.rules.specs.Utf8.{Char, width, chars}
use Rattle.rules.specs.Classes.{white_space, digit}
use Rattle.rules.specs.Characters.{double_quote, dollar, quote, star, dash, dot, slash, back_quote, quote_open, quote_close, double_quote_open, double_quote_close}
use Rattle.rules.specs.Kinds.{StringToken, QuotedIdentifier, EndOfStream, ErrorSingleQuoteIsNotClosed, ErrorDoubleQuoteIsNotClosed, ErrorBackQuoteIsNotClosed}
use Rattle.rules.specs.Lexeme.{first, two, Lexeme, is, enclosed}
use Rattle.rules.specs.Spaces.{white_space_run, line_comment, nested_comment}
use Rattle.rules.specs.Operators.{operator}
use Rattle.rules.specs.Words.{starts_word, bare_word}
use Rattle.rules.specs.Quotes.{quoted_body, up_to}
use Rattle.rules.specs.Dollars.{here_doc, dollar_lexeme}
use Rattle.rules.specs.Numbers.{number}

-- Which rule reads a token.
pub data Rule : Type 0 where
  spaces dashes slash_star numeral letters quoted double_quoted back_quoted curly_quoted curly_double_quoted dollars others : Rule

unfoldable pub rule : ℕ → ℕ → Rule
rule a b =
    cond (white_space a) spaces
    (cond (two a b dash dash) dashes
    (cond (two a b slash star) slash_star
    -- 6.1: "Numbers start with an ASCII digit."
    (cond (digit a) numeral
    (cond (starts_word a) letters
    -- 4.1: "Quotes `'`, `"`, `` ` ``"
    (cond (eqb a quote) quoted
    (cond (eqb a double_quote) double_quoted
    (cond (eqb a back_quote) back_quoted
    (cond (eqb a quote_open) curly_quoted
    (cond (eqb a double_quote_open) curly_double_quoted
    (cond (eqb a dollar) dollars others))))))))))

-- The lexeme of the character c and those after it; `after_dot`: the byte before is a dot.
-- 4.3: "`'` and U+2018 give StringToken, the others QuotedIdentifier."
-- 4.4: "Unclosed runs to the end with its error kind; the Unicode pairs share 41 and 42."
unfoldable pub read : Rule → Bool → Char → List Char → Lexeme
read spaces after_dot c cs = white_space_run (c ∷ cs)
read dashes after_dot c cs = line_comment (c ∷ cs)
read slash_star after_dot c cs = nested_comment (drop 1 cs)
read numeral after_dot c cs = number after_dot (c ∷ cs)
read letters after_dot c cs = bare_word (c ∷ cs)
read quoted after_dot c cs = enclosed (width c) (quoted_body quote false cs) StringToken ErrorSingleQuoteIsNotClosed
read double_quoted after_dot c cs = enclosed (width c) (quoted_body double_quote false cs) QuotedIdentifier ErrorDoubleQuoteIsNotClosed
read back_quoted after_dot c cs = enclosed (width c) (quoted_body back_quote false cs) QuotedIdentifier ErrorBackQuoteIsNotClosed
read curly_quoted after_dot c cs = enclosed (width c) (up_to quote_close cs) StringToken ErrorSingleQuoteIsNotClosed
read curly_double_quoted after_dot c cs = enclosed (width c) (up_to double_quote_close cs) QuotedIdentifier ErrorDoubleQuoteIsNotClosed
read dollars after_dot c cs = dollar_lexeme (here_doc cs)
read others after_dot c cs = operator c cs

-- "a step at the end gives [EndOfStream] at length..length"
unfoldable pub lexeme_of : Bool → List Char → Lexeme
lexeme_of after_dot [] = is EndOfStream 0
lexeme_of after_dot (c ∷ cs) = read (rule c.code (first cs)) after_dot c cs

-- The lexeme that a text begins with.
abbrev pub lexeme : Bool → List ℕ → Lexeme
lexeme after_dot s = lexeme_of after_dot (chars s)

-- A token: its kind, and the offsets of its first byte and of the first byte after it.
pub record Token : Type 0 where
  pub kind : ℕ
  pub start : ℕ
  pub end : ℕ

abbrev pub token : ℕ → ℕ → ℕ → Token
token k from to = record { kind = k; start = from; end = to }

-- The token of a lexeme that starts at an offset.
abbrev pub placed : ℕ → Lexeme → Token
placed at l = token l.kind at (at + l.size)

abbrev pub is_dot : ℕ → Bool
is_dot b = eqb b dot

-- The tokens of s, which stands at offset `at`; `skip` more bytes of it belong to a token that is read already.
unfoldable pub tokens_after : Bool → ℕ → ℕ → List ℕ → List Token
tokens_after after_dot at skip [] = []
tokens_after after_dot at zero (b ∷ s) =
    let l = lexeme after_dot (b ∷ s) in
    placed at l ∷ tokens_after (is_dot b) (suc at) (l.size - 1) s
tokens_after after_dot at (suc skip) (b ∷ s) = tokens_after (is_dot b) (suc at) skip s

-- "Whole listing", full. "EndOfStream is stored in no other list".
abbrev pub tokens : List ℕ → List Token
tokens s = tokens_after false 0 0 s

-- 6.4: "the byte before is `.`", of a cursor.
abbrev pub after_dot_at : List ℕ → ℕ → Bool
after_dot_at s zero = false
after_dot_at s (suc i) = is_dot (get_or s i 0)

-- "One token at a cursor."
unfoldable pub token_at : List ℕ → ℕ → Token
token_at s cursor = placed cursor (lexeme (after_dot_at s cursor) (drop cursor s))

-- The tokens from a cursor on.
unfoldable pub tokens_from : List ℕ → ℕ → List Token
tokens_from s cursor = tokens_after (after_dot_at s cursor) cursor 0 (drop cursor s)
