-- Rule 2: brackets, punctuation and operators.
use Rattle.std.specs.Prelude.{ℕ, zero, suc, List, Bool, true, false, cond, ◌&&◌, ◌||◌, drop, eqb}
use Rattle.rules.specs.Utf8.{Char, width}
use Rattle.rules.specs.Characters.{exclamation, percent, round_open, round_close, star, plus, comma, dash, dot, slash, colon, semicolon, less, equals, greater, question, at, capital_g, square_open, backslash, square_close, caret, small_g, curly_open, bar, curly_close, minus_sign}
use Rattle.rules.specs.Kinds.{NoToken, OpeningRoundBracket, ClosingRoundBracket, OpeningSquareBracket, ClosingSquareBracket, OpeningCurlyBrace, ClosingCurlyBrace, Comma, Semicolon, Dot, Star, Plus, Minus, Arrow, Slash, Percent, QuestionMark, Colon, DoubleColon, Caret, Equals, Spaceship, NotEquals, Less, LessOrEquals, Greater, GreaterOrEquals, Concatenation, At, DoubleAt, VerticalDelimiter, ErrorSingleExclamationMark, ErrorSinglePipeMark, ErrorToken}
use Rattle.rules.specs.Lexeme.{first, two, Lexeme, is}

-- The kind of one character by itself.
unfoldable pub single : ℕ → ℕ
single c =
    -- 2.1: "One byte each: ( ) [ ] { } , ; . * + % ? ^"
    cond (eqb c round_open) OpeningRoundBracket
    (cond (eqb c round_close) ClosingRoundBracket
    (cond (eqb c square_open) OpeningSquareBracket
    (cond (eqb c square_close) ClosingSquareBracket
    (cond (eqb c curly_open) OpeningCurlyBrace
    (cond (eqb c curly_close) ClosingCurlyBrace
    (cond (eqb c comma) Comma
    (cond (eqb c semicolon) Semicolon
    (cond (eqb c dot) Dot
    (cond (eqb c star) Star
    (cond (eqb c plus) Plus
    (cond (eqb c percent) Percent
    (cond (eqb c question) QuestionMark
    (cond (eqb c caret) Caret
    -- 2.1: "so are - / : < > @ where no longer choice fits, as Minus, Slash, Colon, Less, Greater, At"
    (cond (eqb c dash) Minus
    (cond (eqb c slash) Slash
    (cond (eqb c colon) Colon
    (cond (eqb c less) Less
    (cond (eqb c greater) Greater
    (cond (eqb c at) At
    -- 2.2: "U+2212 is Minus."
    (cond (eqb c minus_sign) Minus
    -- 2.5: "`=` .. Equals"
    (cond (eqb c equals) Equals
    -- 2.6: "A lone `!` or `|` has its error kind; a lone backslash, and any character at which no rule starts a token, is ErrorToken".
    (cond (eqb c exclamation) ErrorSingleExclamationMark
    (cond (eqb c bar) ErrorSinglePipeMark
    ErrorToken)))))))))))))))))))))))

-- The kind of two characters together; NoToken where they are none.
unfoldable pub pair : ℕ → ℕ → ℕ
pair a b =
    -- 2.3: "`!=` and `<>` are NotEquals, .. the other pairs as their names say"
    cond (two a b exclamation equals) NotEquals
    (cond (two a b less greater) NotEquals
    -- 2.4: "Longest choices: `->`, `::`, `||`, `@@`, .. `<=`, .. `>=`, .."
    (cond (two a b dash greater) Arrow
    (cond (two a b colon colon) DoubleColon
    (cond (two a b bar bar) Concatenation
    (cond (two a b at at) DoubleAt
    (cond (two a b less equals) LessOrEquals
    (cond (two a b greater equals) GreaterOrEquals
    -- 2.4: "a backslash with one G or g is VerticalDelimiter"
    (cond (two a b backslash capital_g) VerticalDelimiter
    (cond (two a b backslash small_g) VerticalDelimiter
    -- 2.5: "`==` and `=>` are Equals."
    (cond (two a b equals equals) Equals
    (cond (two a b equals greater) Equals
    NoToken)))))))))))

-- 2.3: "`<=>` and `=><` Spaceship".
abbrev pub spaceship : ℕ → ℕ → ℕ → Bool
spaceship a b d = (two a b less equals && eqb d greater) || (two a b equals greater && eqb d less)

-- 2.4: the longest choice that fits.
unfoldable pub operator : Char → List Char → Lexeme
operator c cs =
    elim (spaceship c.code (first cs) (first (drop 1 cs))) [
      | true ↦ is Spaceship 3
      | false ↦ elim (pair c.code (first cs)) [
        | suc k ↦ is (suc k) 2
        | zero ↦ is (single c.code) (width c)
      ]
    ]
