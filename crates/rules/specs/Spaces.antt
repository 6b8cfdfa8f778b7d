-- Rule 1: white space and comments.
use Rattle.std.specs.Prelude.{ℕ, zero, suc, List, [], ◌∷◌, Bool, true, false, not, eqb}
use Rattle.rules.specs.Utf8.{Char, width}
use Rattle.rules.specs.Classes.{white_space}
use Rattle.rules.specs.Characters.{line_feed, slash, star}
use Rattle.rules.specs.Kinds.{Whitespace, Comment, ErrorMultilineCommentIsNotClosed}
use Rattle.rules.specs.Lexeme.{first, two, Lexeme, is, run, Body, further, closed_by, open_to, enclosed}

-- 1.1: "White space is a maximal run of White_Space characters".
abbrev pub white_space_run : List Char → Lexeme
white_space_run cs = is Whitespace (run white_space cs)

-- A character that a line comment goes on over.
abbrev pub not_line_feed : ℕ → Bool
not_line_feed c = not (eqb c line_feed)

-- 1.2: "`--` opens a comment that stops before LF or the end."
abbrev pub line_comment : List Char → Lexeme
line_comment cs = is Comment (run not_line_feed cs)

-- 1.3: "a nested comment, read left to right in pairs: `/*` deepens, `*/` closes": what is left of it, `depth` + 1 deep; `taken`: this character ends a pair.
unfoldable pub comment_body : ℕ → Bool → List Char → Body
comment_body depth taken [] = open_to 0
comment_body depth true (c ∷ cs) = further (width c) (comment_body depth false cs)
comment_body depth false (c ∷ cs) =
    elim (two c.code (first cs) slash star) [
      | true ↦ further (width c) (comment_body (suc depth) true cs)
      | false ↦ elim (two c.code (first cs) star slash) [
        | true ↦ elim depth [ zero ↦ closed_by 2 | suc less ↦ further (width c) (comment_body less true cs) ]
        | false ↦ further (width c) (comment_body depth false cs)
      ]
    ]

-- 1.4: "Never closed, it runs to the end as kind 40." The text goes on with cs after `/*`.
abbrev pub nested_comment : List Char → Lexeme
nested_comment cs = enclosed 2 (comment_body 0 false cs) Comment ErrorMultilineCommentIsNotClosed
