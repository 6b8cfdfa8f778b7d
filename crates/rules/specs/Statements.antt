-- Document 02, #102: the first statement of a text, by the list that steps give.
use Rattle.std.specs.Prelude.{ℕ, zero, suc, ◌+◌, List, [], ◌∷◌, Bool, true, false, cond, ◌||◌, length, drop, eqb}
use Rattle.rules.specs.Kinds.{Semicolon, VerticalDelimiter}
use Rattle.rules.specs.Tokens.{Token, tokens}
use Rattle.rules.specs.Answers.{Done, TooLong, too_long}

-- "Semicolon or VerticalDelimiter"
abbrev pub delimiter : ℕ → Bool
delimiter kind = eqb kind Semicolon || eqb kind VerticalDelimiter

-- A statement: "the number of tokens read", its delimiter among them; the bytes of "what stands before" the delimiter; and "the end offset of that
-- first delimiter token".
pub record Statement : Type 0 where
  pub tokens : ℕ
  pub bytes : ℕ
  pub end : ℕ

abbrev pub statement : ℕ → ℕ → ℕ → Statement
statement tokens bytes end = record { tokens = tokens; bytes = bytes; end = end }

-- With a token more before it.
abbrev pub one_more : Statement → Statement
one_more c = statement (suc c.tokens) c.bytes c.end

-- Of the tokens of a text of some length: "the first Semicolon or VerticalDelimiter", where "Reading stops"; "or the text's length if there is none".
unfoldable pub first_in : ℕ → List Token → Statement
first_in size [] = statement 0 size size
first_in size (t ∷ ts) = elim (delimiter t.kind) [ true ↦ statement 1 t.start t.end | false ↦ one_more (first_in size ts) ]

-- An answer: its number, and the statement.
pub record First : Type 0 where
  pub number : ℕ
  pub statement : Statement

-- "Refusals: only 1." "The rest isn't tested for UTF-8; the rules of a single step hold".
unfoldable pub first_statement : List ℕ → First
first_statement text =
    cond (too_long text) (record { number = TooLong; statement = statement 0 0 0 })
    (record { number = Done; statement = first_in (length text) (tokens text) })

-- The same statement, k bytes further on.
abbrev pub shifted : ℕ → Statement → Statement
shifted k c = statement c.tokens (k + c.bytes) (k + c.end)

-- From a statement's end on, the same call on the rest: at most n statements of a text that stands at an offset, until nothing is left.
unfoldable pub walk : ℕ → ℕ → List ℕ → List Statement
walk zero at s = []
walk (suc n) at s =
    elim (eqb (length s) 0) [
      | true ↦ []
      | false ↦
          let c = (first_statement s).statement in
          shifted at c ∷ walk n (at + c.end) (drop c.end s)
    ]

-- At most n statements into which the delimiters cut the list of a text of some length.
unfoldable pub cut : ℕ → ℕ → List Token → List Statement
cut zero size ts = []
cut (suc n) size ts =
    elim (eqb (length ts) 0) [
      | true ↦ []
      | false ↦
          let c = first_in size ts in
          c ∷ cut n size (drop c.tokens ts)
    ]
