-- How a walk over a text's tokens goes on to the first delimiter, for the functions that do a part of it.
use Rattle.std.specs.Prelude.{ℕ, ◌+◌, ◌≤◌, ◌<◌, ◌≡◌, List, cond, ltb, length}
use Rattle.rules.specs.Tokens.{tokens_from}
use Rattle.rules.specs.Statements.{Statement, statement, first_in}
use Rattle.statements.specs.declared.Reading.{Reading}

abbrev pub read_up_to : ℕ → ℕ → ℕ → Reading
read_up_to cursor tokens bytes = record { cursor = cursor; tokens = tokens; bytes = bytes }

-- No delimiter is read yet.
pub record Open (s : List ℕ) (r : Reading) : Type 0 where
  pub inside : r.cursor ≤ length s
  pub few : r.tokens ≤ r.cursor
  pub bytes : r.bytes ≡ length s

-- The statement: where the cursor is past what stands before the delimiter, that was read; else what is left to read has it.
unfoldable pub found : List ℕ → Reading → Statement
found s r =
    let c = first_in (length s) (tokens_from s r.cursor) in
    cond (ltb r.bytes r.cursor) (statement r.tokens r.bytes r.cursor) (statement (r.tokens + c.tokens) c.bytes c.end)

-- Read on: the cursor moves if there is anything to do, the statement is the same, and unless the cursor is past a delimiter none was read.
pub record ReadOn (s : List ℕ) (from to : Reading) : Type 0 where
  pub moved : from.cursor < length s → from.cursor < to.cursor
  pub inside : to.cursor ≤ length s
  pub same : found s to ≡ found s from
  pub still : to.cursor ≤ to.bytes → Open s to
