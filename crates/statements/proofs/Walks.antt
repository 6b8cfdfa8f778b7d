-- The statement as far as it is read: what a token changes of it. Assumes nothing.
use Prim.Native.Nat.{ℕ, suc, ◌+◌, ◌≤◌, ◌<◌}
use native.Mathlib.Omega.{arith}
use native.Mathlib.Decide.{dec_lt}
use mathlib.Core.Path.{◌≡◌, refl, sym, ap, ap₂, subst, ◌∙◌}
use mathlib.Core.List.{List, ◌∷◌}
use mathlib.Core.Bool.{true, false}
use lib.ListN.{length, drop}
use borrow.Author.Tests.{lt-ltb, le-ltb}
use Rattle.rules.specs.Tokens.{Token, token, lexeme, tokens, tokens_from, after_dot_at}
use Rattle.rules.specs.Statements.{delimiter, Statement, statement, one_more, first_in}
use Rattle.rules.proofs.Edges.{from_end, from_start, from_step}
use Rattle.rules.proofs.Statements.{first_none, first_here, first_later}
use Rattle.lexer.specs.declared.token.Lexed.{Lexed}
use Rattle.lexer.specs.declared.token.Token.{Token as CodeToken}
use Rattle.lexer.specs.Ends.{ends_at}
use Rattle.lexer.proofs.Ends.{next_is, next_lies}
use Rattle.edges.specs.Walks.{Comes}
use Rattle.statements.specs.declared.Reading.{Reading}
use Rattle.statements.specs.Walks.{read_up_to, Open, found}

-- So many tokens more before it.
abbrev plus : ℕ → Statement → Statement
plus n c = statement (n + c.tokens) c.bytes c.end

module _ (s : List ℕ) where
  abbrev first_from : ℕ → Statement
  first_from i = first_in (length s) (tokens_from s i)

  -- no delimiter is read yet
  found_open : (r : Reading) → Open s r → found s r ≡ plus r.tokens (first_from r.cursor)
  unfolding found
  found_open r o = let l = o.inside in let e = o.bytes in rw (le-ltb r.bytes r.cursor (omega arith))

  -- a delimiter was read
  found-past : (r : Reading) → r.bytes < r.cursor → found s r ≡ statement r.tokens r.bytes r.cursor
  unfolding found
  found-past r h = rw (lt-ltb r.bytes r.cursor h)

  -- nothing is left to read
  pub found_done : (r : Reading) → r.bytes ≤ r.cursor → (r.cursor ≤ r.bytes → Open s r) → found s r ≡ statement r.tokens r.bytes r.cursor
  found_done r h still = go (dec_lt r.bytes r.cursor)
    where
      go : Dec (r.bytes < r.cursor) → found s r ≡ statement r.tokens r.bytes r.cursor
      go (yes l) = found-past r l
      go (no l) =
          let o = still (omega arith) in
          let e = o.bytes in
          let end : length s ≡ r.cursor = omega arith in
          let n : r.tokens + 0 ≡ r.tokens = omega arith in
          found_open r o
          ∙ ap (λ (ts : List Token). plus r.tokens (first_in (length s) ts)) (from_end s r.cursor (omega arith))
          ∙ ap (plus r.tokens) (first_none (length s))
          ∙ ap (λ (m : ℕ). statement m (length s) (length s)) n
          ∙ ap₂ (statement r.tokens) (sym e) end

  pub found_first : found s (read_up_to 0 0 (length s)) ≡ first_in (length s) (tokens s)
  found_first =
      let z : 0 + (first_from 0).tokens ≡ (first_from 0).tokens = omega arith in
      found_open (read_up_to 0 0 (length s)) (record { inside = omega arith; few = omega arith; bytes = refl })
      ∙ ap (λ (m : ℕ). statement m (first_from 0).bytes (first_from 0).end) z
      ∙ ap (first_in (length s)) (sym (from_start s))

  -- a token is read
  module _ (r : Reading) (o : Open s r) (h : r.cursor < length s) (x : Lexed) (e : x ≡ ends_at r.cursor (lexeme (after_dot_at s r.cursor) (drop r.cursor s))) where
    abbrev t : Token
    t = token x.kind r.cursor x.end

    before : (c : Statement) → first_in (length s) (t ∷ tokens_from s x.end) ≡ c → found s r ≡ plus r.tokens c
    before c f =
        found_open r o
        ∙ ap (λ (ts : List Token). plus r.tokens (first_in (length s) ts)) (from_step s r.cursor h ∙ ap (λ (t : Token). t ∷ tokens_from s t.end) (next_is s r.cursor x e))
        ∙ ap (plus r.tokens) f

    lies : (r.cursor < x.end) × (x.end ≤ length s)
    lies = next_lies s r.cursor x h e

    -- a delimiter, with which the walk ends,
    read-delimiter : delimiter x.kind ≡ true → found s (read_up_to x.end (r.tokens + 1) r.cursor) ≡ found s r
    read-delimiter d = found-past (read_up_to x.end (r.tokens + 1) r.cursor) lies.0 ∙ sym (before (statement 1 r.cursor x.end) (first_here (length s) t (tokens_from s x.end) d))

    -- or any other
    still_open : Open s (read_up_to x.end (r.tokens + 1) r.bytes)
    still_open = let k = o.few in let l = lies.0 in record { inside = lies.1; few = omega arith; bytes = o.bytes }

    read_other : delimiter x.kind ≡ false → found s (read_up_to x.end (r.tokens + 1) r.bytes) ≡ found s r
    read_other d =
        let c = first_from x.end in
        let z : r.tokens + 1 + c.tokens ≡ r.tokens + suc c.tokens = omega arith in
        found_open (read_up_to x.end (r.tokens + 1) r.bytes) still_open
        ∙ ap (λ (m : ℕ). statement m c.bytes c.end) z
        ∙ sym (before (one_more c) (first_later (length s) t (tokens_from s x.end) d))

  -- the token that comes on a walk
  module _ (r : Reading) (o : Open s r) (t : CodeToken) (end : ℕ) (n : Comes s r.cursor t end) where
    abbrev x : Lexed
    x = record { kind = t.kind; end = t.end }

    within : r.cursor < length s
    within = omega (arith, n.moves, n.inside)

    pub came_delimiter : delimiter t.kind ≡ true → found s (read_up_to end (r.tokens + 1) t.start) ≡ found s r
    came_delimiter d = ap₂ (λ (e b : ℕ). found s (read_up_to e (r.tokens + 1) b)) (sym n.upto) n.start ∙ read-delimiter r o within x n.lexed d

    pub came_open : Open s (read_up_to end (r.tokens + 1) r.bytes)
    came_open = subst (λ (e : ℕ). Open s (read_up_to e (r.tokens + 1) r.bytes)) n.upto (still_open r o within x n.lexed)

    pub came_other : delimiter t.kind ≡ false → found s (read_up_to end (r.tokens + 1) r.bytes) ≡ found s r
    came_other d = ap (λ (e : ℕ). found s (read_up_to e (r.tokens + 1) r.bytes)) (sym n.upto) ∙ read_other r o within x n.lexed d
