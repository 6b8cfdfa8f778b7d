-- #102: from the end of a statement on, the same call on the rest of the text gives the next one. Assumes nothing.
use Prim.Native.Nat.{ℕ, zero, suc, ◌+◌, ◌-◌, ◌≤◌, ◌<◌}
use native.Mathlib.Omega.{arith}
use native.Mathlib.Decide.{dec_lt}
use mathlib.Core.Path.{◌≡◌, refl, sym, ap, ap₂, ◌∙◌, subst}
use mathlib.Core.Logic.{◌⊎◌, inl, inr}
use mathlib.Core.List.{List, [], ◌∷◌, map}
use mathlib.Core.Bool.{Bool, true, false}
use lib.ListN.{length, drop, length-drop, drop_of_length-le}
use lib.Seq.{drop-drop}
use borrow.Author.Tests.{ne_eqb}
use Rattle.rules.specs.Limits.{max_query_size}
use Rattle.rules.specs.Tokens.{Token, tokens, tokens_after, tokens_from, after_dot_at, token_at}
use Rattle.rules.specs.Statements.{delimiter, Statement, one_more, first_in, First, first_statement, shifted, walk, cut}
use Rattle.rules.proofs.Edges.{tiles_from, from_end, from_step, from_start, step_fits, moved, from_moved}
use Rattle.rules.proofs.Delimiters.{delimiter-dot}
use Rattle.rules.proofs.Statements.{first_none, first_here, first_later, first_lies, first_done}

-- Tokens that are moved have a statement that is moved.
first_moved : (k size : ℕ) (ts : List Token) → first_in (k + size) (map (moved k) ts) ≡ shifted k (first_in size ts)
first_moved k size [] = first_none (k + size) ∙ ap (shifted k) (sym (first_none size))
first_moved k size (t ∷ ts) = go (delimiter t.kind) refl (first_moved k size ts)
  where
    go : (b : Bool) → delimiter t.kind ≡ b → first_in (k + size) (map (moved k) ts) ≡ shifted k (first_in size ts) → first_in (k + size) (moved k t ∷ map (moved k) ts) ≡ shifted k (first_in size (t ∷ ts))
    go true e ih = first_here (k + size) (moved k t) (map (moved k) ts) e ∙ ap (shifted k) (sym (first_here size t ts e))
    go false e ih = first_later (k + size) (moved k t) (map (moved k) ts) e ∙ ap one_more ih ∙ ap (shifted k) (sym (first_later size t ts e))

module _ (s : List ℕ) where
  abbrev first_from : ℕ → Statement
  first_from i = first_in (length s) (tokens_from s i)

  -- A statement may begin here: no dot stands before, or nothing is left.
  abbrev Begins : ℕ → Type 0
  Begins i = (after_dot_at s i ≡ false) ⊎ (i ≡ length s)

  -- The tokens after a statement are those from its end on, where the next one may begin.
  pub record Goes-on (i : ℕ) (c : Statement) : Type 0 where
    pub rest : drop c.tokens (tokens_from s i) ≡ tokens_from s c.end
    pub begins : Begins c.end

  at_end_lem : (i : ℕ) → i ≡ length s → Goes-on i (first_from i)
  at_end_lem i e =
      rw (from_end s i (omega arith), first_none (length s))
      (record { rest = from_end s i (omega arith) ∙ sym (from_end s (length s) (omega arith)); begins = inr refl })

  goes_by : (fuel i : ℕ) → length s - i ≤ fuel → i ≤ length s → Goes-on i (first_from i)
  goes_by zero i k l = at_end_lem i (omega arith)
  goes_by (suc fuel) i k l = go (dec_lt i (length s)) (λ j m n. goes_by fuel j m n)
    where
      turn : i < length s → (b : Bool) → delimiter (token_at s i).kind ≡ b → Goes-on (token_at s i).end (first_from (token_at s i).end) → Goes-on i (first_in (length s) (token_at s i ∷ tokens_from s (token_at s i).end))
      turn h true e r =
          rw (first_here (length s) (token_at s i) (tokens_from s (token_at s i).end) e)
          (record { rest = ap (drop 1) (from_step s i h); begins = inl (delimiter-dot s i h e) })
      turn h false e r =
          rw (first_later (length s) (token_at s i) (tokens_from s (token_at s i).end) e)
          (record { rest = ap (drop (suc (first_from (token_at s i).end).tokens)) (from_step s i h) ∙ r.rest; begins = r.begins })

      go : Dec (i < length s) → ((j : ℕ) → length s - j ≤ fuel → j ≤ length s → Goes-on j (first_from j)) → Goes-on i (first_from i)
      go (no h) ih = at_end_lem i (omega arith)
      go (yes h) ih =
          let f = step_fits s i h in
          let r = turn h (delimiter (token_at s i).kind) refl (ih (token_at s i).end (omega arith) f.2) in
          subst (λ (ts : List Token). Goes-on i (first_in (length s) ts)) (sym (from_step s i h)) r

  goes_on_lem : (i : ℕ) → i ≤ length s → Goes-on i (first_from i)
  goes_on_lem i l = goes_by (length s - i) i (omega arith) l

  module _ (i : ℕ) (l : i ≤ length s) (b : Begins i) where
    -- Where a statement may begin, the rest of the text has the tokens that the text has from there on,
    pub rest_tokens : tokens_from s i ≡ map (moved i) (tokens (drop i s))
    unfolding tokens_from tokens_after
    rest_tokens = go b
      where
        go : Begins i → tokens_after (after_dot_at s i) i 0 (drop i s) ≡ map (moved i) (tokens (drop i s))
        go (inl e) = ap (λ (d : Bool). tokens_after d i 0 (drop i s)) e ∙ from_moved false i (drop i s)
        go (inr e) = rw (drop_of_length-le s (let z : length s ≤ i = omega arith in z))

    -- and the first statement of the rest is the next one of the text.
    pub next_statement : first_from i ≡ shifted i (first_in (length (drop i s)) (tokens (drop i s)))
    next_statement =
        let e : length s ≡ i + length (drop i s) = let k = length-drop i s in omega arith in
        ap₂ first_in e rest_tokens ∙ first_moved i (length (drop i s)) (tokens (drop i s))

    -- It ends no earlier than it begins, and in the text.
    pub next_lies : (i ≤ (first_from i).end) × ((first_from i).end ≤ length s)
    next_lies = let f = first_lies i (tokens_from s i) (length s) (tiles_from s i l) in (omega (arith, f.few), f.high)

-- the clauses of `walk` and `cut`
walk_more : (n at : ℕ) (s : List ℕ) → 0 < length s → walk (suc n) at s ≡ shifted at (first_statement s).statement ∷ walk n (at + (first_statement s).statement.end) (drop (first_statement s).statement.end s)
unfolding walk
walk_more n at s h = rw (ne_eqb (length s) 0 (λ e. omega arith), walk)

cut_more : (n size : ℕ) (ts : List Token) → 0 < length ts → cut (suc n) size ts ≡ first_in size ts ∷ cut n size (drop (first_in size ts).tokens ts)
unfolding cut
cut_more n size ts h = rw (ne_eqb (length ts) 0 (λ e. omega arith), cut)

module _ (s : List ℕ) (l : length s ≤ max_query_size) where
  -- What is left is no longer.
  rest_done : (i : ℕ) → (first_statement (drop i s)).statement ≡ first_in (length (drop i s)) (tokens (drop i s))
  rest_done i = ap (λ (f : First). f.statement) (first_done (drop i s) (let k = length-drop i s in omega arith))

  first_from_lem : (first_statement s).statement ≡ first_from s 0
  first_from_lem = ap (λ (f : First). f.statement) (first_done s l) ∙ ap (first_in (length s)) (from_start s)

  -- The second statement: the tokens after the first are those of the rest, and their first statement is the rest's.
  pub record Second (c : Statement) : Type 0 where
    pub rest : drop c.tokens (tokens s) ≡ map (moved c.end) (tokens (drop c.end s))
    pub next : first_in (length s) (drop c.tokens (tokens s)) ≡ shifted c.end (first_statement (drop c.end s)).statement

  pub second : Second (first_statement s).statement
  second =
      let g = goes_on_lem s 0 (omega arith) in
      let n = next_lies s 0 (omega arith) (inl refl) in
      let r = ap (drop (first_from s 0).tokens) (from_start s) ∙ g.rest in
      subst Second (sym first_from_lem)
      (record {
        rest = r ∙ rest_tokens s (first_from s 0).end n.1 g.begins;
        next = ap (first_in (length s)) r ∙ next_statement s (first_from s 0).end n.1 g.begins ∙ ap (shifted (first_from s 0).end) (sym (rest_done (first_from s 0).end));
      })

  -- Statement after statement: each call on the rest gives the next of those into which the delimiters cut the list.
  module _ (n i : ℕ) (m : i ≤ length s) (b : Begins s i) (h : i < length s) where
    -- a call on the rest, and the calls on what is left then
    walk_turn : walk (suc n) i (drop i s) ≡ first_from s i ∷ walk n (first_from s i).end (drop (first_from s i).end s)
    walk_turn =
        let c = (first_statement (drop i s)).statement in
        let here = next_statement s i m b ∙ ap (shifted i) (sym (rest_done i)) in
        walk_more n i (drop i s) (let k = length-drop i s in omega arith)
        ∙ ap {B = List Statement} (λ (t : List ℕ). shifted i c ∷ walk n (i + c.end) t) (drop-drop c.end i s)
        ∙ ap {B = List Statement} (λ (c : Statement). c ∷ walk n c.end (drop c.end s)) (sym here)

    -- it has a byte at least
    first_moves : i < (first_from s i).end
    first_moves = go (delimiter (token_at s i).kind) refl
      where
        t : Token
        t = token_at s i

        later : i < t.end
        later = (step_fits s i h).1

        go : (b : Bool) → delimiter t.kind ≡ b → i < (first_from s i).end
        go true e = rw (from_step s i h, first_here (length s) t (tokens_from s t.end) e) later
        go false e =
            let f = first_lies t.end (tokens_from s t.end) (length s) (tiles_from s t.end (step_fits s i h).2) in
            rw (from_step s i h, first_later (length s) t (tokens_from s t.end) e) (omega (arith, later, f.few))

    cut-turn : cut (suc n) (length s) (tokens_from s i) ≡ first_from s i ∷ cut n (length s) (tokens_from s (first_from s i).end)
    cut-turn =
        let some : length (tokens_from s i) ≡ suc (length (tokens_from s (token_at s i).end)) = ap length (from_step s i h) in
        cut_more n (length s) (tokens_from s i) (omega arith) ∙ ap {B = List Statement} (λ (ts : List Token). first_from s i ∷ cut n (length s) ts) (goes_on_lem s i m).rest

  walk_by : (n i : ℕ) → i ≤ length s → Begins s i → walk n i (drop i s) ≡ cut n (length s) (tokens_from s i)
  unfolding walk cut
  walk_by zero i m b = refl
  walk_by (suc n) i m b = go (dec_lt i (length s)) (λ j k c. walk_by n j k c)
    where
      go : Dec (i < length s) → ((j : ℕ) → j ≤ length s → Begins s j → walk n j (drop j s) ≡ cut n (length s) (tokens_from s j)) → walk (suc n) i (drop i s) ≡ cut (suc n) (length s) (tokens_from s i)
      go (no h) ih = rw (drop_of_length-le s (let z : length s ≤ i = omega arith in z), from_end s i (omega arith), walk, cut)
      go (yes h) ih =
          walk_turn n i m b h
          ∙ ap {B = List Statement} (λ (cs : List Statement). first_from s i ∷ cs) (ih (first_from s i).end (next_lies s i m b).1 (goes_on_lem s i m).begins)
          ∙ sym (cut-turn n i m b h)

  pub walked : (n : ℕ) → walk n 0 s ≡ cut n (length s) (tokens s)
  walked n = walk_by n 0 (omega arith) (inl refl) ∙ ap (cut n (length s)) (sym (from_start s))

  -- With as many calls as the text has bytes nothing is left: the last statement ends with the text.
  abbrev pub end_of : ℕ → List Statement → ℕ
  end_of at [] = at
  end_of at (c ∷ cs) = end_of c.end cs

  ends_by : (n i : ℕ) → length s ≤ i + n → i ≤ length s → Begins s i → end_of i (walk n i (drop i s)) ≡ length s
  unfolding walk
  ends_by zero i f m b = omega arith
  ends_by (suc n) i f m b = go (dec_lt i (length s)) (λ j g k c. ends_by n j g k c)
    where
      go : Dec (i < length s) → ((j : ℕ) → length s ≤ j + n → j ≤ length s → Begins s j → end_of j (walk n j (drop j s)) ≡ length s) → end_of i (walk (suc n) i (drop i s)) ≡ length s
      go (no h) ih = rw (drop_of_length-le s (let z : length s ≤ i = omega arith in z), walk) (omega arith)
      go (yes h) ih =
          let e = (first_from s i).end in
          ap (end_of i) (walk_turn n i m b h) ∙ ih e (let l = first_moves n i m b h in omega arith) (next_lies s i m b).1 (goes_on_lem s i m).begins

  pub walk_ends : end_of 0 (walk (length s) 0 s) ≡ length s
  walk_ends = ends_by (length s) 0 (omega arith) (omega arith) (inl refl)
