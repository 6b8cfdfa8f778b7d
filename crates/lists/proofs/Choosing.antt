-- Which tokens a listing has: one choice of tokens serves the whole listing and the listing up to a position.
-- Assumes nothing.
use Prim.Native.Nat.{ℕ, ◌+◌, ◌/◌, ◌%◌, ◌^◌, ◌≤◌, ◌<◌}
use native.Mathlib.Omega.{arith}
use mathlib.Core.Path.{◌≡◌, refl, sym, ap, ◌∙◌, fun_ext}
use Rattle.std.proofs.Common.{min}
use Rattle.std.proofs.Math.Nat.{min-eq_left, min-eq_right}
use mathlib.Core.List.{List, [], ◌∷◌}
use mathlib.Core.Bool.{Bool, true, false, not, cond, ◌&&◌, ◌||◌, or-false}
use lib.Dec.{eqb, leb}
use lib.ListN.{length, drop}
use native.Mathlib.Decide.{dec_lt}
use borrow.Author.Tests.{lt-ltb, le-leb, ne_eqb}
use Rattle.rules.specs.Kinds.{Whitespace, Comment}
use Rattle.rules.specs.Tokens.{Token, token, tokens, tokens_from, lexeme, after_dot_at}
use Rattle.rules.specs.Listing.{lean, only, lean_keeps, lean_up_to_keeps, starts_before, whole_list, list_up_to}
use Rattle.rules.proofs.Tables.{agree_at}
use Rattle.rules.proofs.Edges.{Tiles, tiles, tiles_le, tiles_count, from_start}
use Rattle.rules.proofs.Listing.{only_yes, only_no, only_none, only-length, up_to_stop, up_to_step}
use Rattle.lists.specs.declared.listing.Choice.{Choice}
use Rattle.lexer.specs.declared.token.Lexed.{Lexed}
use Rattle.lexer.specs.declared.token.Token.{Token as CodeToken}
use Rattle.lexer.specs.Ends.{ends_at}
use Rattle.lexer.proofs.Ends.{next_is, next_lies}
use Rattle.edges.specs.Walks.{Comes}
use Rattle.lists.specs.Choices.{keeps, chosen}

-- Every token starts before the text's end.
early : (position from : ℕ) (ts : List Token) (to : ℕ) → Tiles from ts to → to ≤ position → only (starts_before position) ts ≡ ts
early position from [] to p h = only_none (starts_before position)
early position from (t ∷ ts) to p h =
    let e = tiles_le t.end ts to p.2 in
    only_yes (starts_before position) t ts (lt-ltb t.start position (omega arith)) ∙ ap (λ (l : List Token). t ∷ l) (early position t.end ts to p.2 h)

early_all : (s : List ℕ) (position : ℕ) → length s ≤ position → only (starts_before position) (tokens s) ≡ tokens s
early_all s position h = early position 0 (tokens s) (length s) (tiles s) h

-- A test that passes all leaves out none.
only_all : (p : Token → Bool) → ((t : Token) → p t ≡ true) → (ts : List Token) → only p ts ≡ ts
only_all p h [] = only_none p
only_all p h (t ∷ ts) = only_yes p t ts (h t) ∙ ap (λ (l : List Token). t ∷ l) (only_all p h ts)

abbrev pub choice : ℕ → Bool → Bool → Choice
choice position whites comments = record { position = position; drop_whitespace = whites; drop_comment = comments }

pub whole_chosen : (mode : ℕ) (s : List ℕ) → whole_list mode s ≡ chosen (choice (length s) (eqb mode lean) (eqb mode lean)) s 0
unfolding whole_list chosen
whole_chosen mode s = rw (← from_start s, early_all s (length s) (omega arith)) (go (eqb mode lean))
  where
    go : (b : Bool) → cond b (only lean_keeps (tokens s)) (tokens s) ≡ only (λ t. keeps (choice (length s) b b) t.kind) (tokens s)
    go true = refl
    go false = sym (only_all (λ t. keeps (choice (length s) false false) t.kind) (λ t. refl) (tokens s))

-- A position beyond the text's end is as good as the end.
pub up_to_chosen : (mode position : ℕ) (s : List ℕ) → list_up_to mode position s ≡ chosen (choice (min position (length s)) (eqb mode lean) false) s 0
unfolding list_up_to chosen
up_to_chosen mode position s = rw (← from_start s, same (dec_lt (length s) position)) (go (eqb mode lean))
  where
    same : Dec (length s < position) → only (starts_before position) (tokens s) ≡ only (starts_before (min position (length s))) (tokens s)
    same (yes h) = early_all s position (omega arith) ∙ sym (early_all s (min position (length s)) (omega (arith, min-eq_right {n = length s} {m = position} (omega arith))))
    same (no h) = ap (λ (p : ℕ). only (starts_before p) (tokens s)) (sym (min-eq_left {n = position} {m = length s} (omega arith)))

    go : (b : Bool) → let ts = only (starts_before (min position (length s))) (tokens s) in cond b (only lean_up_to_keeps ts) ts ≡ only (λ t. keeps (choice (min position (length s)) b false) t.kind) ts
    go true = ap (λ p. only p (only (starts_before (min position (length s))) (tokens s))) (fun_ext (λ t. ap not (sym (or-false (eqb t.kind Whitespace)))))
    go false = sym (only_all (λ t. keeps (choice (min position (length s)) false false) t.kind) (λ t. refl) (only (starts_before (min position (length s))) (tokens s)))

-- There are no more tokens than bytes.
pub chosen_most : (c : Choice) (s : List ℕ) → length (chosen c s 0) ≤ length s
unfolding chosen
chosen_most c s =
    rw (← from_start s)
    (omega (
      arith,
      only-length (λ t. keeps c t.kind) (only (starts_before c.position) (tokens s)),
      only-length (starts_before c.position) (tokens s),
      tiles_count 0 (tokens s) (length s) (tiles s),
    ))

module _ (c : Choice) (s : List ℕ) (i : ℕ) where
  pub chosen_stop : i ≤ length s → c.position ≤ i → chosen c s i ≡ []
  unfolding chosen
  chosen_stop l h = rw (up_to_stop s c.position i l h) (only_none (λ t. keeps c t.kind))

  -- what `next_token` answers at i
  module _ (r : Lexed) (e : r ≡ ends_at i (lexeme (after_dot_at s i) (drop i s))) (fits : c.position ≤ length s) (h : i < c.position) where
    pub next_fits : (i < r.end) × (r.end ≤ length s)
    next_fits = next_lies s i r (omega arith) e

    step : chosen c s i ≡ only (λ t. keeps c t.kind) (token r.kind i r.end ∷ only (starts_before c.position) (tokens_from s r.end))
    unfolding chosen
    step =
        ap (only (λ t. keeps c t.kind))
        (up_to_step s c.position i (omega arith) h ∙ ap (λ (t : Token). t ∷ only (starts_before c.position) (tokens_from s t.end)) (next_is s i r e))

    pub chosen_keep : keeps c r.kind ≡ true → chosen c s i ≡ token r.kind i r.end ∷ chosen c s r.end
    unfolding chosen
    chosen_keep k = step ∙ only_yes (λ t. keeps c t.kind) (token r.kind i r.end) (only (starts_before c.position) (tokens_from s r.end)) k

    pub chosen-drop : keeps c r.kind ≡ false → chosen c s i ≡ chosen c s r.end
    unfolding chosen
    chosen-drop k = step ∙ only_no (λ t. keeps c t.kind) (token r.kind i r.end) (only (starts_before c.position) (tokens_from s r.end)) k

-- The token that comes at i on a walk.
module _ (c : Choice) (s : List ℕ) (i : ℕ) (t : CodeToken) (end : ℕ) (n : Comes s i t end) (fits : c.position ≤ length s) (h : i < c.position) where
  abbrev r : Lexed
  r = record { kind = t.kind; end = t.end }

  pub comes_keep : keeps c t.kind ≡ true → chosen c s i ≡ token t.kind t.start t.end ∷ chosen c s end
  comes_keep k = chosen_keep c s i r n.lexed fits h k ∙ ap (λ (j : ℕ). token t.kind j t.end ∷ chosen c s t.end) (sym n.start) ∙ ap (λ (j : ℕ). token t.kind t.start t.end ∷ chosen c s j) n.upto

  pub comes-drop : keeps c t.kind ≡ false → chosen c s i ≡ chosen c s end
  comes-drop k = chosen-drop c s i r n.lexed fits h k ∙ ap (chosen c s) n.upto

-- A kind's bit among those that are dropped, white space's and a comment's, tells whether it is kept.
abbrev kept_by : Bool → Bool → ℕ → Bool
kept_by whites comments k = leb 64 k || eqb ((cond whites 2 0 + cond comments 4 0) / 2 ^ (k % 64) % 2) 0

abbrev kept : Bool → Bool → ℕ → Bool
kept whites comments = keeps (choice 0 whites comments)

kept_below : (w c : Bool) (k : ℕ) → k < 64 → kept_by w c k ≡ kept w c k
kept_below true true = agree_at (kept_by true true) (kept true true) 64 refl
kept_below true false = agree_at (kept_by true false) (kept true false) 64 refl
kept_below false true = agree_at (kept_by false true) (kept false true) 64 refl
kept_below false false = agree_at (kept_by false false) (kept false false) 64 refl

kept_past : (w c : Bool) (k : ℕ) → 64 ≤ k → kept_by w c k ≡ kept w c k
kept_past w c k h = simp (le-leb 64 k h, ne_eqb k Whitespace (λ e. omega arith), ne_eqb k Comment (λ e. omega arith)) (go w c)
  where
    go : (w c : Bool) → true ≡ not ((w && false) || (c && false))
    go true true = refl
    go true false = refl
    go false true = refl
    go false false = refl

pub kept_bit : (w c : Bool) (k : ℕ) → kept_by w c k ≡ kept w c k
kept_bit w c k = go (dec_lt k 64)
  where
    go : Dec (k < 64) → kept_by w c k ≡ kept w c k
    go (yes l) = kept_below w c k l
    go (no l) = kept_past w c k (omega arith)
