-- The full list is what steps from edge to edge give; its tokens tile the text; it depends on what follows an edge and on a dot before it.
-- Assumes nothing.
use Prim.Native.Nat.{ℕ, zero, suc, ◌+◌, ◌-◌, ◌≤◌, ◌<◌}
use native.Mathlib.Decide.{dec_lt}
use native.Mathlib.Omega.{arith}
use native.Mathlib.Nat.{add-zero, add-suc, suc-add}
use mathlib.Core.Path.{◌≡◌, refl, sym, ap, ap₂, ◌∙◌}
use mathlib.Core.List.{List, [], ◌∷◌, map, Memᴰ}
use mathlib.Core.Bool.{Bool}
use lib.ListN.{length, get_or, drop, length-drop, drop_of_length-le}
use lib.Seq.{drop-cons}
use Rattle.rules.specs.Tokens.{token, lexeme, Token, placed, is_dot, tokens, tokens_after, after_dot_at, token_at, tokens_from}
use Rattle.rules.proofs.FirstToken.{token-at}

past : (s : List ℕ) (i : ℕ) → length s ≤ i → drop i s ≡ []
past s i h = drop_of_length-le s h

-- To skip n bytes from i on is to go on at i + n, after the byte before that.
skip_from : (s : List ℕ) (n i : ℕ) → tokens_after (after_dot_at s i) i n (drop i s) ≡ tokens_from s (i + n)
unfolding tokens_from tokens_after
skip_from s zero i = rw add-zero
skip_from s (suc n) i = go (dec_lt i (length s)) (skip_from s n (suc i))
  where
    go : Dec (i < length s) → tokens_after (after_dot_at s (suc i)) (suc i) n (drop (suc i) s) ≡ tokens_from s (suc i + n) → tokens_after (after_dot_at s i) i (suc n) (drop i s) ≡ tokens_from s (i + suc n)
    go (yes h) ih = rw (drop-cons s i 0 h) (ih ∙ ap (tokens_from s) (suc-add i n ∙ sym (add-suc i n)))
    go (no h) ih = rw (past s i (omega arith), past s (i + suc n) (omega arith))

module _ (s : List ℕ) (i : ℕ) where
  pub from_end : length s ≤ i → tokens_from s i ≡ []
  unfolding tokens_from tokens_after
  from_end h = rw (past s i h)

  module _ (h : i < length s) where
    -- the token at i has at least one byte, and lies in the text
    pub step_fits : ((token_at s i).start ≡ i) × (i < (token_at s i).end) × ((token_at s i).end ≤ length s)
    unfolding token_at
    step_fits =
        let e = drop-cons s i 0 h in
        let t = token-at (after_dot_at s i) (get_or s i 0) (drop (suc i) s) in
        let n = ap (λ (l : List ℕ). (lexeme (after_dot_at s i) l).size) e in
        let l = ap length e in
        let k = length-drop i s in
        (refl, omega (arith, t.least), omega (arith, t.most))

    -- one step, and the list from the next edge on
    pub from_step : tokens_from s i ≡ token_at s i ∷ tokens_from s (token_at s i).end
    unfolding tokens_from tokens_after token_at
    from_step =
        let d : Bool = after_dot_at s i in
        let e : drop i s ≡ get_or s i 0 ∷ drop (suc i) s = drop-cons s i 0 h in
        let n : ℕ = (lexeme d (get_or s i 0 ∷ drop (suc i) s)).size in
        let least : 1 ≤ n = (token-at d (get_or s i 0) (drop (suc i) s)).least in
        let there : suc i + (n - 1) ≡ i + n = omega arith in
        let size : n ≡ (lexeme d (drop i s)).size = ap (λ (l : List ℕ). (lexeme d l).size) (sym e) in
        ap (tokens_after d i 0) e
        ∙ ap₂ {C = List Token} (λ (t : Token) (ts : List Token). t ∷ ts) (ap (λ (l : List ℕ). placed i (lexeme d l)) (sym e))
        (skip_from s (n - 1) (suc i) ∙ ap (tokens_from s) (there ∙ ap (λ (m : ℕ). i + m) size))

pub from_start : (s : List ℕ) → tokens s ≡ tokens_from s 0
unfolding tokens_from
from_start s = refl

-- Each token starts where the one before it ends and has at least one byte; the first starts at `from`, and the last ends at `to`.
abbrev pub Tiles : ℕ → List Token → ℕ → Type 0
Tiles from [] to = from ≡ to
Tiles from (t ∷ ts) to = (t.start ≡ from) × (from < t.end) × Tiles t.end ts to

tiles_by : (s : List ℕ) (fuel i : ℕ) → length s - i ≤ fuel → i ≤ length s → Tiles i (tokens_from s i) (length s)
tiles_by s zero i k l = rw (from_end s i (omega arith)) (omega arith)
tiles_by s (suc fuel) i k l = go (dec_lt i (length s)) (tiles_by s fuel)
  where
    go : Dec (i < length s) → ((j : ℕ) → length s - j ≤ fuel → j ≤ length s → Tiles j (tokens_from s j) (length s)) → Tiles i (tokens_from s i) (length s)
    go (no h) ih = rw (from_end s i (omega arith)) (omega arith)
    go (yes h) ih =
        let f = step_fits s i h in
        rw (from_step s i h) (f.0, f.1, ih (token_at s i).end (omega arith) f.2)

pub tiles_from : (s : List ℕ) (i : ℕ) → i ≤ length s → Tiles i (tokens_from s i) (length s)
tiles_from s i l = tiles_by s (length s - i) i (omega arith) l

-- The tokens tile the text.
pub tiles : (s : List ℕ) → Tiles 0 (tokens s) (length s)
tiles s = rw (from_start s) (tiles_from s 0 (omega arith))

pub tiles_le : (from : ℕ) (ts : List Token) (to : ℕ) → Tiles from ts to → from ≤ to
tiles_le from [] to t = omega arith
tiles_le from (t ∷ ts) to p = let r = tiles_le t.end ts to p.2 in omega arith

-- There are no more of them than bytes.
pub tiles_count : (from : ℕ) (ts : List Token) (to : ℕ) → Tiles from ts to → length ts + from ≤ to
tiles_count from [] to t = omega arith
tiles_count from (t ∷ ts) to p = let r = tiles_count t.end ts to p.2 in omega arith

-- Every token has at least one byte, and lies between the two ends.
pub tiles_in : (from : ℕ) (ts : List Token) (to : ℕ) → Tiles from ts to → {t : Token} → Memᴰ t ts → (from ≤ t.start) × (t.start < t.end) × (t.end ≤ to)
tiles_in from [] to p {t = t} x'' = elim x'' [ ]
tiles_in from (u ∷ ts) to p (Memᴰ.head e) =
    let a : _ ≡ u.start = ap (λ (t : Token). t.start) e in
    let b : _ ≡ u.end = ap (λ (t : Token). t.end) e in
    let r = tiles_le u.end ts to p.2 in
    (omega arith, omega arith, omega arith)
tiles_in from (u ∷ ts) to p (Memᴰ.tail m) =
    let r = tiles_in u.end ts to p.2 m in
    (omega arith, r.1, r.2)

pub token_in_lem : (s : List ℕ) {t : Token} → Memᴰ t (tokens s) → (t.start < t.end) × (t.end ≤ length s)
token_in_lem s m = let r = tiles_in 0 (tokens s) (length s) (tiles s) m in (r.1, r.2)

-- The same token, k bytes further on.
abbrev pub moved : ℕ → Token → Token
moved k t = token t.kind (k + t.start) (k + t.end)

tokens_moved : (d : Bool) (k at skip : ℕ) (s : List ℕ) → tokens_after d (k + at) skip s ≡ map (moved k) (tokens_after d at skip s)
unfolding tokens_after
tokens_moved d k at skip [] = refl
tokens_moved d k at zero (b ∷ s) =
    let l = lexeme d (b ∷ s) in
    let e : (k + at) + l.size ≡ k + (at + l.size) = omega arith in
    ap₂ {C = List Token} (λ (n : ℕ) (ts : List Token). token l.kind (k + at) n ∷ ts) e
    (ap (λ (n : ℕ). tokens_after (is_dot b) n (l.size - 1) s) (sym (add-suc k at)) ∙ tokens_moved (is_dot b) k (suc at) (l.size - 1) s)
tokens_moved d k at (suc skip) (b ∷ s) = ap (λ (n : ℕ). tokens_after (is_dot b) n skip s) (sym (add-suc k at)) ∙ tokens_moved (is_dot b) k (suc at) skip s

-- The tokens of a text that stands k bytes further on.
pub from_moved : (d : Bool) (k : ℕ) (s : List ℕ) → tokens_after d k 0 s ≡ map (moved k) (tokens_after d 0 0 s)
from_moved d k s = ap (λ (n : ℕ). tokens_after d n 0 s) (sym (add-zero k)) ∙ tokens_moved d k 0 0 s

-- Two texts that are the same from an edge on, after a dot or not in both, have the same tokens from there on, each moved to its place.
pub record SameAfter (a b : List ℕ) (i j : ℕ) : Type 0 where
  pub shared : List Token
  pub left : tokens_from a i ≡ map (moved i) shared
  pub right : tokens_from b j ≡ map (moved j) shared

pub same_after : (a b : List ℕ) (i j : ℕ) → drop i a ≡ drop j b → after_dot_at a i ≡ after_dot_at b j → SameAfter a b i j
unfolding tokens_from
same_after a b i j e f = record {
  shared = tokens_after (after_dot_at a i) 0 0 (drop i a);
  left = from_moved (after_dot_at a i) i (drop i a);
  right = from_moved (after_dot_at b j) j (drop j b) ∙ ap₂ (λ (d : Bool) (s : List ℕ). map (moved j) (tokens_after d 0 0 s)) (sym f) (sym e);
}
