-- #103: a token starts and ends where a character does, so places add up from token to token. Assumes nothing.
use Prim.Native.Nat.{ℕ, zero, suc, ◌+◌, ◌≤◌, ◌<◌}
use native.Mathlib.Omega.{arith}
use native.Mathlib.Decide.{dec_lt}
use mathlib.Core.Path.{◌≡◌, sym, ap, ◌∙◌, subst}
use mathlib.Core.List.{List, [], ◌∷◌, ◌++◌, Memᴰ}
use lib.ListN.{length, drop}
use Rattle.rules.specs.Utf8.{Char, width, char_at, chars}
use Rattle.rules.specs.Lexeme.{Lexeme}
use Rattle.rules.specs.Tokens.{Token, lexeme, lexeme_of, tokens, tokens_from, after_dot_at, token_at}
use Rattle.rules.proofs.Decoding.{chars-at, chars_end}
use Rattle.rules.proofs.Reading.{widths, Read, read-chars}
use Rattle.rules.proofs.Step.{Step}
use Rattle.rules.proofs.Masked.{step}
use Rattle.rules.proofs.Edges.{from_end, from_step, from_start, step_fits}
use Rattle.rules.proofs.PlaceSums.{Edge, edge_start, edge-step}

abbrev rest : List Char → List Char
rest [] = []
rest (c ∷ cs) = cs

abbrev size : List Char → ℕ
size [] = 0
size (c ∷ cs) = width c

module _ (s : List ℕ) where
  -- Past characters that are read at an edge is another.
  edge-run : (us vs : List Char) (i : ℕ) → chars (drop i s) ≡ us ++ vs → Edge s i → Edge s (i + widths us)
  edge-run [] vs i e edge = let z : i + 0 ≡ i = omega arith in subst (Edge s) (sym z) edge
  edge-run (c ∷ us) vs i e edge = go (dec_lt i (length s)) (λ j f g. edge-run us vs j f g)
    where
      go : Dec (i < length s) → ((j : ℕ) → chars (drop j s) ≡ us ++ vs → Edge s j → Edge s (j + widths us)) → Edge s (i + (width c + widths us))
      go (no h) ih = absurd (let z : 0 ≡ suc (length (us ++ vs)) = ap length (sym (chars_end s i (omega arith)) ∙ e) in omega arith)
      go (yes h) ih =
          let both = sym (chars-at s i h) ∙ e in
          let w : width (char_at (drop i s)) ≡ width c = ap size both in
          let z : i + width (char_at (drop i s)) + widths us ≡ i + (width c + widths us) = omega arith in
          subst (Edge s) z (ih (i + width (char_at (drop i s))) (ap rest both) (edge-step s i h edge))

  -- So is the end of the token that is read there.
  token-edge : (i : ℕ) → i < length s → Edge s i → Edge s (token_at s i).end
  unfolding token_at
  token-edge i h edge = subst (λ (n : ℕ). Edge s (i + n)) (sym long) (edge-run (t.head ∷ t.body) t.tail i whole edge)
    where
      next : List Char
      next = chars (drop (i + width (char_at (drop i s))) s)

      t : Step (after_dot_at s i) (char_at (drop i s) ∷ next)
      t = step (after_dot_at s i) (char_at (drop i s)) next (subst Read (chars-at s i h) (read-chars (drop i s)))

      whole : chars (drop i s) ≡ (t.head ∷ t.body) ++ t.tail
      whole = chars-at s i h ∙ t.whole

      long : (lexeme (after_dot_at s i) (drop i s)).size ≡ widths (t.head ∷ t.body)
      long = ap (λ (cs : List Char). (lexeme_of (after_dot_at s i) cs).size) whole ∙ ap (λ (l : Lexeme). l.size) t.lexes

  -- Every token of the list starts and ends at one.
  abbrev Bounded : List Token → Type 0
  Bounded [] = Unit {0}
  Bounded (t ∷ ts) = (Edge s t.start × Edge s t.end) × Bounded ts

  bounded : (fuel i : ℕ) → length s ≤ i + fuel → Edge s i → Bounded (tokens_from s i)
  bounded zero i f edge = subst Bounded (sym (from_end s i (omega arith))) tt
  bounded (suc fuel) i f edge = go (dec_lt i (length s)) (λ j g k. bounded fuel j g k)
    where
      go : Dec (i < length s) → ((j : ℕ) → length s ≤ j + fuel → Edge s j → Bounded (tokens_from s j)) → Bounded (tokens_from s i)
      go (no h) ih = subst Bounded (sym (from_end s i (omega arith))) tt
      go (yes h) ih =
          let p = step_fits s i h in
          let e = token-edge i h edge in
          subst Bounded (sym (from_step s i h)) ((subst (Edge s) (sym p.0) edge, e), ih (token_at s i).end (omega arith) e)

  among : (ts : List Token) → Bounded ts → {t : Token} → Memᴰ t ts → Edge s t.start × Edge s t.end
  among [] b {t = t} x'' = elim x'' [ ]
  among (u ∷ ts) b (Memᴰ.head e) = (subst (λ (t : Token). Edge s t.start) (sym e) b.0.0, subst (λ (t : Token). Edge s t.end) (sym e) b.0.1)
  among (u ∷ ts) b (Memᴰ.tail m) = among ts b.1 m

  pub token_edges : {t : Token} → Memᴰ t (tokens s) → Edge s t.start × Edge s t.end
  token_edges m = among (tokens s) (subst Bounded (sym (from_start s)) (bounded (length s) 0 (omega arith) (edge_start s))) m
