-- The copy as it grows: up to an offset it is masked, and from there on it is still the text. Assumes nothing.
use Prim.Native.Nat.{ℕ, ◌+◌, ◌-◌, ◌≤◌, ◌<◌}
use native.Mathlib.Omega.{arith}
use mathlib.Core.Path.{◌≡◌, refl, sym, ap, ap₂, ◌∙◌, subst}
use mathlib.Core.List.{List, [], ◌∷◌, ◌++◌, append_assoc, append-nil}
use mathlib.Core.Bool.{false}
use lib.ListN.{length, drop, length-append, length-drop, take-append-drop, drop_of_length-le}
use lib.Seq.{drop_at, drop-drop}
use Rattle.rules.specs.Kinds.{hiding_kind}
use Rattle.rules.specs.Tokens.{Token, token, tokens_from, lexeme, after_dot_at}
use Rattle.rules.specs.Masking.{front, back, hide, mask_token, mask_tokens, masked}
use Rattle.rules.specs.Answers.{filled}
use Rattle.rules.proofs.Visible.{Fit, Fits, mask_length}
use Rattle.rules.proofs.Masked.{length-masked, fits_from}
use Rattle.rules.proofs.Edges.{from_start, from_step, from_end}
use Rattle.lexer.specs.declared.token.Lexed.{Lexed}
use Rattle.lexer.specs.declared.token.Token.{Token as CodeToken}
use Rattle.lexer.specs.Ends.{ends_at}
use Rattle.lexer.proofs.Ends.{next_is, next_lies}
use Rattle.edges.specs.Walks.{Comes}
use Rattle.masking.specs.Spans.{bytes_of, Span}
use Rattle.masking.specs.Walks.{Copied}
use Rattle.masking.proofs.Spans.{span_length}
use Rattle.masking.proofs.Kept.{keeps_all}
use Rattle.masking.proofs.Hiding.{hide_none, hide-inside}

-- A front of one length stored over another.
pub filled_over : (x y buffer : List ℕ) → length x ≡ length y → filled x (filled y buffer) ≡ filled x buffer
filled_over x y buffer e = ap (λ (l : List ℕ). x ++ l) (drop_at y (drop (length y) buffer) (length x) (sym e) ∙ ap (λ (n : ℕ). drop n buffer) (sym e))

pub filled-room : (x buffer : List ℕ) → buffer ≡ filled x buffer → length x ≤ length buffer
filled-room x buffer e = let l = ap length e ∙ length-append x (drop (length x) buffer) in omega arith

module _ (s copy₀ : List ℕ) (room : length s ≤ length copy₀) where
  pub copied_none : copy₀ ≡ filled s copy₀ → Copied s copy₀ copy₀ 0
  unfolding masked
  copied_none e = record { done = []; size = refl; bytes = e; all = ap (λ (ts : List Token). mask_tokens ts s) (sym (from_start s)) }

  pub copied_length : (copy : List ℕ) (i : ℕ) → i ≤ length s → Copied s copy₀ copy i → length copy ≡ length copy₀
  copied_length copy i h c = let z = c.size in ap length c.bytes ∙ simp (length-append, length-drop) (omega arith)

  pub copied_all : (copy : List ℕ) (i : ℕ) → length s ≤ i → Copied s copy₀ copy i → copy ≡ filled (masked s) copy₀
  unfolding mask_tokens
  copied_all copy i h c =
      let e : drop i s ≡ [] = drop_of_length-le s h in
      let t : mask_tokens (tokens_from s i) (drop i s) ≡ [] = ap₂ mask_tokens (from_end s i h) e in
      let d : c.done ≡ masked s = sym (append-nil c.done) ∙ ap (λ (l : List ℕ). c.done ++ l) (sym t) ∙ c.all in
      c.bytes
      ∙ ap₂ (λ (x y : List ℕ). x ++ (y ++ drop (length s) copy₀)) d e
      ∙ ap (λ (n : ℕ). masked s ++ drop n copy₀) (sym (length-masked s))

  -- one token more: what `next_token` answers at i
  module _ (i : ℕ) (h : i < length s) (r : Lexed) (e : r ≡ ends_at i (lexeme (after_dot_at s i) (drop i s))) where
    abbrev bs : List ℕ
    bs = bytes_of s i r.end

    next_span : Span s i r.end
    next_span = next_lies s i r h e

    listed : tokens_from s i ≡ token r.kind i r.end ∷ tokens_from s r.end
    listed = from_step s i h ∙ ap (λ (t : Token). t ∷ tokens_from s t.end) (next_is s i r e)

    next_apart : Fit r.kind bs
    next_apart = (subst (λ (ts : List Token). Fits ts (drop i s)) listed (fits_from s i)).1

    rest : drop (r.end - i) (drop i s) ≡ drop r.end s
    rest = let n : i + (r.end - i) ≡ r.end = omega (arith, next_span) in drop-drop (r.end - i) i s ∙ ap (λ (m : ℕ). drop m s) n

    masks : mask_tokens (tokens_from s i) (drop i s) ≡ mask_token r.kind bs ++ mask_tokens (tokens_from s r.end) (drop r.end s)
    unfolding mask_tokens
    masks =
        ap (λ (ts : List Token). mask_tokens ts (drop i s)) listed
        ∙ ap (λ (l : List ℕ). mask_token r.kind bs ++ mask_tokens (tokens_from s r.end) l) rest

    cut : drop i s ≡ bs ++ drop r.end s
    cut = sym (take-append-drop (r.end - i) (drop i s)) ∙ ap (λ (l : List ℕ). bs ++ l) rest

    copied_more : (copy copy' : List ℕ) → Copied s copy₀ copy i → copy' ≡ hide (i + front r.kind bs) (r.end - back r.kind bs) copy → Copied s copy₀ copy' r.end
    unfolding mask_token
    copied_more copy copy' c f =
        let l = span_length s i r.end next_span in
        let m = mask_length r.kind bs next_apart in
        let z = c.size in
        let y = next_span in
        let p = next_apart in
        let n : r.end - back r.kind bs ≡ i + (length bs - back r.kind bs) = omega arith in
        let tail = drop r.end s ++ drop (length s) copy₀ in
        let w = length-append c.done (mask_token r.kind bs) in
        record {
          done = c.done ++ mask_token r.kind bs;
          size = omega arith;
          bytes =
              f
              ∙ ap₂ (λ (b : ℕ) (x : List ℕ). hide (i + front r.kind bs) b x) n (c.bytes ∙ ap (λ (x : List ℕ). c.done ++ (x ++ drop (length s) copy₀)) cut ∙ ap (λ (x : List ℕ). c.done ++ x) (append_assoc bs _ _))
              ∙ hide-inside c.done bs tail (front r.kind bs) (length bs - back r.kind bs) (omega arith) (omega arith) i z
              ∙ sym (append_assoc c.done (mask_token r.kind bs) tail);
          all = append_assoc c.done (mask_token r.kind bs) _ ∙ ap (λ (x : List ℕ). c.done ++ x) (sym masks) ∙ c.all;
        }

    -- a kind that hides nothing leaves the copy as it is
    copied_same : (copy : List ℕ) → hiding_kind r.kind ≡ false → Copied s copy₀ copy i → Copied s copy₀ copy r.end
    copied_same copy k c =
        let a = keeps_all r.kind bs k in
        let l = span_length s i r.end next_span in
        let y = next_span in
        let from : i + front r.kind bs ≡ r.end = omega arith in
        let to : r.end - back r.kind bs ≡ r.end = omega arith in
        copied_more copy copy c (rw (from, to) (sym (hide_none r.end copy)))

  -- the token that comes on a walk
  module _ (i : ℕ) (t : CodeToken) (end : ℕ) (n : Comes s i t end) where
    abbrev r : Lexed
    r = record { kind = t.kind; end = t.end }

    within : i < length s
    within = omega (arith, n.moves, n.inside)

    pub came_apart : Fit t.kind (bytes_of s t.start t.end)
    came_apart = subst (λ (j : ℕ). Fit t.kind (bytes_of s j t.end)) (sym n.start) (next_apart i within r n.lexed)

    pub came_more : (copy copy' : List ℕ) → Copied s copy₀ copy i
        → copy' ≡ hide (t.start + front t.kind (bytes_of s t.start t.end)) (t.end - back t.kind (bytes_of s t.start t.end)) copy → Copied s copy₀ copy' end
    came_more copy copy' c f =
        subst (Copied s copy₀ copy') n.upto
        (copied_more i within r n.lexed copy copy' c (f ∙ ap (λ (j : ℕ). hide (j + front t.kind (bytes_of s j t.end)) (t.end - back t.kind (bytes_of s j t.end)) copy) n.start))

    pub came_same : (copy : List ℕ) → hiding_kind t.kind ≡ false → Copied s copy₀ copy i → Copied s copy₀ copy end
    came_same copy k c = subst (Copied s copy₀ copy) n.upto (copied_same i within r n.lexed copy k c)
