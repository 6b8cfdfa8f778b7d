-- Rule 1: nested comments.
use Prim.Native.Nat.{ℕ, zero, suc, ◌+◌}
use native.Mathlib.Omega.{arith}
use mathlib.Core.Path.{◌≡◌, refl, ap, ap₂, ◌∙◌, subst}
use mathlib.Core.List.{List, [], ◌∷◌}
use mathlib.Core.Bool.{Bool, true, false, ◌&&◌}
use lib.Dec.{eqb}
use lib.ListN.{length}
use Rattle.rules.specs.Utf8.{Char, width}
use Rattle.rules.specs.Characters.{star, slash}
use Rattle.rules.specs.Kinds.{Comment, ErrorMultilineCommentIsNotClosed}
use Rattle.rules.specs.Lexeme.{first, further, closed_by, open_to, enclosed}
use Rattle.rules.specs.Spaces.{comment_body}
use Rattle.rules.specs.Tokens.{rule, slash_star, read, lexeme_of}
use Rattle.rules.specs.Masking.{front, back}
use Rattle.rules.proofs.Reading.{widths, Read}
use Rattle.rules.proofs.Proper.{Propers, propers, propers_right, one_byte, one_wide}
use Rattle.rules.proofs.Masks.{hash}
use Rattle.rules.proofs.Step.{Step}
use Rattle.rules.proofs.Rules.{lexeme_by}
use Rattle.rules.proofs.Delimited.{Shape, unclosed, closing, more, open_hashes, shut_hashes, open_step, shut_step}
use Rattle.rules.proofs.Tests.{clash, eqb-true, and_left, and_right}

abbrev pub opens : Char → ℕ → Bool
opens c b = eqb c.code slash && eqb b star

abbrev pub closes : Char → ℕ → Bool
closes c b = eqb c.code star && eqb b slash

-- the clauses of `comment`, by its tests
module _ (c : Char) (cs : List Char) where
  pub comment_taken : (n : ℕ) → comment_body n true (c ∷ cs) ≡ further (width c) (comment_body n false cs)
  unfolding comment_body
  comment_taken n = refl

  pub comment_open : (n : ℕ) → opens c (first cs) ≡ true → comment_body n false (c ∷ cs) ≡ further (width c) (comment_body (suc n) true cs)
  unfolding comment_body
  comment_open n e = rw (e, comment_body)

  pub comment_less : (n : ℕ) → opens c (first cs) ≡ false → closes c (first cs) ≡ true → comment_body (suc n) false (c ∷ cs) ≡ further (width c) (comment_body n true cs)
  unfolding comment_body
  comment_less n e f = rw (e, f, comment_body)

  pub comment_close : opens c (first cs) ≡ false → closes c (first cs) ≡ true → comment_body 0 false (c ∷ cs) ≡ closed_by 2
  unfolding comment_body
  comment_close e f = rw (e, f, comment_body)

  pub comment_other : (n : ℕ) → opens c (first cs) ≡ false → closes c (first cs) ≡ false → comment_body n false (c ∷ cs) ≡ further (width c) (comment_body n false cs)
  unfolding comment_body
  comment_other n e f = rw (e, f, comment_body)

-- `*/`
record Pair (x : Char) (bs : List Char) : Type 0 where
  star : x.code ≡ star
  slashes : first bs ≡ slash
  single : length bs ≡ 1

Shaped : ℕ → Bool → List Char → Type 0
Shaped n t cs = Shape (comment_body n t) Pair (λ x. false) cs

ends : (c : Char) (cs : List Char) → Propers (c ∷ cs) → opens c (first cs) ≡ false → closes c (first cs) ≡ true → Shaped 0 false (c ∷ cs)
unfolding Shaped
ends c [] p ex ey = clash (and_right (eqb c.code star) (eqb (first []) slash) ey) refl
ends c (y ∷ cs) p ex ey =
    let a : c.code ≡ star = eqb-true (and_left (eqb c.code star) (eqb y.code slash) ey) in
    let b : y.code ≡ slash = eqb-true (and_right (eqb c.code star) (eqb y.code slash) ey) in
    let wc : width c ≡ 1 = one_wide p.0 (omega arith) in
    let wy : width y ≡ 1 = one_wide p.1.0 (omega arith) in
    closing [] c (y ∷ []) cs refl (record { star = a; slashes = b; single = refl }) refl (λ after h. comment_close c (y ∷ after) ex ey ∙ ap closed_by (omega arith))

comment_shape : (n : ℕ) (t : Bool) (cs : List Char) → Propers cs → Shaped n t cs
unfolding comment_body Shaped
comment_shape n t [] p = unclosed refl
comment_shape n true (c ∷ cs) p = more c (λ vs e. comment_taken c vs n) (comment_shape n false cs p.1)
comment_shape n false (c ∷ cs) p = go (opens c (first cs)) (closes c (first cs)) refl refl n (λ m t. comment_shape m t cs p.1)
  where
    go : (x y : Bool) → opens c (first cs) ≡ x → closes c (first cs) ≡ y → (n : ℕ) → ((m : ℕ) (t : Bool) → Shaped m t cs) → Shaped n false (c ∷ cs)
    go true y ex ey n ih = more c (λ vs e. comment_open c vs n (ap (opens c) e ∙ ex)) (ih (suc n) true)
    go false true ex ey zero ih = ends c cs p ex ey
    go false true ex ey (suc n) ih = more c (λ vs e. comment_less c vs n (ap (opens c) e ∙ ex) (ap (closes c) e ∙ ey)) (ih n true)
    go false false ex ey n ih = more c (λ vs e. comment_other c vs n (ap (opens c) e ∙ ex) (ap (closes c) e ∙ ey)) (ih n false)

empty : comment_body 0 false [] ≡ open_to 0
unfolding comment_body
empty = refl

skip : (vs : List Char) → comment_body 0 false (hash ∷ vs) ≡ further 1 (comment_body 0 false vs)
skip vs = comment_other hash vs 0 refl refl

module _ (d : Bool) (c x : Char) (cs : List Char) (r : Read (c ∷ x ∷ cs)) (e : rule c.code x.code ≡ slash_star) (a : c.code ≡ slash) (b : x.code ≡ star) where
  P : Propers (c ∷ x ∷ cs)
  P = propers (c ∷ x ∷ cs) r

  ec : c.bytes ≡ slash ∷ []
  ec = one_byte P.0 slash a (omega arith)

  ex : x.bytes ≡ star ∷ []
  ex = one_byte P.1.0 star b (omega arith)

  reads : (vs : List Char) → lexeme_of d (c ∷ x ∷ vs) ≡ enclosed (width c + (width x + 0)) (comment_body 0 false vs) Comment ErrorMultilineCommentIsNotClosed
  unfolding read
  reads vs = lexeme_by d c (x ∷ vs) slash_star e ∙ ap (λ (n : ℕ). enclosed n (comment_body 0 false vs) Comment ErrorMultilineCommentIsNotClosed) (rw (ec, ex))

  slashes_step : Shaped 0 false cs → Step d (c ∷ x ∷ cs)
  unfolding Shaped front back
  slashes_step (unclosed h) = open_step d (comment_body 0 false) Pair (λ x. false) c (x ∷ []) cs Comment ErrorMultilineCommentIsNotClosed reads P.1.1 h (open_hashes (comment_body 0 false) empty skip (widths cs)) (λ Y. rw (ec, ex)) (λ Y. refl)
  slashes_step (closing us y [] vs w m s f) = absurd (let z = m.single in omega arith)
  slashes_step (closing us y (z ∷ z' ∷ bs) vs w m s f) = absurd (let z = m.single in omega arith)
  slashes_step (closing us y (z ∷ []) vs w m s f) =
      let Q = propers_right us (y ∷ z ∷ vs) (subst Propers w P.1.1) in
      let wy : width y ≡ 1 = one_wide Q.0 (let h = m.star in omega arith) in
      let wz : width z ≡ 1 = one_wide Q.1.0 (let h = m.slashes in omega arith) in
      shut_step d (comment_body 0 false) Pair (λ x. false) c (x ∷ []) cs Comment ErrorMultilineCommentIsNotClosed reads P.1.1 us y (z ∷ []) vs w Q.0.wide s f
      (λ after h. shut_hashes (comment_body 0 false) empty skip (widths us) (width y + (width z + 0)) (y ∷ z ∷ after)
      (comment_close y (z ∷ after) (ap₂ (λ (m n : ℕ). eqb m slash && eqb n star) m.star m.slashes) (ap₂ (λ (m n : ℕ). eqb m star && eqb n slash) m.star m.slashes) ∙ ap closed_by (omega arith)))
      (λ Y. rw (ec, ex)) (λ Y. rw (ec, ex, wy, wz))

pub slash-step : (d : Bool) (c : Char) (cs : List Char) → Read (c ∷ cs) → rule c.code (first cs) ≡ slash_star → c.code ≡ slash → first cs ≡ star → Step d (c ∷ cs)
slash-step d c [] r e a b = absurd (omega arith)
slash-step d c (x ∷ cs) r e a b = slashes_step d c x cs r e a b (comment_shape 0 false cs (propers (c ∷ x ∷ cs) r).1.1)
