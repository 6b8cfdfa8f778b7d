-- Lexemes with a closing delimiter: the shape of their body, and the steps of a text that begins with one.
use Prim.Native.Nat.{ℕ, zero, suc, ◌+◌, ◌<◌}
use native.Mathlib.Omega.{arith}
use mathlib.Core.Path.{◌≡◌, refl, sym, ap, ◌∙◌, subst}
use mathlib.Core.List.{List, [], ◌∷◌, ◌++◌, append_assoc, append-nil}
use mathlib.Core.Bool.{Bool, true, false}
use Rattle.rules.specs.Utf8.{Char, width}
use Rattle.rules.specs.Lexeme.{first, is, Body, further, closed_by, open_to, enclosed}
use Rattle.rules.specs.Tokens.{lexeme_of}
use Rattle.rules.specs.Masking.{front, back}
use Rattle.rules.proofs.Reading.{flatten, widths, widths_append}
use Rattle.rules.proofs.Proper.{Propers, propers_left}
use Rattle.rules.proofs.Masks.{Kept, none, hash, hashes, kept_first}
use Rattle.rules.proofs.Step.{Step}
use Rattle.rules.proofs.Rules.{plain, plain_step, hiding_step}
use Rattle.rules.proofs.Tests.{clash}

-- cs is a body that F reads: not closed, or closed by the delimiter x ∷ bs, of which Close speaks; what comes next does not begin with a code of Stop.
pub data Shape (F : List Char → Body) (Close : Char → List Char → Type 0) (Stop : ℕ → Bool) (cs : List Char) : Type 0 where
  unclosed : F cs ≡ open_to (widths cs) → Shape F Close Stop cs
  closing : (us : List Char) (x : Char) (bs vs : List Char) → cs ≡ us ++ (x ∷ (bs ++ vs)) → Close x bs → Stop (first vs) ≡ false
      → ((after : List Char) → Stop (first after) ≡ false → F (us ++ (x ∷ (bs ++ after))) ≡ closed_by (widths us + widths (x ∷ bs)))
      → Shape F Close Stop cs

pub first_mid : (us : List Char) (x : Char) (vs ws : List Char) → first (us ++ (x ∷ vs)) ≡ first (us ++ (x ∷ ws))
first_mid [] x vs ws = refl
first_mid (u ∷ us) x vs ws = refl

-- one more character in front, by which F goes on as G
pub more : {F G : List Char → Body} {Close : Char → List Char → Type 0} {Stop : ℕ → Bool} (c : Char) {cs : List Char}
    → ((vs : List Char) → first vs ≡ first cs → F (c ∷ vs) ≡ further (width c) (G vs)) → Shape G Close Stop cs → Shape F Close Stop (c ∷ cs)
more c {cs} f (unclosed e) = unclosed (f cs refl ∙ ap (further (width c)) e)
more c {cs} f (closing us x bs vs w k s a) =
    closing (c ∷ us) x bs vs (ap {B = List Char} (λ (l : List Char). c ∷ l) w) k s
    (λ after h. f (us ++ (x ∷ (bs ++ after))) (first_mid us x (bs ++ after) (bs ++ vs) ∙ ap first (sym w)) ∙ ap (further (width c)) (a after h) ∙ ap closed_by (omega arith))

-- over hidden characters
module _ (F : List Char → Body) (empty : F [] ≡ open_to 0) (skip : (vs : List Char) → F (hash ∷ vs) ≡ further 1 (F vs)) where
  pub open_hashes : (n : ℕ) → F (hashes n) ≡ open_to n
  open_hashes zero = empty
  open_hashes (suc n) = skip (hashes n) ∙ ap (further 1) (open_hashes n) ∙ ap open_to (omega arith)

  pub shut_hashes : (n m : ℕ) (vs : List Char) → F vs ≡ closed_by m → F (hashes n ++ vs) ≡ closed_by (n + m)
  shut_hashes zero m vs e = e ∙ ap closed_by (omega arith)
  shut_hashes (suc n) m vs e = skip (hashes n ++ vs) ∙ ap (further 1) (shut_hashes n m vs e) ∙ ap closed_by (omega arith)

-- A text whose lexeme is c, fs and a body that F reads
module _ (d : Bool) (F : List Char → Body) (Close : Char → List Char → Type 0) (Stop : ℕ → Bool) (c : Char) (fs cs : List Char) (k err : ℕ)
    (reads : (vs : List Char) → lexeme_of d (c ∷ (fs ++ vs)) ≡ enclosed (width c + widths fs) (F vs) k err)
    (proper : Propers cs) where
  pub open_step : F cs ≡ open_to (widths cs) → F (hashes (widths cs)) ≡ open_to (widths cs)
      → ((Y : List ℕ) → front err (c.bytes ++ (flatten fs ++ Y)) ≡ width c + widths fs) → ((Y : List ℕ) → back err (c.bytes ++ (flatten fs ++ Y)) ≡ 0) → Step d (c ∷ (fs ++ cs))
  open_step e h ef eb =
      hiding_step d (c ∷ (fs ++ cs)) c fs cs [] [] err (width c + widths fs + widths cs) (ap {B = List Char} (λ (l : List Char). c ∷ (fs ++ l)) (sym (append-nil cs))) proper (omega arith)
      (ef (flatten cs ++ [])) (eb (flatten cs ++ [])) (λ h. clash h refl)
      (ap (λ (l : List Char). lexeme_of d (c ∷ (fs ++ l))) (append-nil cs) ∙ reads cs ∙ ap (λ (b : Body). enclosed (width c + widths fs) b k err) e)
      gone
    where
      gone : (after : List Char) → Kept [] after → lexeme_of d (c ∷ (fs ++ (hashes (widths cs) ++ ([] ++ after)))) ≡ is err (width c + widths fs + widths cs)
      gone _ none = ap (λ (l : List Char). lexeme_of d (c ∷ (fs ++ l))) (append-nil (hashes (widths cs))) ∙ reads (hashes (widths cs)) ∙ ap (λ (b : Body). enclosed (width c + widths fs) b k err) h

  pub shut_step : (us : List Char) (x : Char) (bs vs : List Char) → cs ≡ us ++ (x ∷ (bs ++ vs)) → 0 < width x
      → Stop (first vs) ≡ false
      → ((after : List Char) → Stop (first after) ≡ false → F (us ++ (x ∷ (bs ++ after))) ≡ closed_by (widths us + widths (x ∷ bs)))
      → ((after : List Char) → Stop (first after) ≡ false → F (hashes (widths us) ++ (x ∷ (bs ++ after))) ≡ closed_by (widths us + widths (x ∷ bs)))
      → ((Y : List ℕ) → front k (c.bytes ++ (flatten fs ++ Y)) ≡ width c + widths fs) → ((Y : List ℕ) → back k (c.bytes ++ (flatten fs ++ Y)) ≡ widths (x ∷ bs)) → Step d (c ∷ (fs ++ cs))
  shut_step us x bs vs w wx s a h ef eb =
      hiding_step d (c ∷ (fs ++ cs)) c fs us (x ∷ bs) vs k (width c + widths fs + (widths us + widths (x ∷ bs))) (ap {B = List Char} (λ (l : List Char). c ∷ (fs ++ l)) w)
      (propers_left us (x ∷ (bs ++ vs)) (subst Propers w proper)) (omega arith)
      (ef (flatten us ++ flatten (x ∷ bs))) (eb (flatten us ++ flatten (x ∷ bs))) (λ h. omega arith)
      (reads (us ++ (x ∷ (bs ++ vs))) ∙ ap (λ (b : Body). enclosed (width c + widths fs) b k err) (a vs s))
      (λ after p. reads (hashes (widths us) ++ (x ∷ (bs ++ after))) ∙ ap (λ (b : Body). enclosed (width c + widths fs) b k err) (h after (ap Stop (kept_first p) ∙ s)))

  pub shown_step : (us : List Char) (x : Char) (bs vs : List Char) → cs ≡ us ++ (x ∷ (bs ++ vs)) → Stop (first vs) ≡ false
      → ((after : List Char) → Stop (first after) ≡ false → F (us ++ (x ∷ (bs ++ after))) ≡ closed_by (widths us + widths (x ∷ bs)))
      → plain k ≡ true → Step d (c ∷ (fs ++ cs))
  shown_step us x bs vs w s a p =
      plain_step d (c ∷ (fs ++ cs)) c (fs ++ (us ++ (x ∷ bs))) vs k (width c + widths fs + (widths us + widths (x ∷ bs)))
      (ap {B = List Char} (λ (l : List Char). c ∷ (fs ++ l)) w ∙ simp append_assoc) p (simp widths_append (omega arith))
      (λ after h. simp append_assoc (reads (us ++ (x ∷ (bs ++ after))) ∙ ap (λ (b : Body). enclosed (width c + widths fs) b k err) (a after (ap Stop (kept_first h) ∙ s))))
