-- What a token keeps at its front and at its back, by its kind. Assumes nothing.
use Prim.Native.Nat.{ℕ, ◌≤◌, ◌<◌}
use native.Mathlib.Decide.{dec_lt}
use native.Mathlib.Omega.{arith}
use mathlib.Core.Path.{◌≡◌, refl}
use mathlib.Core.Logic.{⊎_elim}
use mathlib.Core.List.{List}
use mathlib.Core.Bool.{Bool, true, false, cond, ◌||◌}
use lib.Dec.{leb, eqb}
use lib.ListN.{length, get_or}
use borrow.Author.Tests.{ne_eqb}
use Rattle.rules.specs.Utf8.{within}
use Rattle.rules.specs.Characters.{star}
use Rattle.rules.specs.Kinds.{Comment, StringToken, HereDoc, ErrorMultilineCommentIsNotClosed, ErrorSingleQuoteIsNotClosed, ErrorBackQuoteIsNotClosed, hiding_kind}
use Rattle.rules.specs.Masking.{quote_width, tag_width, front, back}
use Rattle.rules.proofs.Tests.{clash, eqb-true, or_cases, or_left, or_right, both, within-true, le-true}
use Rattle.rules.proofs.Parts.{or_none}

module _ (k : ℕ) (bs : List ℕ) where
  pub front_comment : k ≡ Comment → front k bs ≡ 2
  unfolding front
  front_comment e = rw e

  pub front_open_comment : k ≡ ErrorMultilineCommentIsNotClosed → front k bs ≡ 2
  unfolding front
  front_open_comment e = rw e

  pub front_here : k ≡ HereDoc → front k bs ≡ tag_width bs
  unfolding front
  front_here e = rw e

  -- one of the quotes' kinds: 5, or 41 to 43
  quotes : hiding_kind k ≡ true → (k ≡ Comment → ⊥) → (k ≡ ErrorMultilineCommentIsNotClosed → ⊥) → (k ≡ HereDoc → ⊥)
      → (eqb k StringToken || within ErrorSingleQuoteIsNotClosed ErrorBackQuoteIsNotClosed k) ≡ true
  quotes h c m d =
      ⊎_elim
      (λ a. ⊎_elim (λ b. ⊎_elim (λ x. absurd (c (eqb-true x))) (λ x. or_left (eqb k StringToken) _ x) (or_cases (eqb k Comment) (eqb k StringToken) b))
      (λ b. absurd (d (eqb-true b))) (or_cases (eqb k Comment || eqb k StringToken) (eqb k HereDoc) a))
      (λ w. or_right (eqb k StringToken) _ (unclosed (within-true ErrorMultilineCommentIsNotClosed ErrorBackQuoteIsNotClosed k w) (dec_lt ErrorMultilineCommentIsNotClosed k)))
      (or_cases (eqb k Comment || eqb k StringToken || eqb k HereDoc) (within ErrorMultilineCommentIsNotClosed ErrorBackQuoteIsNotClosed k) h)
    where
      unclosed : (ErrorMultilineCommentIsNotClosed ≤ k) × (k ≤ ErrorBackQuoteIsNotClosed) → Dec (ErrorMultilineCommentIsNotClosed < k) → within ErrorSingleQuoteIsNotClosed ErrorBackQuoteIsNotClosed k ≡ true
      unclosed w (yes l) = both (leb ErrorSingleQuoteIsNotClosed k) (leb k ErrorBackQuoteIsNotClosed) (le-true ErrorSingleQuoteIsNotClosed k (omega arith)) (le-true k ErrorBackQuoteIsNotClosed w.1)
      unclosed w (no l) = absurd (m (omega arith))

  pub front_quote : hiding_kind k ≡ true → (k ≡ Comment → ⊥) → (k ≡ ErrorMultilineCommentIsNotClosed → ⊥) → (k ≡ HereDoc → ⊥) → front k bs ≡ quote_width bs
  unfolding front
  front_quote h c m d = rw (ne_eqb k Comment c, ne_eqb k ErrorMultilineCommentIsNotClosed m, quotes h c m d)

  pub back_comment : k ≡ Comment → back k bs ≡ cond (eqb (get_or bs 1 0) star) 2 0
  unfolding back
  back_comment e = rw e

  pub back_string : k ≡ StringToken → back k bs ≡ quote_width bs
  unfolding back
  back_string e = rw e

  pub back_here : k ≡ HereDoc → back k bs ≡ tag_width bs
  unfolding back
  back_here e = rw e

  pub back_none : (k ≡ Comment → ⊥) → (k ≡ StringToken → ⊥) → (k ≡ HereDoc → ⊥) → back k bs ≡ 0
  unfolding back
  back_none c s d = rw (ne_eqb k Comment c, ne_eqb k StringToken s, ne_eqb k HereDoc d)

  -- the other kinds keep all
  pub keeps_all : hiding_kind k ≡ false → (front k bs ≡ length bs) × (back k bs ≡ 0)
  unfolding front back
  keeps_all h = rw (none.0, none.1, none.2, closed.0, closed.1) (refl, refl)
    where
      three : ((eqb k Comment || eqb k StringToken || eqb k HereDoc) ≡ false) × (within ErrorMultilineCommentIsNotClosed ErrorBackQuoteIsNotClosed k ≡ false)
      three = or_none (eqb k Comment || eqb k StringToken || eqb k HereDoc) (within ErrorMultilineCommentIsNotClosed ErrorBackQuoteIsNotClosed k) h

      two : ((eqb k Comment || eqb k StringToken) ≡ false) × (eqb k HereDoc ≡ false)
      two = or_none (eqb k Comment || eqb k StringToken) (eqb k HereDoc) three.0

      one : (eqb k Comment ≡ false) × (eqb k StringToken ≡ false)
      one = or_none (eqb k Comment) (eqb k StringToken) two.0

      none : (eqb k Comment ≡ false) × (eqb k StringToken ≡ false) × (eqb k HereDoc ≡ false)
      none = (one.0, one.1, two.1)

      -- a kind in the range would have been one of 40 to 43
      in_range : ErrorMultilineCommentIsNotClosed ≤ k → k ≤ ErrorBackQuoteIsNotClosed → ⊥
      in_range l m = clash (both (leb ErrorMultilineCommentIsNotClosed k) (leb k ErrorBackQuoteIsNotClosed) (le-true _ _ l) (le-true _ _ m)) three.1

      closed : (eqb k ErrorMultilineCommentIsNotClosed ≡ false) × (within ErrorSingleQuoteIsNotClosed ErrorBackQuoteIsNotClosed k ≡ false)
      closed = (ne_eqb k ErrorMultilineCommentIsNotClosed (λ e. in_range (omega arith) (omega arith)), go (within ErrorSingleQuoteIsNotClosed ErrorBackQuoteIsNotClosed k) refl)
        where
          go : (b : Bool) → within ErrorSingleQuoteIsNotClosed ErrorBackQuoteIsNotClosed k ≡ b → b ≡ false
          go true e = let w = within-true ErrorSingleQuoteIsNotClosed ErrorBackQuoteIsNotClosed k e in absurd (in_range (omega arith) w.1)
          go false e = refl
