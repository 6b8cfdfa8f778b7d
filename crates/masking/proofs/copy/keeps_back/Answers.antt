-- What each kind keeps. A comment has two bytes at least, and the second says which kind of comment it is.
use Rattle.std.proofs.Common.{◌≡◌, ℕ, ◌+◌, ◌*◌, List, get_or, refl, sym, ap, ◌∙◌, arith}
use mathlib.Core.Bool.{Bool, true, false, cond}
use mir.Val.{bool_byte}
use lib.Dec.{eqb}
use Rattle.rules.specs.Characters.{star}
use Rattle.rules.specs.Kinds.{Comment}
use Rattle.rules.specs.Masking.{back}
use Rattle.masking.specs.Spans.{bytes_of, Hiding}
use Rattle.masking.proofs.Spans.{span_at}
use Rattle.masking.proofs.Kept.{front_comment, back_comment}
use Rattle.masking.proofs.copy.keeps_back.Goals as goal

-- a comment by the byte that the code reads
module _ (k : ℕ) (s : List ℕ) (start end : ℕ) (h : Hiding k s start end) (b : ℕ) (e : k ≡ Comment) (r : b ≡ get_or s (start + 1) 0) where
  comment : back k (bytes_of s start end) ≡ cond (eqb b star) 2 0
  comment =
      let f = front_comment k (bytes_of s start end) e in
      back_comment k _ e ∙ ap (λ (n : ℕ). cond (eqb n star) 2 0) (span_at s start end h.span 1 _ refl (omega (arith, h.apart, h.span)) ∙ sym r)

twice : (t : Bool) → 2 * bool_byte t ≡ cond t 2 0
twice true = refl
twice false = refl

pub returns-in-2 : goal.returns-in-2
returns-in-2 c =
    ap (λ (n : ℕ). 2 * n) c.from.ensures
    ∙ twice (eqb c.byte_at.result star)
    ∙ sym (comment c.args.token.kind c.args.text.now c.args.token.start c.args.token.end c.requires c.byte_at.result c.in-2.is c.byte_at.ensures)
