-- Byte by byte, to the first that is none of a tag, or to the text's end.
use Rattle.std.proofs.Common.{◌≡◌, ℕ, ◌+◌, length, drop, sym, ap, ◌∙◌, arith, below_more}
use lib.ListN.{get_or-eq_default}
use Rattle.rules.specs.Dollars.{tag_byte}
use Rattle.ahead.specs.Slots.{mixed, hash_from}
use Rattle.ahead.proofs.Slots.{hash_tag, hash_over, hash_end}
use Rattle.ahead.proofs.hash_at.Goals as goal

pub returns-then-not-is_tag_byte : goal.returns-then-not-is_tag_byte
returns-then-not-is_tag_byte c =
    let l = c.loop-j in
    let o = sym c.is_tag_byte.ensures ∙ c.if-not-is_tag_byte.true in (
      c.mix-then-not-is_tag_byte.ensures ∙ ap (λ (x : ℕ). mixed l.b x 0) c.mix.ensures ∙ sym (hash_over l.a l.b l.h c.args.text.now l.j (omega arith) o) ∙ l.invariant.1,
      record { from = omega arith; upto = omega arith; tags = l.invariant.0; over = o },
    )

pub loop-j-preserved : goal.loop-j-preserved
loop-j-preserved c =
    let l = c.loop-j in
    let o = sym c.is_tag_byte.ensures ∙ c.if-not-is_tag_byte.false in (
      below_more _ _ l.invariant.0 (λ h. o),
      ap (λ (x : ℕ). hash_from l.b l.a x (drop (l.j + 1) c.args.text.now)) c.mix-h.ensures ∙ sym (hash_tag l.a l.b l.h c.args.text.now l.j (omega arith) o) ∙ l.invariant.1,
    )

pub returns : goal.returns
returns c =
    let l = c.loop-j in
    let s = c.args.text.now in
    let e : l.j ≡ length s = omega arith in (
      c.mix-3.ensures ∙ ap (λ (x : ℕ). mixed l.b x 0) c.mix-2.ensures ∙ sym (hash_end l.a l.b l.h s l.j (omega arith)) ∙ l.invariant.1,
      record { from = omega arith; upto = omega arith; tags = λ k h m. l.invariant.0 k (omega arith) m; over = ap tag_byte (get_or-eq_default s 0 (omega arith)) },
    )
