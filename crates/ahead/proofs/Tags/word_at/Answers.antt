-- One bit more.
use Rattle.std.proofs.Common.{◌≡◌, ◌+◌, ◌-◌, ◌≤◌, Bool, true, false, refl, sym, subst, ◌∙◌, arith}
use mir.Val.{bool_byte}
use Rattle.ahead.specs.Marks.{Lone}
use Rattle.ahead.proofs.Bits.{word_more, size_more}
use Rattle.ahead.proofs.Tags.word_at.Goals as goal

-- a test as a number
few_of : (t : Bool) → bool_byte t ≤ 1
few_of true = omega arith
few_of false = omega arith

one_of : (t : Bool) → bool_byte t ≡ 1 → t ≡ true
one_of true e = refl
one_of false e = absurd (omega (arith, e))

pub loop-k-preserved : goal.loop-k-preserved
loop-k-preserved c =
    let s = c.args.self.text.now in
    let f = c.from.result in
    let v = c.loop-k.invariant in
    let few : f ≤ 1 = omega (arith, few_of c.is_lone.result, c.from.ensures) in (
      omega arith,
      (size_more c.loop-k.word f c.loop-k.k few (omega arith) v.0 v.1).0,
      word_more s (c.args.at + (c.loop-k.k - 1)) c.loop-k.word f few (λ e. c.is_lone.ensures (one_of c.is_lone.result (sym c.from.ensures ∙ e)))
          (λ i e. let z : c.args.at + c.loop-k.k + i ≡ c.args.at + (c.loop-k.k - 1) + 1 + i = omega arith in subst (Lone s) z (v.2 i e)),
    )
