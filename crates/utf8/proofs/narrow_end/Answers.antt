-- A block of 16 more. Assumes nothing.
use Rattle.std.proofs.Common.{◌≡◌, sym, ap, ◌∙◌, false, get_or, arith}
use Rattle.rules.specs.Utf8.{utf8_tail}
use Rattle.utf8.proofs.Passing.{pass_none, pass_on}
use Rattle.utf8.proofs.Pairs.{after_none, pass_bytes}
use Rattle.utf8.proofs.narrow_end.Goals as goal

pub loop-k-init : goal.loop-k-init
loop-k-init g c =
    let s = c.args.s.now in
    let t : utf8_tail (get_or s c.args.j 0) ≡ false = ap utf8_tail (sym c.byte_at.ensures) ∙ sym c.is_tail.ensures ∙ c.if-is_tail.false in
    (c.requires.from, rw (after_none g.row.N s c.args.j t) (pass_none s c.args.j c.requires.from))

pub loop-k-preserved : goal.loop-k-preserved
loop-k-preserved g c =
    let s = c.args.s.now in
    let k = c.loop-k.k in (
      omega arith,
      pass_on s _ _ _ c.loop-k.invariant.1
          (pass_bytes g.row.N s k 16 (omega (arith, c.requires.few))
          (λ i a b. c.requires.law i (omega (arith, c.requires.few)) (c.all16.ensures c.if-all16.true i a b))),
    )
