-- A block without a line end adds its surplus.
use Rattle.std.proofs.Common.{◌≡◌, ℕ, ◌-◌, ◌+◌, sym, ap, arith, ◌∙◌}
use Rattle.spans.specs.Sums.{between, end_at, surplus_at}
use Rattle.spans.proofs.Sums.{sum_none, sum_block}
use Rattle.spans.proofs.Lines.{starts_far}
use Rattle.spans.proofs.Blocks.{end_marks, ends_high, block_most}
use Rattle.spans.proofs.places.line_before.Goals as goal
use Rattle.spans.proofs.places.line_before.Goals.{then-text-upto-lt2+else-from-last, else-text-upto-lt2, else-least-le13-via-then-least-le13+else-count-ne0, else-least-le13-via-else-least-le13}

pub loop-i-init : goal.loop-i-init
loop-i-init c =
    let s = c.args.text.now in
    let i = c.if-text-upto-lt2.i in
    elim c.if-text-upto-lt2.branch [
      | then-text-upto-lt2+else-from-last w ↦
          let p = w.line_by_byte-last.ensures in
          let same : w.line_by_byte-last.result.start ≡ i = omega (arith, p.low, w.if-from-last.false, w.i-is) in
          (omega arith, λ h. omega arith, ap (λ (k : ℕ). between (end_at s) k c.args.upto) (sym same) ∙ p.none, omega (arith, w.n-is, p.more, ap (λ (k : ℕ). between (surplus_at s) k c.args.upto) same))
      | else-text-upto-lt2 w ↦
          let same : c.args.upto ≡ i = omega (arith, w.i-is) in
          (omega arith, λ h. omega arith, ap (λ (k : ℕ). between (end_at s) k c.args.upto) (sym same) ∙ sum_none (end_at s) c.args.upto, omega (arith, w.n-is, sum_none (surplus_at s) c.args.upto, ap (λ (k : ℕ). between (surplus_at s) k c.args.upto) same))
    ]

pub overflow_add-n : goal.overflow_add-n
overflow_add-n c =
    let s = c.args.text.now in
    omega (
      arith,
      sum_block (surplus_at s) c.loop-i.i c.args.upto _ _ (omega arith) (omega arith) c.surplus_of_block-n.ensures c.loop-i.invariant.3,
      block_most s (c.loop-i.i - 128) c.args.upto (omega arith) (omega arith),
    )

pub loop-i-preserved : goal.loop-i-preserved
loop-i-preserved c =
    let s = c.args.text.now in
    let at = c.loop-i.i - 128 in
    let quiet : between (end_at s) at (at + 128) ≡ 0 = elim c.else-least-le13.branch [
      | else-least-le13-via-then-least-le13+else-count-ne0 w ↦ omega (arith, end_marks s at (at + 128), w.count.ensures, w.if-count-ne0.false)
      | else-least-le13-via-else-least-le13 w ↦ ends_high s at (at + 128) (omega arith) (λ k p u. omega (arith, c.extent_of_block-least.ensures.low k p u, w.if-least-le13.false))
    ] in (
      omega arith,
      λ h. omega (arith, c.loop-i.invariant.1 (omega arith)),
      sym (sum_block (end_at s) c.loop-i.i c.args.upto 0 0 (omega arith) (omega arith) (sym quiet) (sym c.loop-i.invariant.2)),
      sum_block (surplus_at s) c.loop-i.i c.args.upto _ _ (omega arith) (omega arith) c.surplus_of_block-n.ensures c.loop-i.invariant.3,
    )

pub returns : goal.returns
returns c = starts_far c.line_by_byte-first.ensures c.loop-i.invariant.0 c.loop-i.invariant.2 c.loop-i.invariant.3

pub overflow_add-result : goal.overflow_add-result
overflow_add-result c =
    let p = returns c in
    omega (arith, p.more, p.high, block_most c.args.text.now c.line_by_byte-first.result.start c.args.upto (omega arith) (omega arith))
