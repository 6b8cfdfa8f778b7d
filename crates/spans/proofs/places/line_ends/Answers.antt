-- The line ends with a block more, and with a byte more.
use Rattle.std.proofs.Common.{◌≡◌, ◌+◌, ◌*◌, sym, ap, arith, ◌∙◌}
use Rattle.spans.specs.Sums.{bit, between, end_at}
use Rattle.spans.proofs.Sums.{sum_none, sum_next, sum_join}
use Rattle.spans.proofs.Surplus.{bit_most, byte_bit}
use Rattle.spans.proofs.Blocks.{end_marks, ends_most}
use Rattle.spans.proofs.places.line_ends.Goals as goal

pub loop-k-init : goal.loop-k-init
loop-k-init c = sym (sum_none _ _)

pub overflow_add-n : goal.overflow_add-n
overflow_add-n c =
    let s = c.args.text.now in
    let i = 128 * c.loop-k.k in
    omega (arith, c.from-n.ensures, c.count.ensures, end_marks s i (i + 128), sum_join (end_at s) 0 i (i + 128) (omega arith) (omega arith), ends_most s 0 (i + 128) (omega arith))

pub loop-k-preserved : goal.loop-k-preserved
loop-k-preserved c =
    let s = c.args.text.now in
    let i = 128 * c.loop-k.k in
    let e : i + 128 ≡ 128 * (c.loop-k.k + 1) = omega arith in
    omega (arith, c.from-n.ensures, c.count.ensures, end_marks s i (i + 128), sum_join (end_at s) 0 i (i + 128) (omega arith) (omega arith), ap (between (end_at s) 0) e)

pub overflow_add-n-in-loop-i : goal.overflow_add-n-in-loop-i
overflow_add-n-in-loop-i c =
    omega (arith, c.from-n-in-loop-i.ensures ∙ byte_bit c.end_at.result, bit_most c.end_at.result, ends_most c.args.text.now 0 c.loop-i.i (omega arith))

pub loop-i-preserved : goal.loop-i-preserved
loop-i-preserved c =
    (omega arith, omega (arith, c.from-n-in-loop-i.ensures ∙ byte_bit c.end_at.result ∙ ap bit c.end_at.ensures, sum_next (end_at c.args.text.now) 0 c.loop-i.i (omega arith)))
