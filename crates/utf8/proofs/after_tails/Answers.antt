-- A tail more. Assumes nothing.
use Rattle.std.proofs.Common.{◌≡◌, ℕ, suc, ◌+◌, ◌-◌, sym, ap, ◌∙◌, true, get_or, arith}
use Rattle.rules.specs.Utf8.{utf8_tail}
use Rattle.utf8.specs.Units.{after}
use Rattle.utf8.proofs.Pairs.{after_one, tail_inside}
use Rattle.utf8.proofs.after_tails.Goals as goal

pub loop-end-preserved : goal.loop-end-preserved
loop-end-preserved g c =
    let s = c.args.s.now in
    let end = c.loop-end.end in
    let l = c.loop-end.invariant in
    let t : utf8_tail (get_or s end 0) ≡ true = ap utf8_tail (sym c.byte_at.ensures) ∙ sym c.is_tail.ensures ∙ c.if-is_tail.true in
    let u = tail_inside s end t in
    let n : g.row.N - (end - c.args.k) ≡ suc (g.row.N - (end + 1 - c.args.k)) = omega arith in
    (omega arith, omega (arith, u), omega arith, sym (after_one (g.row.N - (end + 1 - c.args.k)) s end t) ∙ ap (λ (m : ℕ). after m s end) (sym n) ∙ l.3)
