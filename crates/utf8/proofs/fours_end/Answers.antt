-- A character of four bytes more. Assumes nothing.
use Rattle.std.proofs.Common.{Bool, cond, sym, ap, ◌∙◌, arith}
use Rattle.rules.proofs.Decoding.{at_index, formed_four}
use Rattle.utf8.proofs.Passing.{pass_none, pass_char}
use Rattle.utf8.proofs.fours_end.Goals as goal

pub loop-k-init : goal.loop-k-init
loop-k-init c = pass_none c.args.s.now c.args.j c.requires

pub loop-k-preserved : goal.loop-k-preserved
loop-k-preserved c =
    let s = c.args.s.now in
    let k = c.loop-k.k in
    let f = at_index s k ∙ formed_four _ _ _ _ (omega arith) ∙ ap (λ (t : Bool). cond t 4 0) (sym c.is_four.ensures ∙ c.if-is_four.true) in
    pass_char s _ k 4 c.loop-k.invariant (omega arith) (sym f) (λ z. omega arith)
