-- One byte more is the text's, and at the end all of them are.
use Rattle.std.proofs.Common.{◌≡◌, ◌∙◌, ◌++◌, List, ℕ, length, get_or, drop, ap, arith}
use mathlib.Core.Path.{refl}
use lib.ListN.{set}
use lib.Seq.{take_all}
use Rattle.runs.proofs.Copies.{joined, joined_more}
use Rattle.runs.proofs.copy_front.Goals as goal

pub loop-i-init : goal.loop-i-init
loop-i-init c = refl

pub loop-i-preserved : goal.loop-i-preserved
loop-i-preserved c =
    let a = c.args in
    let i = c.loop-i.i in
    ap (λ (x : List ℕ). set x i (get_or a.text.now i 0)) c.loop-i.invariant ∙ joined_more i a.text.now a.copy.now (omega arith) (omega arith)

pub returns : goal.returns
returns c =
    let a = c.args in
    let e : c.loop-i.i ≡ length a.text.now = omega arith in
    c.loop-i.invariant
    ∙ ap (λ (n : ℕ). joined n a.text.now a.copy.now) e
    ∙ ap (λ (x : List ℕ). x ++ drop (length a.text.now) a.copy.now) (take_all (length a.text.now) a.text.now (omega arith))
