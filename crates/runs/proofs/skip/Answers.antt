-- Eight bytes by their marks. Assumes nothing.
use Rattle.std.proofs.Common.{◌≡◌, ◌*◌, ℕ, List, sym, ap, ap₂, ◌∙◌, Bool, cond, arith}
use Rattle.std.specs.Int.Bits.{bit_xor}
use Rattle.runs.specs.Lanes.{ones, packed, others, marks}
use Rattle.runs.proofs.Firsts.{over_ends, over_more, over_all}
use Rattle.runs.proofs.skip.Goals as goal
use Rattle.runs.proofs.skip.Goals.{then-out, else-out}

-- what is flipped
pub loop-j-init : goal.loop-j-init
unfolding ones
loop-j-init c =
    let flip : (t : Bool) → c.args.out ≡ t → cond c.args.out (0x80 * ones 8) 0 ≡ cond t (0x80 * ones 8) 0 = λ t e. ap (λ (t : Bool). cond t (0x80 * ones 8) 0) e in (
      (omega arith, c.requires, λ n a b. absurd (omega arith)),
      elim c.if-out.branch [ then-out w ↦ w.flip-is ∙ sym (flip _ w.if-out.true) | else-out w ↦ w.flip-is ∙ sym (flip _ w.if-out.false) ],
    )

-- the marks of the eight bytes
marked : (out : Bool) (es s : List ℕ) (j x m flip : ℕ) → x ≡ packed 8 s j → m ≡ others 8 es x → flip ≡ cond out (0x80 * ones 8) 0 → bit_xor m flip ≡ marks out 8 es (packed 8 s j)
marked out es s j x m flip e f g = ap₂ bit_xor (f ∙ ap (others 8 es) e) g

pub returns-then-m-ne0 : goal.returns-then-m-ne0
returns-then-m-ne0 c =
    let a = c.args in
    let l = c.loop-j in
    over_ends a.out a.class.edges a.class.ascii a.text.now (λ k. omega (arith, c.type_inv.text k)) a.at l.j l.invariant.0 (omega arith) _
    (marked a.out a.class.edges a.text.now l.j _ _ _ c.eight.ensures c.others.ensures l.invariant.1) c.if-m-ne0.true

pub loop-j-preserved : goal.loop-j-preserved
loop-j-preserved c =
    let a = c.args in
    let l = c.loop-j in (
      over_more a.out a.class.edges a.class.ascii a.text.now (λ k. omega (arith, c.type_inv.text k)) a.at l.j l.invariant.0 (omega arith) _
          (marked a.out a.class.edges a.text.now l.j _ _ _ c.eight.ensures c.others.ensures l.invariant.1) c.if-m-ne0.false,
      l.invariant.1,
    )

pub returns : goal.returns
returns c =
    let a = c.args in
    over_all a.out a.class.edges a.class.ascii a.text.now (λ k. omega (arith, c.type_inv.text k)) a.at c.loop-j.j c.loop-j.invariant.0 (omega arith)
