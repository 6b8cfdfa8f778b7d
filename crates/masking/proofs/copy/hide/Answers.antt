-- One byte more is hidden, and at the end all of them are.
use Rattle.std.proofs.Common.{◌≡◌, ◌≤◌, ◌+◌, ◌-◌, ◌++◌, ℕ, List, length, take, drop, sym, ap, ◌∙◌, arith}
use mathlib.Core.Path.{ap₂}
use mathlib.Core.List.{append-nil}
use lib.ListN.{set, replicate, length-take, length-drop, drop_of_length-le}
use lib.Seq.{drop-drop}
use Rattle.rules.specs.Limits.{mask_byte}
use Rattle.rules.specs.Masking.{hide}
use Rattle.masking.proofs.Hiding.{hide_none, hide_more}
use Rattle.masking.proofs.copy.hide.Goals as goal

pub loop-byte-init : goal.loop-byte-init
loop-byte-init c = sym (hide_none 0 _)

pub loop-byte-preserved : goal.loop-byte-preserved
loop-byte-preserved c =
    ap₂ (λ (x : List ℕ) (b : ℕ). set x c.loop-byte.byte-index b) c.loop-byte.invariant c.mask_byte.ensures
    ∙ hide_more 0 c.loop-byte.byte-index (take (c.args.to - c.args.from) (drop c.args.from c.args.copy.now)) (omega arith) c.loop-byte-test.true

all : (n m : ℕ) (bs : List ℕ) → length bs ≤ n → n ≡ m → hide 0 n bs ≡ replicate m mask_byte
all n m bs h e =
    let f : n - 0 ≡ m = omega arith in
    ap₂ (λ (k : ℕ) (l : List ℕ). replicate k mask_byte ++ l) f (drop_of_length-le bs h) ∙ append-nil (replicate m mask_byte)

pub returns : goal.returns
returns c =
    let from = c.args.from in
    let size = c.args.to - from in
    let bs = c.args.copy.now in
    let l : length (take size (drop from bs)) ≡ size = simp (length-take, length-drop) (omega arith) in
    let n : c.loop-byte.byte-index ≡ size = omega (arith, l) in
    let m : from + size ≡ c.args.to = omega arith in
    ap (λ (x : List ℕ). take from bs ++ (x ++ drop size (drop from bs))) (c.loop-byte.invariant ∙ all c.loop-byte.byte-index size (take size (drop from bs)) c.loop-byte-test.false n)
    ∙ ap (λ (x : List ℕ). take from bs ++ (replicate size mask_byte ++ x)) (drop-drop size from bs ∙ ap (λ (k : ℕ). drop k bs) m)
