-- The character at the index that is looked at has its width in bytes.
use Rattle.std.proofs.Common.{◌≡◌, ℕ, ◌-◌, ◌+◌, ◌≤◌, ◌<◌, ap, arith, ◌∙◌, drop}
use native.Mathlib.Decide.{dec_lt}
use Rattle.rules.specs.Utf8.{width, char_at}
use Rattle.rules.proofs.Decoding.{some_left}
use Rattle.utf8.proofs.Units.{unit_width}
use Rattle.spans.proofs.Lines.{edge_here, edge-before}
use Rattle.spans.proofs.places.edge_of.Goals as goal

pub returns-then-len_at-offset : goal.returns-then-len_at-offset
returns-then-len_at-offset c =
    let s = c.args.text.now in
    let size = c.len_at.ensures ∙ unit_width (drop (c.loop-i.i - 1) s) (some_left s (c.loop-i.i - 1) (omega arith)) in
    edge-before s c.args.offset (c.loop-i.i - 1) (omega arith) (omega arith) (omega (arith, size, c.if-len_at-offset.true))

pub loop-i-preserved : goal.loop-i-preserved
loop-i-preserved c p l u = go (dec_lt (c.loop-i.i - 1) p)
  where
    go : Dec (c.loop-i.i - 1 < p) → p + width (char_at (drop p c.args.text.now)) ≤ c.args.offset
    go (yes m) = c.loop-i.invariant p (omega arith) u
    go (no m) =
        let e : p ≡ c.loop-i.i - 1 = omega arith in
        omega (arith, ap (λ (k : ℕ). width (char_at (drop k c.args.text.now))) e, c.len_at.ensures, unit_width (drop (c.loop-i.i - 1) c.args.text.now) (some_left c.args.text.now (c.loop-i.i - 1) (omega arith)))

pub returns : goal.returns
returns c = edge_here c.args.text.now c.args.offset (omega arith) (λ p u v. c.loop-i.invariant p (omega arith) u)
