-- The words so far mark none wrongly.
use Rattle.ahead.specs.Marks.{LoneWords}
use Rattle.ahead.proofs.Tags.fill_bits.Given as goal

abbrev pub invariant-loop-m : goal.invariant-loop-m
invariant-loop-m l = LoneWords l.self.text.now l.at l.lone l.m
