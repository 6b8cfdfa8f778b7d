-- No `$` so far begins a here-document.
use Rattle.ahead.specs.Marks.{LoneUntil}
use Rattle.ahead.proofs.Tags.lone_until.Given as goal

abbrev pub invariant-loop-i : goal.invariant-loop-i
invariant-loop-i l = LoneUntil l.self.text.now l.self.from l.i
