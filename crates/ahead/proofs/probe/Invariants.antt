-- What is left is to be looked through from here.
use Rattle.std.proofs.Common.{◌≡◌, ◌+◌, ◌-◌}
use Rattle.ahead.specs.Slots.{probed}
use Rattle.ahead.proofs.probe.Given as goal

abbrev pub invariant-loop-i : goal.invariant-loop-i
invariant-loop-i l = probed l.table l.f l.i (l.at + 64 - l.i) ≡ probed l.table l.f l.at 64
