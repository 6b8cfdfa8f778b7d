-- No count is more than the bytes read, so no sum overflows. The measure is the bytes left.
use Rattle.std.proofs.Common.{length, ◌+◌, ◌≤◌}
use Rattle.replay.proofs.replay.Given as goal

abbrev pub invariant-loop-rest : goal.invariant-loop-rest
invariant-loop-rest g l = record {
  texts : l.texts + length l.rest ≤ length l.file;
  tokens : l.tokens + length l.rest ≤ length l.file;
  differences : l.differences + length l.rest ≤ length l.file;
}

abbrev pub decreases-loop-rest : goal.decreases-loop-rest
decreases-loop-rest g l = length l.rest
