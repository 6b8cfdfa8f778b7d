-- The walk reached the end of the tokens before, and knows whether all of them fit.
use Rattle.std.proofs.Common.{◌+◌, ◌-◌, ◌*◌, drop}
use Rattle.rules.specs.Saved.{end_bytes, record_bytes, tokens_in}
use Rattle.rules.proofs.Chains.{Reached}
use Rattle.saved.proofs.checks.records_fit.Given as goal

abbrev pub invariant-loop-i : goal.invariant-loop-i
invariant-loop-i l =
    Reached l.size (tokens_in end_bytes l.records 0 (drop l.from l.file)) l.end l.fits (tokens_in end_bytes (l.records - l.i) l.end (drop (l.from + l.i * record_bytes end_bytes) l.file))
