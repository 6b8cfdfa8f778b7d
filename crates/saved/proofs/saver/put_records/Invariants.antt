-- What is stored, with the records of what is left, is what is to be stored.
use Rattle.std.proofs.Common.{◌≡◌, ◌+◌, ◌-◌, ◌*◌, length}
use Rattle.std.proofs.lemmas.List.Edits.{sets}
use Rattle.rules.specs.Limits.{token_bytes}
use Rattle.rules.specs.Saved.{end_bytes, record_bytes}
use Rattle.saved.proofs.Storing.{records_left}
use Rattle.saved.proofs.saver.put_records.Given as goal

abbrev pub invariant-loop-i : goal.invariant-loop-i
invariant-loop-i l =
    (length l.file ≡ length l.initial.file)
    × (sets l.file (l.from + l.i * record_bytes end_bytes) (records_left l.list (l.i * token_bytes) (l.tokens - l.i)) ≡ sets l.initial.file l.from (records_left l.list 0 l.tokens))
