-- What is stored, with the packed tokens of what is left, is what is to be stored.
use Rattle.std.proofs.Common.{◌≡◌, ◌+◌, ◌-◌, ◌*◌, length}
use Rattle.std.proofs.lemmas.List.Edits.{sets}
use Rattle.rules.specs.Limits.{token_bytes}
use Rattle.rules.specs.Saved.{end_bytes, record_bytes}
use Rattle.saved.proofs.Storing.{tokens_left}
use Rattle.saved.proofs.loader.put_tokens.Given as goal

abbrev pub invariant-loop-i : goal.invariant-loop-i
invariant-loop-i l =
    (length l.list ≡ length l.initial.list)
    × (sets l.list (l.i * token_bytes) (tokens_left l.file (l.from + l.i * record_bytes end_bytes) (l.records - l.i) l.end) ≡ sets l.initial.list 0 (tokens_left l.file l.from l.records 0))
