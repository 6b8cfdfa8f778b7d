-- `forms::records::store_records`: after i turns the first i records of the list stand in the slice, and a turn is left for each of the others and one more.
use Rattle.std.proofs.Common.{◌-◌, suc, length}
use Rattle.lists.specs.Picks.{records_from}
use Rattle.forms.proofs.Stored.{Stood}
use Rattle.forms.proofs.records.store_records.Given as goal

abbrev pub invariant-loop-token : goal.invariant-loop-token
invariant-loop-token l = Stood l.text l.initial.at l.initial.list l.i l.at l.lone l.list

abbrev pub decreases-loop-token : goal.decreases-loop-token
decreases-loop-token l = suc (length (records_from l.initial.at.plan l.text 0)) - l.i
