-- `forms::reader::read_all`: after i turns i tokens are packed, and those from the reader's offset on are left.
use Rattle.std.proofs.Common.{◌≡◌, ◌≤◌, ◌-◌}
use Rattle.forms.proofs.Steps.{Read}
use Rattle.forms.proofs.reader.read_all.Given as goal

abbrev pub invariant-loop-i : goal.invariant-loop-i
invariant-loop-i l = record {
  read : Read l.text l.initial.list l.i l.reader.at l.list;
  text : l.reader.text.now ≡ l.text;
  within : l.i ≤ l.i-end;
}

abbrev pub decreases-loop-i : goal.decreases-loop-i
decreases-loop-i l = l.i-end - l.i
