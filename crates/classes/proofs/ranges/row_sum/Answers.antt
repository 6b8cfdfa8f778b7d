-- No sum runs past 64 bits, and the last is that of the bytes, by the law of lanes. Assumes nothing.
use Rattle.classes.proofs.Lanes.{bytes_sum}
use Rattle.classes.proofs.ranges.row_sum.Goals as goal

pub returns : goal.returns
returns c = bytes_sum c.args.row
