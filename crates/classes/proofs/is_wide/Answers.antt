-- A law of the table for each of the two. Assumes nothing.
use Rattle.std.proofs.Common.{arith}
use Rattle.classes.proofs.Wide.{ideographs, hangul}
use Rattle.classes.proofs.is_wide.Goals as goal

pub returns-in-19968-to-42124 : goal.returns-in-19968-to-42124
returns-in-19968-to-42124 c e = ideographs c.args.c (omega arith) (omega arith)

pub returns-in-19968-to-42124-2 : goal.returns-in-19968-to-42124-2
returns-in-19968-to-42124-2 c e = hangul c.args.c (omega arith) (omega arith)
