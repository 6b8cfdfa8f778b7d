-- Where no bit is set, nothing is marked wrongly.
use Rattle.std.proofs.Common.{ℕ, arith, replicate, sym, subst}
use Rattle.ahead.specs.Marks.{Marked}
use Rattle.ahead.proofs.Bits.{marked_none, marked_later}
use Rattle.lists.proofs.picks.no_bits.Goals as goal

pub returns : goal.returns
returns c s at e = subst (λ (u : ℕ). Marked s at.cursor u (replicate 2048 0)) (sym e) (marked_later s 0 at.cursor 0 (replicate 2048 0) (omega arith) (marked_none s 2048))
