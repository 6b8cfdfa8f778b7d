-- ASCII's part is a law of the tables; past ASCII, Alphabetic's index sums to the definition's table, and the search in it answers.
-- Assumes nothing.
use Rattle.std.proofs.Common.{sym}
use Rattle.rules.specs.Classes.{alphabetic}
use Rattle.rules.proofs.Tables.{ascii_alphabetic}
use Rattle.classes.proofs.Sums.{alphabetic-sums, alphabetic_form}
use Rattle.classes.proofs.is_alphabetic.Goals as goal

pub returns-then-c-lt128 : goal.returns-then-c-lt128
returns-then-c-lt128 c = rw c.is_letter.ensures (sym (ascii_alphabetic _ c.if-c-lt128.true))

pub in_ranges-requires : goal.in_ranges-requires
in_ranges-requires c = alphabetic_form

pub returns-else-is_wide : goal.returns-else-is_wide
unfolding alphabetic
returns-else-is_wide c = rw alphabetic-sums at c.in_ranges.ensures
