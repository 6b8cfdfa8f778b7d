-- ASCII's part is a law of the tables; past ASCII, the search in the other index answers for Nd, Nl and No. Assumes nothing.
use Rattle.std.proofs.Common.{◌≡◌, sym, true, false}
use Rattle.rules.specs.Classes.{alphabetic, numeric, alphanumeric}
use Rattle.rules.proofs.Tables.{ascii_alphanumeric}
use Rattle.classes.proofs.Sums.{numeric-sums, numeric_form}
use Rattle.classes.proofs.is_alphanumeric.Goals as goal

pub returns-then-c-lt128 : goal.returns-then-c-lt128
returns-then-c-lt128 c = rw (c.is_letter.ensures, c.is_digit.ensures) (sym (ascii_alphanumeric _ c.if-c-lt128.true))

pub in_ranges-requires : goal.in_ranges-requires
in_ranges-requires c = numeric_form

pub returns-then-is_alphabetic : goal.returns-then-is_alphabetic
unfolding alphanumeric
returns-then-is_alphabetic c =
    let a : alphabetic c.args.c ≡ true = cc in
    rw a c.if-is_alphabetic.true

pub returns-else-is_alphabetic : goal.returns-else-is_alphabetic
unfolding alphanumeric numeric
returns-else-is_alphabetic c =
    let a : alphabetic c.args.c ≡ false = cc in
    rw a (rw numeric-sums at c.in_ranges.ensures)
