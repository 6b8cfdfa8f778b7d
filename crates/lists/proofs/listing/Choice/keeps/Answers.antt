-- The kind's bit tells it.
use Rattle.std.proofs.Common.{◌+◌, ◌/◌, ◌%◌, ◌^◌, ◌||◌, ℕ, ap₂, ◌∙◌}
use lib.Dec.{leb, eqb}
use Rattle.lists.proofs.Choosing.{kept_bit}
use Rattle.lists.proofs.listing.Choice.keeps.Goals as goal

pub returns : goal.returns
returns c =
    ap₂ (λ (x y : ℕ). leb 64 c.args.kind || eqb ((x + y) / 2 ^ (c.args.kind % 64) % 2) 0) c.bit_if.ensures.0 c.bit_if-2.ensures.0
    ∙ kept_bit c.args.self.drop_whitespace c.args.self.drop_comment c.args.kind
