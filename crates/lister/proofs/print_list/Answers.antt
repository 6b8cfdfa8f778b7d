-- The tokens that are counted lie within the list.
use Rattle.std.proofs.Common.{Ok, refl, arith}
use Rattle.lister.proofs.Fits.{done_fits}
use Rattle.lister.proofs.print_list.Goals as goal

pub print_tokens-requires : goal.print_tokens-requires
print_tokens-requires g c =
    omega (arith, done_fits _ _ _ _ (Ok c.in-Ok.tokens) c.in-Ok.ensures refl, c.tokenize.auto.list)
