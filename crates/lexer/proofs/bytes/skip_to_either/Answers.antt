-- It stands at one of the two already, or the run tells. Assumes nothing.
use Rattle.std.proofs.Common.{not, ◌&&◌}
use lib.Dec.{eqb}
use Rattle.lexer.proofs.Skips.{skips_as}
use Rattle.lexer.proofs.Edges.{outside-two}
use Rattle.lexer.proofs.bytes.skip_to_either.Goals as goal

pub returns : goal.returns
returns c =
    let a = c.args.a in
    let b = c.args.b in
    skips_as _ (λ x. not (eqb x a) && not (eqb x b)) (λ x. outside-two a c.requires.1 x b c.requires.2 c.requires.3) c.args.text.now c.args.at c.skip.result c.skip.ensures
