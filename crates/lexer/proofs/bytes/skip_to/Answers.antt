-- It stands there already, or the run tells. Assumes nothing.
use Rattle.std.proofs.Common.{ap, ◌∙◌, List, ℕ, true, not}
use lib.Dec.{eqb}
use Rattle.runs.specs.Classes.{passes}
use Rattle.lexer.proofs.Skips.{skips_as}
use Rattle.lexer.proofs.Edges.{outside-one}
use Rattle.lexer.proofs.bytes.skip_to.Goals as goal

pub returns : goal.returns
returns c =
    let a = c.args.a in
    skips_as _ (λ x. not (eqb x a)) (λ x. ap (λ (es : List ℕ). passes true es x) c.only.ensures ∙ outside-one a c.requires.1 x) c.args.text.now c.args.at c.skip.result c.skip.ensures
