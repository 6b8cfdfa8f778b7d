-- The class by its edges. Assumes nothing.
use Rattle.lexer.proofs.Skips.{skips_as}
use Rattle.lexer.proofs.Edges.{inside_words}
use Rattle.lexer.proofs.bytes.skip_words.Goals as goal

pub returns : goal.returns
returns c = skips_as _ _ inside_words c.args.text.now c.args.at c.skip.result c.skip.ensures
