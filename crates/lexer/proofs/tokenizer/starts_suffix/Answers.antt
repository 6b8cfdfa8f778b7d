-- The code at the unit is the first character's.
use Rattle.std.proofs.Common.{◌||◌, drop, eqb, ap, ◌∙◌}
use Rattle.rules.specs.Characters.{underscore}
use Rattle.rules.specs.Numbers.{starts_suffix}
use Rattle.utf8.specs.Units.{unit_code}
use Rattle.utf8.proofs.Units.{unit_first}
use Rattle.lexer.proofs.tokenizer.starts_suffix.Goals as goal

pub returns : goal.returns
returns c =
    ap (λ b. b || eqb c.unit_code-c.result underscore) c.is_alphabetic.ensures
    ∙ ap starts_suffix (c.unit_code-c.ensures ∙ ap unit_code c.unit_at.ensures ∙ unit_first (drop c.args.at c.args.text.now))
