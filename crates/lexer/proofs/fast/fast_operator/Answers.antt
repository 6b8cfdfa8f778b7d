-- Two bytes or one, where the third makes no spaceship and no comment starts.
use Rattle.std.proofs.Common.{arith, refl, sym, ◌∙◌}
use Rattle.rules.specs.Tokens.{after_dot_at}
use Rattle.lexer.proofs.Decided.{none_of, told-pair, told-single}
use Rattle.lexer.proofs.fast.fast_operator.Goals as goal

pub returns-in-Some : goal.returns-in-Some
returns-in-Some c =
    let s = c.args.text.now in
    let i = c.args.start in
    let t = none_of _ _ _ c.if-is_spaceship-a.false in
    c.new-l.ensures ∙ told-pair (after_dot_at s i) s i (omega arith) c.requires.1 (sym c.is_spaceship.ensures ∙ t.0) t.1 t.2 _ c.in-Some.ensures.0 c.in-Some.ensures.1

pub returns-in-None : goal.returns-in-None
returns-in-None c =
    let s = c.args.text.now in
    let i = c.args.start in
    let t = none_of _ _ _ c.if-is_spaceship-a.false in
    c.new-l-in-None.ensures ∙ told-single (after_dot_at s i) s i (omega arith) c.requires.1 (sym c.is_spaceship.ensures ∙ t.0) t.1 t.2 _ (sym c.in-None.ensures) refl _ c.requires.2
