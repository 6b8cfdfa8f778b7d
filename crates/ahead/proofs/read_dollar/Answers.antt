-- A `$` that is marked begins no here-document.
use Rattle.std.proofs.Common.{◌+◌, refl, sym, ap, ◌∙◌, arith}
use Rattle.rules.specs.Dollars.{dollar_lexeme}
use Rattle.rules.specs.Tokens.{after_dot_at}
use Rattle.rules.proofs.RuleBytes.{by_dollar}
use Rattle.lexer.proofs.Ends.{lexed_is, next_lies}
use Rattle.ahead.proofs.read_dollar.Goals as goal

pub returns-then-has : goal.returns-then-has
returns-then-has c =
    let s = c.args.text.now in
    let i = c.args.start in
    let n = c.requires.3 i (omega arith) (sym c.has.ensures ∙ c.if-has.true) c.requires.2 in
    c.new.ensures ∙ lexed_is i (by_dollar (after_dot_at s i) s i c.requires.1 (omega (arith, c.requires.2)) c.requires.2 ∙ ap dollar_lexeme n) (i + 1) refl

-- the token ends in the text
pub is_closed-requires : goal.is_closed-requires
is_closed-requires c = (next_lies c.args.text.now c.args.start c.next_token-token.result c.requires.1 c.next_token-token.ensures).1
