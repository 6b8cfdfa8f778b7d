-- A quote opens a string.
use Rattle.std.proofs.Common.{◌+◌, false, drop, sym, ap, ◌∙◌, arith}
use Rattle.rules.specs.Utf8.{chars}
use Rattle.rules.specs.Characters.{quote}
use Rattle.rules.specs.Kinds.{StringToken, ErrorSingleQuoteIsNotClosed}
use Rattle.rules.specs.Quotes.{quoted_body}
use Rattle.rules.specs.Tokens.{after_dot_at}
use Rattle.rules.proofs.RuleBytes.{by_quote}
use Rattle.lexer.specs.Ends.{ends_at}
use Rattle.lexer.proofs.Ends.{opened_by}
use Rattle.edges.proofs.read_quoted.Goals as goal

pub returns : goal.returns
returns c =
    let s = c.args.text.now in
    let i = c.args.start in
    let q = c.requires.1 in
    c.read_string.ensures ∙ opened_by i 1 (quoted_body quote false (chars (drop (i + 1) s))) StringToken ErrorSingleQuoteIsNotClosed
    ∙ ap (ends_at i) (sym (by_quote (after_dot_at s i) s i c.requires.0 (omega (arith, q)) q))
