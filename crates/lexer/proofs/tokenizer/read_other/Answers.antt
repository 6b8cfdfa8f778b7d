-- A quote, a here-document, or a character past ASCII.
use Rattle.std.proofs.Common.{◌≡◌, ◌+◌, ℕ, List, false, drop, get_or, sym, ap, ◌∙◌, arith}
use Rattle.std.proofs.lemmas.Bool.Decides.{nat_tests}
use Rattle.rules.specs.Utf8.{chars}
use Rattle.rules.specs.Characters.{double_quote, quote, back_quote}
use Rattle.rules.specs.Kinds.{StringToken, QuotedIdentifier, ErrorSingleQuoteIsNotClosed, ErrorDoubleQuoteIsNotClosed, ErrorBackQuoteIsNotClosed}
use Rattle.rules.specs.Lexeme.{enclosed}
use Rattle.rules.specs.Quotes.{quoted_body}
use Rattle.rules.specs.Tokens.{after_dot_at}
use Rattle.rules.proofs.RuleBytes.{by_quote, by_double_quote, by_back_quote, by_dollar}
use Rattle.lexer.specs.Ends.{ends_at}
use Rattle.lexer.proofs.Ends.{opened_by}
use Rattle.lexer.proofs.FirstByteKinds.{lead_none}
use Rattle.lexer.proofs.tokenizer.read_other.Goals as goal

-- an ASCII quote, and the body after it
quoted : (s : List ℕ) (i q kind error : ℕ)
    → ends_at (i + 1) (enclosed 0 (quoted_body q false (chars (drop (i + 1) s))) kind error) ≡ ends_at i (enclosed 1 (quoted_body q false (chars (drop (i + 1) s))) kind error)
quoted s i q kind error = opened_by i 1 (quoted_body q false (chars (drop (i + 1) s))) kind error

pub returns-in-39 : goal.returns-in-39
returns-in-39 c =
    let s = c.args.text.now in
    let i = c.args.start in
    c.read_string.ensures ∙ quoted s i quote StringToken ErrorSingleQuoteIsNotClosed ∙ ap (ends_at i) (sym (by_quote (after_dot_at s i) s i c.requires.0 (omega arith) c.in-39.is))

pub returns-in-34 : goal.returns-in-34
returns-in-34 c =
    let s = c.args.text.now in
    let i = c.args.start in
    c.read_string-in-34.ensures ∙ quoted s i double_quote QuotedIdentifier ErrorDoubleQuoteIsNotClosed ∙ ap (ends_at i) (sym (by_double_quote (after_dot_at s i) s i c.requires.0 (omega arith) c.in-34.is))

pub returns-in-96 : goal.returns-in-96
returns-in-96 c =
    let s = c.args.text.now in
    let i = c.args.start in
    c.read_string-in-96.ensures ∙ quoted s i back_quote QuotedIdentifier ErrorBackQuoteIsNotClosed ∙ ap (ends_at i) (sym (by_back_quote (after_dot_at s i) s i c.requires.0 (omega arith) c.in-96.is))

pub returns-in-36 : goal.returns-in-36
returns-in-36 c =
    let s = c.args.text.now in
    let i = c.args.start in
    c.read_dollar.ensures ∙ ap (ends_at i) (sym (by_dollar (after_dot_at s i) s i c.requires.0 (omega arith) c.in-36.is))

pub read_non_ascii-requires : goal.read_non_ascii-requires
read_non_ascii-requires c = (c.requires.0, lead_none (get_or c.args.text.now c.args.start 0) c.requires.1 (grind (arith, nat_tests)))
