-- The tag, and the delimiter that is found again.
use Rattle.std.proofs.Common.{sym, ◌∙◌}
use Rattle.lexer.proofs.HereDocs.{no_tag, not_found, here_found}
use Rattle.lexer.proofs.tokenizer.read_dollar.Goals as goal

pub returns-then-byte_at-ne36 : goal.returns-then-byte_at-ne36
returns-then-byte_at-ne36 c =
    c.new-lone.ensures ∙ no_tag c.args.text.now c.args.start c.tag_end-tag.result c.tag_end-tag.ensures (λ e. c.if-byte_at-ne36.true (c.byte_at.ensures ∙ e))

pub returns-in-None : goal.returns-in-None
returns-in-None c =
    c.new-lone.ensures
    ∙ not_found c.args.text.now c.args.start c.tag_end-tag.result c.tag_end-tag.ensures c.requires.1 (sym c.byte_at.ensures ∙ c.if-byte_at-ne36.false) c.find_delimiter.result c.find_delimiter.ensures c.in-None.is

pub returns-in-Some : goal.returns-in-Some
returns-in-Some c =
    c.new.ensures
    ∙ here_found c.args.text.now c.args.start c.tag_end-tag.result c.tag_end-tag.ensures c.requires.1 (sym c.byte_at.ensures ∙ c.if-byte_at-ne36.false) c.find_delimiter.result c.find_delimiter.ensures _ c.in-Some.is
