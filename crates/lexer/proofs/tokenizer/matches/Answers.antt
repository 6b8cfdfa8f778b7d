-- A law of delimiters for each byte. Assumes nothing.
use Rattle.std.proofs.Common.{◌+◌, drop, sym, ap, ◌∙◌, arith}
use Rattle.rules.specs.Utf8.{chars}
use Rattle.rules.specs.Dollars.{begins}
use Rattle.rules.proofs.HereDocs.{begins_next, begins_differ, begins_over}
use Rattle.lexer.proofs.tokenizer.matches.Goals as goal

pub returns-then-byte_at-delimiter : goal.returns-then-byte_at-delimiter
returns-then-byte_at-delimiter c =
    sym (begins_differ c.args.delimiter.now c.requires.1 c.args.text.now c.loop-k.k (c.args.at + c.loop-k.k) c.loop-k-test.true (λ e. c.if-byte_at-delimiter.true (c.byte_at.ensures ∙ e)))
    ∙ c.loop-k.invariant

pub loop-k-preserved : goal.loop-k-preserved
loop-k-preserved c =
    let s = c.args.text.now in
    let d = c.args.delimiter.now in
    ap (λ n. begins (drop (c.loop-k.k + 1) d) (chars (drop n s))) (omega arith)
    ∙ sym (begins_next d c.requires.1 s c.loop-k.k (c.args.at + c.loop-k.k) c.loop-k-test.true (sym c.byte_at.ensures ∙ c.if-byte_at-delimiter.false))
    ∙ c.loop-k.invariant

pub returns : goal.returns
returns c = sym (begins_over c.args.delimiter.now c.requires.1 c.args.text.now c.loop-k.k (c.args.at + c.loop-k.k) (omega arith)) ∙ c.loop-k.invariant
