-- A law of quoted bodies for each turn.
use Rattle.std.proofs.Common.{◌+◌, false, sym, ◌∙◌, arith}
use Rattle.rules.specs.Quotes.{quoted_body}
use Rattle.rules.proofs.Quotes.{quoted_empty}
use Rattle.rules.proofs.Bodies.{quoted_at}
use Rattle.lexer.proofs.Bodies.{turn, quoted_over}
use Rattle.lexer.proofs.tokenizer.read_string.Goals as goal

pub returns-then-i-text : goal.returns-then-i-text
returns-then-i-text c =
    let t = turn (quoted_body c.args.quote false) c.args.text.now c.args.success_type c.args.error_type c.args.at c.loop-i.i c.loop-i.invariant in
    let b = quoted_at c.args.quote c.requires.0 c.requires.1 c.requires.2 c.args.text.now c.loop-i.i c.loop-i-test.true in
    c.new.ensures ∙ t.cuts 1 (b.cut c.if-b-eq92.true c.if-i-text.true)

pub loop-i-preserved-then-b-eq92 : goal.loop-i-preserved-then-b-eq92
loop-i-preserved-then-b-eq92 c =
    let t = turn (quoted_body c.args.quote false) c.args.text.now c.args.success_type c.args.error_type c.args.at c.loop-i.i c.loop-i.invariant in
    let b = quoted_at c.args.quote c.requires.0 c.requires.1 c.requires.2 c.args.text.now c.loop-i.i c.loop-i-test.true in
    t.goes 2 (b.escape c.if-b-eq92.true (omega (arith, c.if-i-text.false)))

pub returns-then-byte_at-quote : goal.returns-then-byte_at-quote
returns-then-byte_at-quote c =
    let t = turn (quoted_body c.args.quote false) c.args.text.now c.args.success_type c.args.error_type c.args.at c.loop-i.i c.loop-i.invariant in
    let b = quoted_at c.args.quote c.requires.0 c.requires.1 c.requires.2 c.args.text.now c.loop-i.i c.loop-i-test.true in
    c.new-then-byte_at-quote.ensures ∙ t.shuts 1 (b.shut c.if-b-quote.true (λ e. c.if-byte_at-quote.true (c.byte_at.ensures ∙ e)))

pub loop-i-preserved-then-b-quote : goal.loop-i-preserved-then-b-quote
loop-i-preserved-then-b-quote c =
    let t = turn (quoted_body c.args.quote false) c.args.text.now c.args.success_type c.args.error_type c.args.at c.loop-i.i c.loop-i.invariant in
    let b = quoted_at c.args.quote c.requires.0 c.requires.1 c.requires.2 c.args.text.now c.loop-i.i c.loop-i-test.true in
    t.goes 2 (b.pair c.if-b-quote.true (sym c.byte_at.ensures ∙ c.if-byte_at-quote.false)).0

pub loop-i-preserved : goal.loop-i-preserved
loop-i-preserved c =
    let t = turn (quoted_body c.args.quote false) c.args.text.now c.args.success_type c.args.error_type c.args.at c.loop-i.i c.loop-i.invariant in
    let b = quoted_at c.args.quote c.requires.0 c.requires.1 c.requires.2 c.args.text.now c.loop-i.i c.loop-i-test.true in
    quoted_over c.args.quote c.requires.0 c.requires.1 c.requires.2 c.args.text.now c.args.success_type c.args.error_type c.args.at (c.loop-i.i + 1) c.skip_to_either-i.result
    c.skip_to_either-i.ensures (t.goes 1 (b.pass c.if-b-eq92.false c.if-b-quote.false))

pub returns : goal.returns
returns c =
    let t = turn (quoted_body c.args.quote false) c.args.text.now c.args.success_type c.args.error_type c.args.at c.loop-i.i c.loop-i.invariant in
    c.new-2.ensures ∙ t.ends (quoted_empty c.args.quote) c.loop-i-test.false
