-- A law of such bodies for each turn.
use Rattle.std.proofs.Common.{◌≡◌, ◌+◌, true, false, ◌&&◌, eqb, get_or, drop, sym, ap, ◌∙◌, arith}
use borrow.Author.Tests.{eq-eqb, ne_eqb}
use Rattle.rules.specs.Utf8.{char_at}
use Rattle.rules.specs.Quotes.{up_to}
use Rattle.rules.proofs.Bodies.{curly_at, up_to_shut, up_to_pass, up_to_empty}
use Rattle.lexer.specs.Quotes.{curly_close}
use Rattle.lexer.proofs.Bodies.{turn}
use Rattle.lexer.proofs.tokenizer.read_unicode_quoted.Goals as goal
use Rattle.lexer.proofs.tokenizer.read_unicode_quoted.Goals.{else-text-i-via-then-text-i+else-eq, else-text-i-via-else-text-i}

-- E2 stands at i, and what stands after it is `80 last` where `eq` has it so
pub returns-then-eq : goal.returns-then-eq
returns-then-eq c =
    let s = c.args.text.now in
    let t = turn (up_to (curly_close c.args.last)) s c.args.success_type c.args.error_type c.args.at c.loop-i.i c.loop-i.invariant in
    let k = curly_at s c.loop-i.i c.args.last (c.requires.1, c.requires.2) in
    let h : eqb (get_or s c.loop-i.i 0) 0xE2 ≡ true = eq-eqb (get_or s c.loop-i.i 0) 0xE2 c.if-text-i.true in
    let r : (eqb (get_or s (c.loop-i.i + 1) 0) 0x80 && eqb (get_or s (c.loop-i.i + 2) 0) c.args.last) ≡ true = rw (c.byte_at.ensures, c.byte_at-then-text-i.ensures) at (sym c.if-eq.ensures) in
    c.new.ensures ∙ t.shuts 3 (up_to_shut s c.loop-i.i c.args.last (c.requires.1, c.requires.2) (k ∙ rw (h, r))).0

pub loop-i-preserved : goal.loop-i-preserved
loop-i-preserved c =
    let s = c.args.text.now in
    let t = turn (up_to (curly_close c.args.last)) s c.args.success_type c.args.error_type c.args.at c.loop-i.i c.loop-i.invariant in
    let k = curly_at s c.loop-i.i c.args.last (c.requires.1, c.requires.2) in
    let f : eqb (char_at (drop c.loop-i.i s)).code (curly_close c.args.last) ≡ false = elim c.else-text-i.branch [
      | else-text-i-via-then-text-i+else-eq w ↦
          let h : eqb (get_or s c.loop-i.i 0) 0xE2 ≡ true = eq-eqb (get_or s c.loop-i.i 0) 0xE2 w.if-text-i.true in
          let r : (eqb (get_or s (c.loop-i.i + 1) 0) 0x80 && eqb (get_or s (c.loop-i.i + 2) 0) c.args.last) ≡ false = rw (w.byte_at.ensures, w.byte_at-then-text-i.ensures) at (sym w.if-eq.ensures) in
          k ∙ rw (h, r)
      | else-text-i-via-else-text-i w ↦ k ∙ rw (ne_eqb (get_or s c.loop-i.i 0) 0xE2 w.if-text-i.false)
    ] in
    t.goes 1 (up_to_pass (curly_close c.args.last) (omega arith) s c.loop-i.i c.loop-i-test.true f)

pub returns : goal.returns
returns c =
    let t = turn (up_to (curly_close c.args.last)) c.args.text.now c.args.success_type c.args.error_type c.args.at c.loop-i.i c.loop-i.invariant in
    c.new-2.ensures ∙ ap (λ n. record { kind = c.args.error_type; end = n }) (omega arith) ∙ t.ends (up_to_empty (curly_close c.args.last)) c.loop-i-test.false
