-- A law of comments for each turn.
use Rattle.std.proofs.Common.{◌≡◌, ◌+◌, false, true, sym, ◌∙◌, arith}
use Rattle.std.proofs.lemmas.Bool.Decides.{nat_tests}
use Rattle.rules.specs.Characters.{star, slash}
use Rattle.lexer.proofs.Comments.{pair, pair_inside, comment_end, comment_done, comment_shallower, comment_deeper, comment_on, comment_over}
use Rattle.lexer.proofs.tokenizer.read_multi_line_comment.Goals as goal
use Rattle.lexer.proofs.tokenizer.read_multi_line_comment.Goals.{else-text-j-eq42-via-then-text-j-eq42+else-byte_at-eq47, else-text-j-eq42-via-else-text-j-eq42}
use Rattle.lexer.proofs.tokenizer.read_multi_line_comment.Goals.{else-text-j-eq47-via-then-text-j-eq47+else-byte_at-eq42, else-text-j-eq47-via-else-text-j-eq47}

pub loop-j-init : goal.loop-j-init
loop-j-init c = (comment_over c.args.text.now c.args.at _ 0 c.skip_to_either-j.ensures, omega arith, omega (arith, c.skip_to_either-j.ensures.upto))

pub returns-then-deeper-eq0 : goal.returns-then-deeper-eq0
returns-then-deeper-eq0 c =
    let p : pair c.args.text.now c.loop-j.j star slash ≡ true = grind (arith, nat_tests) in
    c.new.ensures ∙ sym (comment_done c.args.text.now c.loop-j.j (omega arith) p) ∙ (rw c.if-deeper-eq0.true at c.loop-j.invariant.0)

pub loop-j-preserved-then-byte_at-eq47 : goal.loop-j-preserved-then-byte_at-eq47
loop-j-preserved-then-byte_at-eq47 c =
    let p : pair c.args.text.now c.loop-j.j star slash ≡ true = grind (arith, nat_tests) in
    let h = pair_inside c.args.text.now c.loop-j.j (omega arith) star slash (omega arith) p in
    (sym (comment_shallower c.args.text.now c.loop-j.j (omega arith) c.loop-j.deeper (omega arith) p) ∙ c.loop-j.invariant.0, omega arith, omega (arith, h))

pub loop-j-preserved-then-byte_at-eq42 : goal.loop-j-preserved-then-byte_at-eq42
loop-j-preserved-then-byte_at-eq42 c =
    let p : pair c.args.text.now c.loop-j.j slash star ≡ true = grind (arith, nat_tests) in
    let h = pair_inside c.args.text.now c.loop-j.j (omega arith) slash star (omega arith) p in
    (sym (comment_deeper c.args.text.now c.loop-j.j (omega arith) c.loop-j.deeper p) ∙ c.loop-j.invariant.0, omega arith, omega (arith, h))

pub loop-j-preserved : goal.loop-j-preserved
loop-j-preserved c =
    let s = c.args.text.now in
    let x : pair s c.loop-j.j star slash ≡ false = elim c.else-text-j-eq42.branch [ else-text-j-eq42-via-then-text-j-eq42+else-byte_at-eq47 w ↦ grind (arith, nat_tests) | else-text-j-eq42-via-else-text-j-eq42 w ↦ grind (arith, nat_tests) ] in
    let y : pair s c.loop-j.j slash star ≡ false = elim c.else-text-j-eq47.branch [ else-text-j-eq47-via-then-text-j-eq47+else-byte_at-eq42 w ↦ grind (arith, nat_tests) | else-text-j-eq47-via-else-text-j-eq47 w ↦ grind (arith, nat_tests) ] in (
      comment_over s (c.loop-j.j + 1) _ c.loop-j.deeper c.skip_to_either-j-in-loop-j.ensures ∙ sym (comment_on s c.loop-j.j (omega arith) c.loop-j.deeper x y) ∙ c.loop-j.invariant.0,
      omega (arith, c.skip_to_either-j-in-loop-j.ensures.from),
      omega (arith, c.skip_to_either-j-in-loop-j.ensures.upto),
    )

pub returns : goal.returns
returns c = c.new-2.ensures ∙ sym (comment_end c.args.text.now c.loop-j.j c.loop-j.deeper (omega arith)) ∙ c.loop-j.invariant.0
