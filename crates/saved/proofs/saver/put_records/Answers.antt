use Rattle.std.proofs.Common.{arith, ◌≡◌, ◌+◌, ◌-◌, ◌*◌, ℕ, length, refl, sym, ap, ◌∙◌}
use lib.Seq.{sets, length-sets}
use Rattle.rules.specs.Limits.{token_bytes}
use Rattle.rules.specs.Tokens.{token}
use Rattle.rules.specs.Listing.{token_in}
use Rattle.rules.specs.Saved.{end_bytes, record_bytes, record_of}
use Rattle.lexer.specs.declared.token.Token.{Token as CodeToken}
use Rattle.lexer.specs.Ends.{token_of}
use Rattle.saved.proofs.Storing.{records_left, record_put, records_put}
use Rattle.saved.proofs.saver.put_records.Goals as goal

pub loop-i-preserved : goal.loop-i-preserved
loop-i-preserved c =
    let list = c.args.list.now in
    let l = c.loop-i in
    let at = l.i * token_bytes in
    let to = c.args.from + l.i * record_bytes end_bytes in
    let t : c.get_token-token.result ≡ token_of (token_in list at) = rw c.token_bytes.ensures at c.get_token-token.ensures in
    let left = c.args.tokens - l.i in
    let less : c.args.tokens - (l.i + 1) ≡ left - 1 = omega arith in
    let next : (l.i + 1) * token_bytes ≡ at + token_bytes = omega arith in
    let is = c.put_record.ensures.1 ∙ ap (λ (t : CodeToken). sets l.file to (record_of end_bytes (token t.kind 0 t.end))) t in (
      ap length is ∙ length-sets l.file to (record_of end_bytes (token_in list at)) ∙ l.invariant.0,
      (λ i. sets c.put_record.new.file (c.args.from + (l.i + 1) * record_bytes end_bytes) (records_left list (next i) (less i)))
          ∙ record_put list at left l.file _ to _ (omega (arith, c.loop-i-test.true)) is (omega arith) ∙ l.invariant.1,
    )

pub returns : goal.returns
returns c =
    let list = c.args.list.now in
    let l = c.loop-i in
    let at = l.i * token_bytes in
    let to = c.args.from + l.i * record_bytes end_bytes in
    let z : c.args.tokens - l.i ≡ 0 = omega (arith, c.loop-i-test.false) in
    (refl, records_put list at l.file to ∙ ap (λ (k : ℕ). sets l.file to (records_left list at k)) (sym z) ∙ l.invariant.1)
