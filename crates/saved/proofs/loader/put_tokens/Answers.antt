use Rattle.std.proofs.Common.{arith, ◌≡◌, ◌+◌, ◌-◌, ◌*◌, [], ℕ, length, drop, sym, ap, ◌∙◌}
use lib.Seq.{sets, length-sets}
use Rattle.rules.specs.Limits.{token_bytes}
use Rattle.rules.specs.Tokens.{token}
use Rattle.rules.specs.Listing.{pack_token}
use Rattle.rules.specs.Saved.{end_bytes, record_bytes, token_of_record, tokens_in}
use Rattle.rules.proofs.Listing.{length-pack}
use Rattle.rules.proofs.Saved.{length-tokens}
use Rattle.lexer.specs.declared.token.Token.{Token as CodeToken}
use Rattle.saved.proofs.Storing.{tokens_left, token_put, tokens_put, file_filled}
use Rattle.saved.proofs.loader.put_tokens.Goals as goal

pub loop-i-preserved : goal.loop-i-preserved
loop-i-preserved c =
    let file = c.args.file.now in
    let l = c.loop-i in
    let at = c.args.from + l.i * record_bytes end_bytes in
    let to = l.i * token_bytes in
    let put = c.put_token.new.list in
    let n = c.get_record-token.result in
    let e : put ≡ sets l.list to (pack_token (token n.kind n.start n.end)) = rw c.token_bytes.ensures at c.put_token.ensures.1 in
    let left = c.args.records - l.i in
    let less : c.args.records - (l.i + 1) ≡ left - 1 = omega arith in
    let next : c.args.from + (l.i + 1) * record_bytes end_bytes ≡ at + record_bytes end_bytes = omega arith in
    let is = e ∙ ap (λ (t : CodeToken). sets l.list to (pack_token (token t.kind t.start t.end))) c.get_record-token.ensures in
    let end = ap (λ (t : CodeToken). t.end) c.get_record-token.ensures in (
      ap length is ∙ length-sets l.list to (pack_token (token_of_record end_bytes l.end (drop at file))) ∙ l.invariant.0,
      (λ i. sets put ((l.i + 1) * token_bytes) (tokens_left file (next i) (less i) (end i)))
          ∙ token_put file at left l.end l.list _ to _ (omega (arith, c.loop-i-test.true)) is (omega arith) ∙ l.invariant.1,
    )

pub returns : goal.returns
returns c =
    let file = c.args.file.now in
    let l = c.loop-i in
    let at = c.args.from + l.i * record_bytes end_bytes in
    let to = l.i * token_bytes in
    let z : c.args.records - l.i ≡ 0 = omega (arith, c.loop-i-test.false) in
    let n = length-pack (tokens_in end_bytes c.args.records 0 (drop c.args.from file)) in
    let m = length-tokens end_bytes c.args.records 0 (drop c.args.from file) in
    tokens_put file at l.end l.list to ∙ ap (λ (k : ℕ). sets l.list to (tokens_left file at k l.end)) (sym z) ∙ l.invariant.1
    ∙ file_filled [] (tokens_left file c.args.from c.args.records 0) c.args.list.now (omega (arith, n, m, c.requires.1))
