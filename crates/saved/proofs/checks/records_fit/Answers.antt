use Rattle.std.proofs.Common.{arith, ◌≡◌, ◌+◌, ◌-◌, ◌*◌, ◌&&◌, ℕ, Bool, drop, sym, ap, subst, ◌∙◌}
use Rattle.rules.specs.Tokens.{token}
use Rattle.rules.specs.Saved.{end_bytes, record_bytes, token_of_record, tokens_in, goes_on}
use Rattle.rules.proofs.SavedBytes.{records_more, records_none}
use Rattle.rules.proofs.Chains.{Reached, reached_more, reached_all}
use Rattle.lexer.specs.declared.token.Token.{Token as CodeToken}
use Rattle.saved.proofs.checks.records_fit.Goals as goal

pub loop-i-preserved : goal.loop-i-preserved
loop-i-preserved c =
    let file = c.args.file.now in
    let l = c.loop-i in
    let at = c.args.from + l.i * record_bytes end_bytes in
    let left = c.args.records - l.i in
    let ts = tokens_in end_bytes c.args.records 0 (drop c.args.from file) in
    let t = token_of_record end_bytes l.end (drop at file) in
    let is = c.get_record-token.ensures in
    let here = subst (Reached c.args.size ts l.end l.fits) (records_more end_bytes l.end file at left (omega (arith, c.loop-i-test.true))) l.invariant in
    let r = reached_more c.args.size ts l.end l.fits t (tokens_in end_bytes (left - 1) t.end (drop (at + record_bytes end_bytes) file)) here in
    let end : t.end ≡ c.get_record-token.result.end = ap (λ (n : CodeToken). n.end) (sym is) in
    let goes = c.goes_on-fits.ensures ∙ ap (λ (n : CodeToken). goes_on c.args.size l.end (token n.kind n.start n.end)) is in
    let fits : (l.fits && goes_on c.args.size l.end t) ≡ (l.fits && c.goes_on-fits.result) = ap (λ (b : Bool). l.fits && b) (sym goes) in
    let less : left - 1 ≡ c.args.records - (l.i + 1) = omega arith in
    let next : at + record_bytes end_bytes ≡ c.args.from + (l.i + 1) * record_bytes end_bytes = omega arith in
    subst (λ (x : ℕ × Bool × ℕ × ℕ). Reached c.args.size ts x.0 x.1 (tokens_in end_bytes x.2 x.0 (drop x.3 file))) (λ i. (end i, fits i, less i, next i)) r

pub returns : goal.returns
returns c =
    let file = c.args.file.now in
    let l = c.loop-i in
    let ts = tokens_in end_bytes c.args.records 0 (drop c.args.from file) in
    let here = drop (c.args.from + l.i * record_bytes end_bytes) file in
    let z : c.args.records - l.i ≡ 0 = omega (arith, c.loop-i-test.false) in
    let none = subst (Reached c.args.size ts l.end l.fits) (ap (λ (k : ℕ). tokens_in end_bytes k l.end here) z ∙ records_none end_bytes l.end here) l.invariant in
    c.is_accepted.ensures ∙ sym (reached_all c.args.size ts l.end l.fits none c.args.flag)
