use Rattle.std.proofs.Common.{arith, ◌≡◌, ◌+◌, ◌-◌, ◌*◌, ◌&&◌, ℕ, Bool, drop, sym, ap, subst, ◌∙◌}
use Rattle.rules.specs.Limits.{token_bytes}
use Rattle.rules.specs.Tokens.{token}
use Rattle.rules.specs.Listing.{token_in, unpack}
use Rattle.rules.specs.Saved.{goes_on}
use Rattle.rules.proofs.Unpacking.{unpack_more, unpack_none}
use Rattle.rules.proofs.Chains.{Reached, reached_more, reached_all}
use Rattle.lexer.specs.declared.token.Token.{Token as CodeToken}
use Rattle.lexer.specs.Ends.{token_of}
use Rattle.saved.proofs.checks.list_fits.Goals as goal

pub loop-i-preserved : goal.loop-i-preserved
loop-i-preserved c =
    let list = c.args.list.now in
    let l = c.loop-i in
    let at = l.i * token_bytes in
    let left = c.args.tokens - l.i in
    let ts = unpack c.args.tokens list in
    let t = token_in list at in
    let is : c.get_token-token.result ≡ token_of t = rw c.token_bytes.ensures at c.get_token-token.ensures in
    let here = subst (Reached c.args.size ts l.end l.fits) (unpack_more list at left (omega (arith, c.loop-i-test.true))) l.invariant in
    let r = reached_more c.args.size ts l.end l.fits t (unpack (left - 1) (drop (at + token_bytes) list)) here in
    let end : t.end ≡ c.get_token-token.result.end = ap (λ (n : CodeToken). n.end) (sym is) in
    let goes = c.goes_on-fits.ensures ∙ ap (λ (n : CodeToken). goes_on c.args.size l.end (token n.kind n.start n.end)) is in
    let fits : (l.fits && goes_on c.args.size l.end t) ≡ (l.fits && c.goes_on-fits.result) = ap (λ (b : Bool). l.fits && b) (sym goes) in
    let less : left - 1 ≡ c.args.tokens - (l.i + 1) = omega arith in
    let next : at + token_bytes ≡ (l.i + 1) * token_bytes = omega arith in
    subst (λ (x : ℕ × Bool × ℕ × ℕ). Reached c.args.size ts x.0 x.1 (unpack x.2 (drop x.3 list))) (λ i. (end i, fits i, less i, next i)) r

pub returns : goal.returns
returns c =
    let list = c.args.list.now in
    let l = c.loop-i in
    let ts = unpack c.args.tokens list in
    let here = drop (l.i * token_bytes) list in
    let z : c.args.tokens - l.i ≡ 0 = omega (arith, c.loop-i-test.false) in
    let none = subst (Reached c.args.size ts l.end l.fits) (ap (λ (k : ℕ). unpack k here) z ∙ unpack_none here) l.invariant in
    c.is_accepted.ensures ∙ sym (reached_all c.args.size ts l.end l.fits none c.args.flag)
