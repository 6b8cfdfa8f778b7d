-- What stands before the first `$` after the token's first byte.
use Rattle.std.proofs.Common.{◌≡◌, ◌≢◌, ℕ, ◌+◌, ◌-◌, List, [], ◌∷◌, take, drop, refl, ap, arith, rules, tests}
use Rattle.std.proofs.lemmas.Iterator.{YieldsList-from_slice, IsFirst-from_position, index_from_first}
use borrow.Author.Tests.{eq-eqb, ne_eqb}
use Rattle.rules.specs.Characters.{dollar}
use Rattle.rules.specs.Masking.{before_dollar, tag_width}
use Rattle.masking.proofs.Spans.{span_rest}
use Rattle.masking.proofs.copy.tag_width.Goals as goal

none : before_dollar [] ≡ 0
unfolding before_dollar
none = refl

hit : (x : ℕ) (s : List ℕ) → x ≡ dollar → before_dollar (x ∷ s) ≡ 0
unfolding before_dollar
hit x s e = rw (eq-eqb x dollar e, before_dollar)

miss : (x : ℕ) (s : List ℕ) → x ≢ dollar → before_dollar (x ∷ s) ≡ before_dollar s + 1
unfolding before_dollar
miss x s n = rw (ne_eqb x dollar n, before_dollar) (omega arith)

pub returns : goal.returns
unfolding tag_width
returns c =
    let s = c.args.text.now in
    let rest = take (c.args.token.end - (c.args.token.start + 1)) (drop (c.args.token.start + 1) s) in
    let found = IsFirst-from_position _ _ c.position.result (λ b. b ≡ dollar) (λ b. b ≢ dollar) c.position.ensures.ran (YieldsList-from_slice rest c.iter.ensures.rest) (λ x q k. search (rules, tests)) (λ x q k. search (rules, tests)) in
    let n = index_from_first before_dollar (λ b. b ≡ dollar) (λ b. b ≢ dollar) none hit miss rest c.position.result found in
    omega (arith, n, c.unwrap_or.ensures, ap before_dollar (span_rest s c.args.token.start c.args.token.end c.requires))
