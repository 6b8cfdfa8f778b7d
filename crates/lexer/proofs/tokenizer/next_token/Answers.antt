-- At the end; near it; or by the first byte.
use Rattle.std.proofs.Common.{◌+◌, refl, sym, ap, ◌∙◌, arith}
use Rattle.rules.specs.Tokens.{after_dot_at}
use Rattle.rules.proofs.RuleBytes.{at_end_lem}
use Rattle.lexer.proofs.Ends.{lexed_is, next_lies}
use Rattle.lexer.proofs.FirstByteKinds.{lead-space, lead-number}
use Rattle.lexer.proofs.FirstBytes.{beyond, as_word, as_space, as_number, as_single, as_longer}
use Rattle.lexer.proofs.tokenizer.next_token.Goals as goal

pub returns-then-start-text : goal.returns-then-start-text
returns-then-start-text c = c.new.ensures ∙ lexed_is _ (at_end_lem (after_dot_at c.args.text.now c.args.start) c.args.text.now c.args.start c.if-start-text.true) _ (omega arith)

pub returns-in-4 : goal.returns-in-4
returns-in-4 c = c.new-in-4.ensures ∙ as_word _ _ (omega (arith, c.if-start-text.false)) (sym c.first_byte_kind.ensures ∙ c.in-4.is) _ c.read_bare_word.ensures

pub is_short_space-requires : goal.is_short_space-requires
is_short_space-requires c =
    let w = lead-space _ (sym c.first_byte_kind.ensures ∙ c.in-1.is) in (omega (arith, c.if-start-text.false, c.if-text-start-lt4.false), w.0, w.1)

pub returns-then-is_short_space : goal.returns-then-is_short_space
returns-then-is_short_space c =
    c.new-then-is_short_space.ensures ∙ as_space _ _ (omega (arith, c.if-start-text.false)) (sym c.first_byte_kind.ensures ∙ c.in-1.is) _ (ap (λ n. c.args.start + n) (c.is_short_space.ensures c.if-is_short_space.true))

pub returns-else-is_short_space : goal.returns-else-is_short_space
returns-else-is_short_space c = c.new-in-1.ensures ∙ as_space _ _ (omega (arith, c.if-start-text.false)) (sym c.first_byte_kind.ensures ∙ c.in-1.is) _ c.read_whitespace.ensures

pub read_number-requires : goal.read_number-requires
read_number-requires c = ((omega (arith, c.if-start-text.false)), (lead-number _ (sym c.first_byte_kind.ensures ∙ c.in-3.is)).1)

pub returns-in-3 : goal.returns-in-3
returns-in-3 c = c.read_number.ensures ∙ as_number _ _ (omega (arith, c.if-start-text.false)) (sym c.first_byte_kind.ensures ∙ c.in-3.is)

-- such a character lies in the text
pub overflow_add-start-in-Some : goal.overflow_add-start-in-Some
overflow_add-start-in-Some c =
    omega (arith, next_lies c.args.text.now c.args.start _ (omega (arith, c.if-start-text.false)) (lexed_is c.args.start (c.in-Some.ensures.token (after_dot_at c.args.text.now c.args.start)) _ refl))

pub returns-in_default : goal.returns-in_default
returns-in_default c =
    let k = c.first_byte_kind.ensures in
    let o = c.in_default.in_default-own.rest in
    let b = beyond _ (λ e. o.1 (k ∙ e)) (λ e. o.0.0.1 (k ∙ e)) (λ e. o.0.1 (k ∙ e)) (λ e. o.0.0.0.1 (k ∙ e)) in
    c.new-in_default.ensures ∙ as_single _ _ (omega (arith, c.if-start-text.false)) b _ k c.if-kind-lt128.true

pub fast_operator-requires : goal.fast_operator-requires
fast_operator-requires c = let l = as_longer _ _ c.first_byte_kind.ensures c.if-kind-lt128.false in (omega (arith, c.if-start-text.false, c.if-text-start-lt4.false), l.0, l.1)

pub read_longer-requires : goal.read_longer-requires
read_longer-requires c = let l = as_longer _ _ c.first_byte_kind.ensures c.if-kind-lt128.false in ((omega (arith, c.if-start-text.false)), l.0, l.1)
