-- By the first byte.
use Rattle.std.proofs.Common.{sym, ◌∙◌}
use Rattle.lexer.proofs.FirstByteKinds.{lead-number}
use Rattle.lexer.proofs.FirstBytes.{beyond, as_word, as_space, as_number, as_single, as_longer}
use Rattle.lexer.proofs.tokenizer.last_token.Goals as goal

pub returns-in-4 : goal.returns-in-4
returns-in-4 c = c.new.ensures ∙ as_word _ _ c.requires (sym c.first_byte_kind.ensures ∙ c.in-4.is) _ c.read_bare_word.ensures

pub returns-in-1 : goal.returns-in-1
returns-in-1 c = c.new-in-1.ensures ∙ as_space _ _ c.requires (sym c.first_byte_kind.ensures ∙ c.in-1.is) _ c.read_whitespace.ensures

pub read_number-requires : goal.read_number-requires
read_number-requires c = (c.requires, (lead-number _ (sym c.first_byte_kind.ensures ∙ c.in-3.is)).1)

pub returns-in-3 : goal.returns-in-3
returns-in-3 c = c.read_number.ensures ∙ as_number _ _ c.requires (sym c.first_byte_kind.ensures ∙ c.in-3.is)

pub read_other-requires : goal.read_other-requires
read_other-requires c = (c.requires, sym c.first_byte_kind.ensures ∙ c.in-0.is)

pub returns-in_default : goal.returns-in_default
returns-in_default c =
    let k = c.first_byte_kind.ensures in
    let o = c.in_default.in_default-own.rest in
    let b = beyond _ (λ e. o.1 (k ∙ e)) (λ e. o.0.0.1 (k ∙ e)) (λ e. o.0.1 (k ∙ e)) (λ e. o.0.0.0.1 (k ∙ e)) in
    c.new-in_default.ensures ∙ as_single _ _ c.requires b _ k c.if-kind-lt128.true

pub read_longer-requires : goal.read_longer-requires
read_longer-requires c = let l = as_longer _ _ c.first_byte_kind.ensures c.if-kind-lt128.false in (c.requires, l.0, l.1)
