-- A token that its first byte and the byte after it tell ends at the first edge.
use Rattle.std.proofs.Common.{◌≡◌, ℕ, ◌+◌, ◌-◌, ◌%◌, get_or, bit_and, sym, ap, ap₂, ◌∙◌, subst, arith}
use lib.Count.{count_trailing_zeros}
use Rattle.lexer.specs.declared.token.Lexed.{Lexed}
use Rattle.edges.specs.Leads.{told}
use Rattle.edges.specs.Left.{Left}
use Rattle.edges.proofs.Tells.{lead_small}
use Rattle.edges.proofs.Walks.{token, next}
use Rattle.edges.proofs.plain.Goals as goal

pub is_told-requires : goal.is_told-requires
is_told-requires c =
    let end = c.args.rest.base + count_trailing_zeros 64 c.args.rest.bits in
    omega (arith, c.lead_of.ensures, lead_small (get_or c.args.text.now end 0) (omega (arith, c.type_inv.text end)))

pub returns-clause-taken : goal.returns-clause-taken
returns-clause-taken c =
    let s = c.args.text.now in
    let r = c.args.rest in
    let e = r.base + count_trailing_zeros 64 r.bits in
    let t = sym (ap₂ told c.lead_of-v.ensures c.lead_of.ensures) ∙ sym c.is_told.ensures ∙ c.if-not-is_told.false in
    let l =
    c.new.ensures ∙ ap {B = Lexed} (λ (n : ℕ). record { kind = n % 64; end = e }) c.lead_of-v.ensures
    ∙ token s c.args.start r c.if-rest-eq0.false c.requires.2 (λ n. omega (arith, c.type_inv.text n)) c.requires.1 t in
    let x : e ≡ c.new.result.end = sym (ap (λ (l : Lexed). l.end) c.new.ensures) in
    (l, subst (λ (n : ℕ). Left s n (record { base = r.base; bits = bit_and r.bits (r.bits - 1) })) x (next s c.args.start r c.if-rest-eq0.false c.requires.2))
