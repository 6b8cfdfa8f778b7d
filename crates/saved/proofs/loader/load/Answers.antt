use Rattle.std.proofs.Common.{rules, arith, ◌<◌, ◌≤◌, ◌/◌, ℕ, length, drop, sym, ap, subst, ◌∙◌}
use Rattle.rules.specs.Listing.{pack, room}
use Rattle.rules.specs.Answers.{Done, NoRoom, filled}
use Rattle.rules.specs.Saved.{end_bytes, count_in, tokens_in, refused_load}
use Rattle.rules.proofs.Saved.{load_done}
use Rattle.saved.proofs.Answers.{text_opens, list-refused, loading_no_room}
use Rattle.saved.proofs.loader.load.Goals as goal

pub returns-in_err-text : goal.returns-in_err-text
returns-in_err-text c = let e = list-refused c.args.file.now c.in_err-text.field-0.0 c.args.list.now c.in_err-text.ensures in search rules

pub overflow_sub-at : goal.overflow_sub-at
overflow_sub-at c = (text_opens c.args.file.now _ _ c.in_ok-text.ensures).0.long

pub get_u32-records-requires : goal.get_u32-records-requires
get_u32-records-requires c = omega (arith, (text_opens c.args.file.now _ _ c.in_ok-text.ensures).0.long)

pub returns-then-list-token_bytes : goal.returns-then-list-token_bytes
returns-then-list-token_bytes c =
    let o = text_opens c.args.file.now _ _ c.in_ok-text.ensures in
    let n = c.get_u32-records.ensures in
    let less : room c.args.list.now < count_in c.args.file.now = subst (λ (k : ℕ). length c.args.list.now / k < count_in c.args.file.now) c.token_bytes.ensures (omega (arith, n, c.if-list-token_bytes.true)) in
    ap (λ (k : ℕ). refused_load NoRoom k c.args.list.now) n ∙ sym (loading_no_room c.args.file.now c.args.list.now o.0 less)

pub put_tokens-requires : goal.put_tokens-requires
put_tokens-requires c =
    let o = text_opens c.args.file.now _ _ c.in_ok-text.ensures in
    let k = ap (λ (k : ℕ). length c.args.list.now / k) c.token_bytes.ensures in
    (omega (arith, c.get_u32-records.ensures, o.1, o.0.sizes), omega (arith, k))

pub bounds-file-at : goal.bounds-file-at
bounds-file-at c = omega (arith, (text_opens c.args.file.now _ _ c.in_ok-text.ensures).0.long)

pub returns : goal.returns
returns c =
    let o = text_opens c.args.file.now _ _ c.in_ok-text.ensures in
    let n = c.get_u32-records.ensures in
    let enough : count_in c.args.file.now ≤ room c.args.list.now = subst (λ (k : ℕ). count_in c.args.file.now ≤ length c.args.list.now / k) c.token_bytes.ensures (omega (arith, n)) in
    let bytes = c.put_tokens.ensures ∙ (λ i. filled (pack (tokens_in end_bytes (n i) 0 (drop (o.1 i) c.args.file.now))) c.args.list.now) in
    (λ i. record { number = Done; value = n i; flag = c.from.ensures i; buffer = bytes i }) ∙ sym (load_done c.args.file.now c.args.list.now o.0 enough)
