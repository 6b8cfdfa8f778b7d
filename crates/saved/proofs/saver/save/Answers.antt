use Rattle.std.proofs.Common.{rules, arith, ◌≡◌, ◌+◌, ◌*◌, ◌/◌, ◌≤◌, ℕ, List, length, true, sym, ap, ◌∙◌}
use Rattle.rules.specs.Limits.{max_query_size, token_bytes}
use Rattle.rules.specs.Listing.{room}
use Rattle.rules.specs.Answers.{Done, NotUtf8, NoRoom, refused}
use Rattle.rules.specs.Saved.{file_of, tokens_of, writable}
use Rattle.rules.proofs.Unpacking.{length-unpack}
use Rattle.rules.proofs.Chains.{accepted_has}
use Rattle.rules.proofs.Saved.{length_file}
use Rattle.saved.proofs.Answers.{saving_long, saving_malformed, saving-broken, saving_no_room, saving_done, writable_has}
use Rattle.saved.proofs.saver.save.Goals as goal

-- the bytes of the file
needed : (text list : List ℕ) (flag k : ℕ) → k ≡ token_bytes → length text + length list / k * 4 + 12 ≡ length (file_of text (tokens_of list) flag)
needed text list flag k e =
    ap (λ (k : ℕ). length text + length list / k * 4 + 12) e
    ∙ sym (length_file text (tokens_of list) flag ∙ ap (λ (k : ℕ). length text + k * 4 + 12) (length-unpack (room list) list))

-- there are no more tokens than bytes of text
few : (text list : List ℕ) (flag : ℕ) → length text ≤ max_query_size → writable text list flag ≡ true → (room list ≤ max_query_size) × (flag ≤ 1)
few text list flag short w =
    let f = accepted_has (length text) (tokens_of list) flag (writable_has text list flag w) in
    (omega (arith, f.few, length-unpack (room list) list), omega (arith, f.one))

pub returns-then-size-max_query_size : goal.returns-then-size-max_query_size
returns-then-size-max_query_size c = let e = saving_long c.args.text.now c.args.list.now c.args.flag c.args.file.now in search rules

pub returns-then-not-is_writable : goal.returns-then-not-is_writable
returns-then-not-is_writable c = let e = saving_malformed c.args.text.now c.args.list.now c.args.flag c.args.file.now in search rules

pub returns-then-valid-size : goal.returns-then-valid-size
returns-then-valid-size c =
    let v = c.valid_length-valid.ensures in
    ap (λ (n : ℕ). refused NotUtf8 n c.args.file.now) v
    ∙ sym (saving-broken c.args.text.now c.args.list.now c.args.flag c.args.file.now (omega (arith, c.max_query_size.ensures)) (sym c.is_writable.ensures ∙ c.if-not-is_writable.false) (λ h. c.if-valid-size.true (v ∙ h)))

pub returns-then-file-bytes : goal.returns-then-file-bytes
returns-then-file-bytes c =
    let n = needed c.args.text.now c.args.list.now c.args.flag c.token_bytes.result c.token_bytes.ensures in
    ap (λ (n : ℕ). refused NoRoom n c.args.file.now) n
    ∙ sym (saving_no_room c.args.text.now c.args.list.now c.args.flag c.args.file.now (omega (arith, c.max_query_size.ensures)) (sym c.is_writable.ensures ∙ c.if-not-is_writable.false) (sym c.valid_length-valid.ensures ∙ c.if-valid-size.false) (omega (arith, n)))

pub put_file-requires : goal.put_file-requires
put_file-requires c =
    let l : length c.args.text.now ≤ max_query_size = omega (arith, c.max_query_size.ensures) in
    let f = few c.args.text.now c.args.list.now c.args.flag l (sym c.is_writable.ensures ∙ c.if-not-is_writable.false) in
    let k = ap (λ (k : ℕ). length c.args.list.now / k) c.token_bytes.ensures in
    (l, f.0, omega (arith, f.1), omega (arith, k))

pub returns : goal.returns
returns c =
    let n = needed c.args.text.now c.args.list.now c.args.flag c.token_bytes.result c.token_bytes.ensures in
    (λ i. record { number = Done; value = n i; buffer = c.put_file.ensures i })
    ∙ sym (saving_done c.args.text.now c.args.list.now c.args.flag c.args.file.now (omega (arith, c.max_query_size.ensures)) (sym c.is_writable.ensures ∙ c.if-not-is_writable.false) (sym c.valid_length-valid.ensures ∙ c.if-valid-size.false) (omega (arith, n)))
