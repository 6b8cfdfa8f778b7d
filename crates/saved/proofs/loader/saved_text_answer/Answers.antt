use Rattle.std.proofs.Common.{arith, ◌≡◌, ◌≤◌, ℕ, List, [], length, take, sym, ap, ◌∙◌}
use lib.Seq.{length-take-le}
use Rattle.rules.specs.Utf8.{valid_length}
use Rattle.rules.specs.Answers.{TooLong, NotUtf8, Done}
use Rattle.rules.specs.Saved.{Malformed, NoVersion, offset_in, text_in}
use Rattle.saved.proofs.Answers.{opening_short, opening-version, opening_long, opening_unreadable, opening-broken, opening_done, readable_sized, text-refused, text_given}
use Rattle.saved.proofs.loader.saved_text_answer.Goals as goal

pub returns-then-file-lt-TRAILER_BYTES : goal.returns-then-file-lt-TRAILER_BYTES
returns-then-file-lt-TRAILER_BYTES c = sym (text-refused c.args.file.now Malformed 0 (λ e. omega (arith, e)) (opening_short c.args.file.now c.if-file-lt-TRAILER_BYTES.true))

pub returns-then-file-at-ne-VERSION : goal.returns-then-file-at-ne-VERSION
returns-then-file-at-ne-VERSION c = sym (text-refused c.args.file.now NoVersion 0 (λ e. omega (arith, e)) (opening-version c.args.file.now (omega arith) c.if-file-at-ne-VERSION.true))

pub returns-then-size-max_query_size : goal.returns-then-size-max_query_size
returns-then-size-max_query_size c =
    sym (text-refused c.args.file.now TooLong 0 (λ e. omega (arith, e)) (opening_long c.args.file.now (omega arith) c.if-file-at-ne-VERSION.false (omega (arith, c.get_u32-size.ensures, c.max_query_size.ensures, c.if-size-max_query_size.true))))

pub returns-then-not-is_readable : goal.returns-then-not-is_readable
returns-then-not-is_readable c =
    sym (text-refused c.args.file.now Malformed 0 (λ e. omega (arith, e))
    (opening_unreadable c.args.file.now (omega arith) c.if-file-at-ne-VERSION.false (omega (arith, c.get_u32-size.ensures, c.max_query_size.ensures, c.if-size-max_query_size.false)) (sym c.is_readable.ensures ∙ c.if-not-is_readable.true)))

-- the bytes that are tested are the text, and as many as the offset says
tested : (file : List ℕ) (size valid : ℕ) → size ≡ offset_in file → offset_in file ≤ length file → valid ≡ valid_length (take size file) → (valid ≡ valid_length (text_in file)) × (length (text_in file) ≡ size)
tested file size valid e h v = (v ∙ ap (λ (k : ℕ). valid_length (take k file)) e, length-take-le _ file h ∙ sym e)

pub returns-then-valid-size : goal.returns-then-valid-size
returns-then-valid-size c =
    let f = c.args.file.now in
    let s = readable_sized f (sym c.is_readable.ensures ∙ c.if-not-is_readable.false) in
    let t = tested f c.get_u32-size.result c.valid_length-valid.result c.get_u32-size.ensures (omega (arith, s)) c.valid_length-valid.ensures in
    ap (λ (n : ℕ). record { number = NotUtf8; value = n; bytes = [] }) t.0
    ∙ sym (text-refused f NotUtf8 _ (λ e. omega (arith, e))
    (opening-broken f (omega arith) c.if-file-at-ne-VERSION.false (omega (arith, c.get_u32-size.ensures, c.max_query_size.ensures)) (sym c.is_readable.ensures ∙ c.if-not-is_readable.false) (λ h. c.if-valid-size.true (t.0 ∙ h ∙ t.1))))

pub returns : goal.returns
returns c =
    let f = c.args.file.now in
    let s = readable_sized f (sym c.is_readable.ensures ∙ c.if-not-is_readable.false) in
    let t = tested f c.get_u32-size.result c.valid_length-valid.result c.get_u32-size.ensures (omega (arith, s)) c.valid_length-valid.ensures in
    ap (λ (n : ℕ). record { number = Done; value = length (take n f); bytes = take n f }) c.get_u32-size.ensures
    ∙ sym (text_given f (opening_done f (omega arith) c.if-file-at-ne-VERSION.false (omega (arith, c.get_u32-size.ensures, c.max_query_size.ensures)) (sym c.is_readable.ensures ∙ c.if-not-is_readable.false) (sym t.0 ∙ c.if-valid-size.false ∙ sym t.1)))
