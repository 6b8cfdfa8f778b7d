-- Every answer fits what a C function packs it into. Assumes nothing.
use Prim.Native.Nat.{ℕ, ◌%◌, ◌≤◌, ◌<◌}
use native.Mathlib.Decide.{dec_lt}
use native.Mathlib.Omega.{arith}
use mathlib.Core.Path.{◌≡◌}
use mathlib.Core.List.{List}
use mathlib.Core.Bool.{Bool, true, false, not, cond, ◌||◌}
use lib.Dec.{ltb, eqb}
use lib.ListN.{length, drop, length-take}
use borrow.Author.Tests.{ltb-false, not-false}
use Rattle.rules.specs.Utf8.{valid, valid_length}
use Rattle.rules.specs.Kinds.{hiding_kind, some_kind}
use Rattle.rules.specs.Limits.{max_query_size, token_bytes}
use Rattle.rules.specs.Widths.{number_end, Fits, FitsExtra, FitsHalves}
use Rattle.rules.specs.Tokens.{Token, tokens, after_dot_at, token_at}
use Rattle.rules.specs.Listing.{lean, only, lean_keeps, lean_up_to_keeps, starts_before, whole_list, list_up_to, room}
use Rattle.rules.specs.Answers.{Done, TooLong, NotUtf8, OtherLength, NoPart, too_long, beyond, no_part, no_mode, Written, refused, stored, too_long_list, listing, listing_up_to, step, Part, refused_part, part_of, token_text, shown_text, masked_copy, Placed, place_at}
use Rattle.rules.specs.Statements.{First, first_statement}
use Rattle.rules.specs.Saved.{version, end_bytes, trailer_bytes, file_of, offset_in, count_in, flag_in, version_in, text_in, list_in, accepted, tokens_of, writable, saving, readable, Verdict, opening, opens, Loaded, loading}
use Rattle.rules.proofs.Tests.{cond_ind, and_right}
use Rattle.rules.proofs.Decoding.{valid_most}
use Rattle.rules.proofs.Edges.{tiles, tiles_count}
use Rattle.rules.proofs.Listing.{only-length}
use Rattle.rules.proofs.Stepping.{step_too_long, step-beyond, step_done, step_ends}
use Rattle.rules.proofs.KnownKinds.{kind_known}
use Rattle.rules.proofs.Parts.{or_none, part_inside}
use Rattle.rules.proofs.Places.{place_most}
use Rattle.rules.proofs.Statements.{first_lies}
use Rattle.rules.proofs.Chains.{accepted_has}
use Rattle.rules.proofs.Saved.{opens_has, length_file, length-tokens}

abbrev FitsW : Written → Type 0
FitsW w = Fits w.number w.value

fits_stored : (ts : List Token) (number : ℕ) (list : List ℕ) → number < number_end → length ts ≤ max_query_size → FitsW (stored ts number list)
unfolding stored
fits_stored ts number list n l = cond_ind FitsW (ltb (room list) (length ts)) _ _ (λ e. (omega arith, omega (arith, l))) (λ e. (n, omega (arith, l)))

all_fit : (s : List ℕ) → length (tokens s) ≤ length s
all_fit s = omega (arith, tiles_count 0 (tokens s) (length s) (tiles s))

whole_fits : (mode : ℕ) (s : List ℕ) → length (whole_list mode s) ≤ length s
unfolding whole_list
whole_fits mode s = go (eqb mode lean)
  where
    go : (b : Bool) → length (cond b (only lean_keeps (tokens s)) (tokens s)) ≤ length s
    go true = omega (arith, only-length lean_keeps (tokens s), all_fit s)
    go false = all_fit s

up_to_fits : (mode position : ℕ) (s : List ℕ) → length (list_up_to mode position s) ≤ length s
unfolding list_up_to
up_to_fits mode position s = go (eqb mode lean)
  where
    go : (b : Bool) → let ts = only (starts_before position) (tokens s) in length (cond b (only lean_up_to_keeps ts) ts) ≤ length s
    go true = omega (arith, only-length lean_up_to_keeps (only (starts_before position) (tokens s)), only-length (starts_before position) (tokens s), all_fit s)
    go false = omega (arith, only-length (starts_before position) (tokens s), all_fit s)

-- what both listings do with a text that has their tokens
fits_rest : (text : List ℕ) (ts : List Token) (list : List ℕ) → length text ≤ max_query_size → length ts ≤ length text
    → FitsW (cond (not (valid text)) (refused NotUtf8 (valid_length text) list) (stored ts Done list))
fits_rest text ts list l h =
    cond_ind FitsW (not (valid text)) _ _ (λ e. (omega arith, omega (arith, valid_most text))) (λ e. fits_stored ts Done list (omega arith) (omega arith))

pub fits_listing : (mode : ℕ) (text list : List ℕ) → FitsW (listing mode text list)
unfolding listing
fits_listing mode text list =
    cond_ind FitsW (no_mode mode) _ _ (λ e. (omega arith, omega arith))
    (λ e. cond_ind FitsW (too_long text) _ _ (λ f. fits_stored too_long_list TooLong list (omega arith) (omega arith))
    (λ f. fits_rest text (whole_list mode text) list (ltb-false max_query_size (length text) f) (whole_fits mode text)))

pub fits_listing_up_to : (mode position : ℕ) (text list : List ℕ) → FitsW (listing_up_to mode position text list)
unfolding listing_up_to
fits_listing_up_to mode position text list =
    cond_ind FitsW (no_mode mode) _ _ (λ e. (omega arith, omega arith))
    (λ e. cond_ind FitsW (too_long text) _ _ (λ f. (omega arith, omega arith))
    (λ f. fits_rest text (list_up_to mode position text) list (ltb-false max_query_size (length text) f) (up_to_fits mode position text)))

pub fits_copy : (text copy : List ℕ) → FitsW (masked_copy text copy)
unfolding masked_copy
fits_copy text copy =
    cond_ind FitsW (too_long text) _ _ (λ e. (omega arith, omega arith))
    (λ e. let l = ltb-false max_query_size (length text) e in
    cond_ind FitsW (not (valid text)) _ _ (λ f. (omega arith, omega (arith, valid_most text)))
    (λ f. cond_ind FitsW (ltb (length copy) (length text)) _ _ (λ g. (omega arith, omega (arith, l))) (λ g. (omega arith, omega (arith, l)))))

abbrev FitsP : Part → Type 0
FitsP p = Fits p.number p.value

refusal : (number : ℕ) → number < number_end → FitsP (refused_part number)
refusal number n = (n, omega arith)

-- a part of a text or of its copy
fits_part : (text source : List ℕ) (start end : ℕ) → length text ≤ max_query_size → no_part text start end ≡ false → FitsP (part_of source start end)
fits_part text source start end l h = let i = part_inside text start end h in (omega arith, omega arith)

pub fits_token-text : (text : List ℕ) (start end : ℕ) → FitsP (token_text text start end)
unfolding token_text
fits_token-text text start end =
    cond_ind FitsP (too_long text) _ _ (λ e. refusal TooLong (omega arith))
    (λ e. cond_ind FitsP (no_part text start end) _ _ (λ f. refusal NoPart (omega arith))
    (λ f. fits_part text text start end (ltb-false max_query_size (length text) e) f))

pub fits_shown_text : (text copy : List ℕ) (kind start end : ℕ) → FitsP (shown_text text copy kind start end)
unfolding shown_text
fits_shown_text text copy kind start end =
    cond_ind FitsP (too_long text) _ _ (λ e. refusal TooLong (omega arith))
    (λ e. cond_ind FitsP (no_part text start end || not (some_kind kind)) _ _ (λ f. refusal NoPart (omega arith))
    (λ f. cond_ind FitsP (not (eqb (length copy) (length text))) _ _ (λ g. refusal OtherLength (omega arith))
    (λ g. fits_part text (cond (hiding_kind kind) copy text) start end (ltb-false max_query_size (length text) e) (or_none (no_part text start end) (not (some_kind kind)) f).0)))

abbrev FitsPlaced : Placed → Type 0
FitsPlaced p = FitsHalves p.number p.place.line p.place.column

pub fits_place : (text : List ℕ) (offset : ℕ) → FitsPlaced (place_at text offset)
unfolding place_at
fits_place text offset =
    cond_ind FitsPlaced (too_long text) _ _ (λ e. (omega arith, omega arith, omega arith))
    (λ e. cond_ind FitsPlaced (beyond text offset) _ _ (λ f. (omega arith, omega arith, omega arith))
    (λ f.
    let l = ltb-false max_query_size (length text) e in
    let m = ltb-false (length text) offset f in
    let p = place_most text offset in
    (omega arith, omega arith, omega arith)))

-- Both numbers of a first statement, and the bytes before its delimiter.
abbrev FitsFirst : First → Type 0
FitsFirst f = FitsHalves f.number f.statement.tokens f.statement.end × Fits f.number f.statement.bytes

pub fits_first : (text : List ℕ) → FitsFirst (first_statement text)
unfolding first_statement
fits_first text =
    cond_ind FitsFirst (too_long text) _ _ (λ e. ((omega arith, omega arith, omega arith), (omega arith, omega arith)))
    (λ e.
    let l = ltb-false max_query_size (length text) e in
    let f = first_lies 0 (tokens text) (length text) (tiles text) in
    ((omega arith, omega (arith, l, f.few, f.high), omega (arith, l, f.high)), (omega arith, omega (arith, l, f.middle, f.high))))

pub fits_step : (s : List ℕ) (i : ℕ) → FitsExtra (step s i).number (step s i).token.kind (step s i).value
unfolding token_at
fits_step s i = go (dec_lt max_query_size (length s)) (dec_lt (length s) i)
  where
    go : Dec (max_query_size < length s) → Dec (length s < i) → FitsExtra (step s i).number (step s i).token.kind (step s i).value
    go (yes h) k = rw (step_too_long s i h) (omega arith, omega arith, omega arith)
    go (no h) (yes k) = rw (step-beyond s i (omega arith) k) (omega arith, omega arith, omega arith)
    go (no h) (no k) =
        rw (step_done s i (omega arith) (omega arith))
        (omega arith, omega (arith, kind_known (after_dot_at s i) (drop i s)), omega (arith, step_ends s i (omega arith)))

-- Saved lists: bytes written or needed, tokens stored or needed with the flag, and the text's bytes.
pub fits_saving : (text list : List ℕ) (flag : ℕ) (file : List ℕ) → FitsW (saving text list flag file)
unfolding saving
fits_saving text list flag file =
    cond_ind FitsW (too_long text) _ _ (λ e. (omega arith, omega arith))
    (λ e. cond_ind FitsW (not (writable text list flag)) _ _ (λ f. (omega arith, omega arith))
    (λ f. cond_ind FitsW (not (valid text)) _ _ (λ g. (omega arith, omega (arith, valid_most text, ltb-false max_query_size (length text) e)))
    (λ g.
    let l = ltb-false max_query_size (length text) e in
    let a = and_right (eqb (length list % token_bytes) 0) (accepted (length text) (tokens_of list) flag) (not-false (writable text list flag) f) in
    let n = (accepted_has (length text) (tokens_of list) flag a).few in
    let z = length_file text (tokens_of list) flag in
    let saved = file_of text (tokens_of list) flag in
    cond_ind FitsW (ltb (length file) (length saved)) _ _ (λ h. (omega arith, omega arith)) (λ h. (omega arith, omega arith)))))

abbrev FitsV : Verdict → Type 0
FitsV v = Fits v.number v.value

pub fits_opening : (file : List ℕ) → FitsV (opening file)
unfolding opening
fits_opening file =
    cond_ind FitsV (ltb (length file) trailer_bytes) _ _ (λ e. (omega arith, omega arith))
    (λ e. cond_ind FitsV (not (eqb (version_in file) version)) _ _ (λ f. (omega arith, omega arith))
    (λ f. cond_ind FitsV (ltb max_query_size (offset_in file)) _ _ (λ g. (omega arith, omega arith))
    (λ g.
    let l = ltb-false max_query_size (offset_in file) g in
    let t = length-take (offset_in file) file in
    cond_ind FitsV (not (readable file)) _ _ (λ h. (omega arith, omega arith))
    (λ h. cond_ind FitsV (not (valid (text_in file))) _ _ (λ i. (omega arith, omega (arith, valid_most (text_in file)))) (λ i. (omega arith, omega arith))))))

abbrev FitsL : Loaded → Type 0
FitsL l = FitsExtra l.number l.flag l.value

pub fits_loading : (file list : List ℕ) → FitsL (loading file list)
unfolding loading
fits_loading file list =
    cond_ind FitsL (not (opens file)) _ _ (λ e. let f = fits_opening file in (f.0, omega arith, f.1))
    (λ e.
    let o = opens_has file (not-false (opens file) e) in
    let a = accepted_has (offset_in file) (list_in file) (flag_in file) o.list in
    let l = o.short in
    let n = a.few in
    let one = a.one in
    let k = length-tokens end_bytes (count_in file) 0 (drop (offset_in file) file) in
    cond_ind FitsL (ltb (room list) (count_in file)) _ _ (λ f. (omega arith, omega arith, omega arith)) (λ f. (omega arith, omega arith, omega arith)))
