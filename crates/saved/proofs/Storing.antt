-- Records and tokens stored one by one: what is stored, with what is left to store, stays the same. And a file stored in three parts.
-- Assumes nothing.
use Prim.Native.Nat.{ℕ, ◌+◌, ◌-◌, ◌≤◌, ◌<◌}
use native.Mathlib.Omega.{arith}
use mathlib.Core.Path.{◌≡◌, sym, ap, ap₂, ◌∙◌}
use mathlib.Core.List.{List, ◌++◌}
use lib.ListN.{length, drop, length-append, length-drop}
use lib.Seq.{sets, sets-eq, take_at, drop-append-add, drop-drop}
use Rattle.rules.specs.Limits.{token_bytes}
use Rattle.rules.specs.Tokens.{Token}
use Rattle.rules.specs.Listing.{pack_token, pack, token_in, unpack}
use Rattle.rules.specs.Answers.{filled}
use Rattle.rules.specs.Saved.{end_bytes, record_of, record_bytes, records_of, end_in, token_of_record, tokens_in}
use Rattle.rules.proofs.Unpacking.{unpack_more, unpack_none}
use Rattle.rules.proofs.SavedBytes.{records_more, records_none, records_of_none, records_of_more}
use Rattle.lists.proofs.Packing.{put_first}

-- the records of what is left of a packed list
abbrev pub records_left : List ℕ → ℕ → ℕ → List ℕ
records_left list at left = records_of end_bytes (unpack left (drop at list))

pub record_put : (list : List ℕ) (at left : ℕ) (file file' : List ℕ) (to to' : ℕ) → 0 < left → file' ≡ sets file to (record_of end_bytes (token_in list at)) → to' ≡ to + record_bytes end_bytes
    → sets file' to' (records_left list (at + token_bytes) (left - 1)) ≡ sets file to (records_left list at left)
record_put list at left file file' to to' h e f =
    put_first file file' (record_of end_bytes (token_in list at)) (records_left list (at + token_bytes) (left - 1)) to to' e f
    ∙ ap (sets file to) (sym (ap (records_of end_bytes) (unpack_more list at left h) ∙ records_of_more end_bytes (token_in list at) (unpack (left - 1) (drop (at + token_bytes) list))))

pub records_put : (list : List ℕ) (at : ℕ) (file : List ℕ) (to : ℕ) → file ≡ sets file to (records_left list at 0)
records_put list at file to = ap (sets file to) (sym (ap (records_of end_bytes) (unpack_none (drop at list)) ∙ records_of_none end_bytes))

-- the packed tokens of what is left of the records in a file
abbrev pub tokens_left : List ℕ → ℕ → ℕ → ℕ → List ℕ
tokens_left file at left start = pack (tokens_in end_bytes left start (drop at file))

pub token_put : (file : List ℕ) (at left start : ℕ) (list list' : List ℕ) (to to' : ℕ) → 0 < left → list' ≡ sets list to (pack_token (token_of_record end_bytes start (drop at file))) → to' ≡ to + token_bytes
    → sets list' to' (tokens_left file (at + record_bytes end_bytes) (left - 1) (end_in end_bytes (drop at file))) ≡ sets list to (tokens_left file at left start)
unfolding pack
token_put file at left start list list' to to' h e f =
    put_first list list' (pack_token (token_of_record end_bytes start (drop at file))) (tokens_left file (at + record_bytes end_bytes) (left - 1) (end_in end_bytes (drop at file))) to to' e f
    ∙ ap (λ (ts : List Token). sets list to (pack ts)) (sym (records_more end_bytes start file at left h))

pub tokens_put : (file : List ℕ) (at start : ℕ) (list : List ℕ) (to : ℕ) → list ≡ sets list to (tokens_left file at 0 start)
unfolding pack
tokens_put file at start list to = ap (λ (ts : List Token). sets list to (pack ts)) (sym (records_none end_bytes start (drop at file)))

-- a front, and bytes stored after it
pub file_filled : (text xs file : List ℕ) → length text + length xs ≤ length file → sets (text ++ drop (length text) file) (length text) xs ≡ filled (text ++ xs) file
file_filled text xs file h =
    let rest = drop (length text) file in
    let l = length-append text rest in
    let d = length-drop (length text) file in
    let m = length-append text xs in
    sets-eq xs (text ++ rest) (length text) (omega arith)
    ∙ ap₂ (λ (x y : List ℕ). x ++ xs ++ y) (take_at text rest (length text) (λ i. length text))
    (drop-append-add text rest (length xs) ∙ drop-drop (length xs) (length text) file ∙ ap (λ (k : ℕ). drop k file) (sym m))
