-- #101: the bytes of records and of the trailer as numbers of 32 bits, as code stores and reads them.
-- Assumes nothing.
use Prim.Native.Nat.{ℕ, zero, suc, ◌+◌, ◌-◌, ◌*◌, ◌/◌, ◌%◌, ◌<◌}
use native.Mathlib.Omega.{arith}
use mathlib.Core.Path.{◌≡◌, refl, ap}
use mathlib.Core.List.{List, [], ◌∷◌, ◌++◌}
use lib.ListN.{get_or, drop}
use lib.Seq.{drop-drop}
use Rattle.rules.specs.Tokens.{Token, token}
use Rattle.rules.specs.Listing.{bytes_of32, number_at}
use Rattle.rules.specs.Saved.{version, end_bytes, record_of, record_bytes, records_of, end_in, token_of_record, tokens_in}
use Rattle.rules.proofs.Unpacking.{same_four}

-- a record is one number, whose low byte is the kind
pub record_bytes_lem : (kind end : ℕ) → bytes_of32 (kind % 256 + end % 16777216 * 256) ≡ record_of end_bytes (token kind 0 end)
record_bytes_lem kind end = same_four (omega arith) (omega arith) (omega arith) (omega arith)

pub record_end : (records : List ℕ) → get_or records 0 0 < 256 → number_at records 0 / 256 ≡ end_in end_bytes records
record_end [] h = refl
record_end (a ∷ []) h = omega arith
record_end (a ∷ b ∷ []) h = omega arith
record_end (a ∷ b ∷ c ∷ []) h = omega arith
record_end (a ∷ b ∷ c ∷ d ∷ l) h = omega arith

pub record_kind : (records : List ℕ) → get_or records 0 0 < 256 → number_at records 0 % 256 ≡ get_or records 0 0
record_kind records h = omega arith

-- the trailer's last four bytes
pub marks_bytes : (flag : ℕ) → flag < 256 → bytes_of32 (flag + version * 256) ≡ flag ∷ version ∷ 0 ∷ 0 ∷ []
marks_bytes flag h = same_four (omega arith) (omega arith) (omega arith) (omega arith)

-- so many tokens of records from a place on, one by one
pub records_more : (width start : ℕ) (file : List ℕ) (at n : ℕ) → 0 < n
    → tokens_in width n start (drop at file) ≡ token_of_record width start (drop at file) ∷ tokens_in width (n - 1) (end_in width (drop at file)) (drop (at + record_bytes width) file)
unfolding tokens_in
records_more width start file at zero h = absurd (omega arith)
records_more width start file at (suc n) h =
    let p : suc n - 1 ≡ n = omega arith in
    rw p (ap (λ (l : List ℕ). token_of_record width start (drop at file) ∷ tokens_in width n (end_in width (drop at file)) l) (drop-drop (record_bytes width) at file))

pub records_none : (width start : ℕ) (records : List ℕ) → tokens_in width 0 start records ≡ []
unfolding tokens_in
records_none width start records = refl

-- the clauses of `records_of`
pub records_of_none : (width : ℕ) → records_of width [] ≡ []
unfolding records_of
records_of_none width = refl

pub records_of_more : (width : ℕ) (t : Token) (ts : List Token) → records_of width (t ∷ ts) ≡ record_of width t ++ records_of width ts
unfolding records_of
records_of_more width t ts = refl
