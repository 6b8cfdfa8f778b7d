-- A text with some of its characters hidden: for each of them as many `#` as it has bytes.
use Prim.Native.Nat.{ℕ, zero, suc, ◌+◌, ◌<◌}
use native.Mathlib.Omega.{arith}
use native.Mathlib.Nat.{suc_inj}
use mathlib.Core.Path.{◌≡◌, refl, sym, ap, subst}
use mathlib.Core.List.{List, [], ◌∷◌, ◌++◌, append_assoc}
use mathlib.Core.Logic.{◌⊎◌, inl, inr}
use lib.ListN.{length, drop, replicate}
use Rattle.rules.specs.Utf8.{formed, code_of, Char, width, char_of}
use Rattle.rules.specs.Limits.{mask_byte}
use Rattle.rules.specs.Lexeme.{first}
use Rattle.rules.proofs.Reading.{flatten, widths, Read, flatten-append, widths_append}
use Rattle.rules.proofs.Proper.{Propers, Under, stop, dark, under_append, keep_char}

abbrev pub hash : Char
hash = record { code = mask_byte; bytes = mask_byte ∷ [] }

abbrev pub hashes : ℕ → List Char
hashes n = replicate n hash

pub data Masks : List Char → List Char → Type 0 where
  end : Masks [] []
  keep : (c : Char) {us vs : List Char} → Masks us vs → Masks (c ∷ us) (c ∷ vs)
  hide : (c : Char) (n : ℕ) {us vs : List Char} → width c ≡ suc n → Masks us vs → Masks (c ∷ us) (hash ∷ (hashes n ++ vs))

-- the first character is kept
pub data Kept : List Char → List Char → Type 0 where
  none : Kept [] []
  next : (c : Char) {us vs : List Char} → Masks us vs → Kept (c ∷ us) (c ∷ vs)

pub kept_masks : {us vs : List Char} → Kept us vs → Masks us vs
kept_masks none = end
kept_masks (next c m) = keep c m

pub kept_first : {us vs : List Char} → Kept us vs → first vs ≡ first us
kept_first none = refl
kept_first (next c m) = refl

pub masks_refl : (us : List Char) → Masks us us
masks_refl [] = end
masks_refl (c ∷ us) = keep c (masks_refl us)

pub kept_refl : (us : List Char) → Kept us us
kept_refl [] = none
kept_refl (c ∷ us) = next c (masks_refl us)

-- the first character after a part that both have
pub kept_first-append : (us : List Char) {vs vs' : List Char} → Kept vs vs' → first (us ++ vs') ≡ first (us ++ vs)
kept_first-append [] k = kept_first k
kept_first-append (c ∷ us) k = refl

pub masks_first : {us vs : List Char} → Masks us vs → (first vs ≡ first us) ⊎ (first vs ≡ mask_byte)
masks_first end = inl refl
masks_first (keep c m) = inl refl
masks_first (hide c n e m) = inr refl

-- the character after the first is as it was, or hidden
pub kept_second : {us vs : List Char} → Kept us vs → (first (drop 1 vs) ≡ first (drop 1 us)) ⊎ (first (drop 1 vs) ≡ mask_byte)
kept_second none = inl refl
kept_second (next c m) = masks_first m

pub masks_append : {us us' vs vs' : List Char} → Masks us us' → Masks vs vs' → Masks (us ++ vs) (us' ++ vs')
masks_append end m = m
masks_append (keep c k) m = keep c (masks_append k m)
masks_append {vs} {vs'} (hide c n {us = ps} {vs = qs} e k) m = subst (λ (l : List Char). Masks (c ∷ (ps ++ vs)) (hash ∷ l)) (sym (append_assoc (hashes n) qs vs')) (hide c n e (masks_append k m))

pub hashes_add : (m n : ℕ) → hashes m ++ hashes n ≡ hashes (m + n)
hashes_add m n = lib.ListN.replicate-append-replicate m n hash

-- all hidden
pub masks_all : (us : List Char) → Propers us → Masks us (hashes (widths us))
masks_all [] r = end
masks_all (c ∷ us) r = go (width c) refl r.0.wide (masks_all us r.1)
  where
    go : (n : ℕ) → width c ≡ n → 0 < n → Masks us (hashes (widths us)) → Masks (c ∷ us) (hashes (width c + widths us))
    go zero e h m = absurd (omega arith)
    go (suc n) e h m = rw (e, ← hashes_add) (hide c n e m)

pub flatten_hashes : (n : ℕ) → flatten (hashes n) ≡ replicate n mask_byte
flatten_hashes zero = refl
flatten_hashes (suc n) = ap {B = List ℕ} (λ l. mask_byte ∷ l) (flatten_hashes n)

pub widths_hashes : (n : ℕ) → widths (hashes n) ≡ n
widths_hashes zero = refl
widths_hashes (suc n) = rw (widths_hashes n) (omega arith)

pub widths_masks : {us vs : List Char} → Masks us vs → widths vs ≡ widths us
widths_masks end = refl
widths_masks (keep c m) = ap (λ (n : ℕ). width c + n) (widths_masks m)
widths_masks (hide c n {us} {vs} e m) = rw (widths_append, widths_hashes) (let h = widths_masks m in omega arith)

under_hide : (u : List ℕ) (n : ℕ) {s t : List ℕ} → length u ≡ n → Under s t → Under (u ++ s) (replicate n mask_byte ++ t)
under_hide [] zero e m = m
under_hide [] (suc n) e m = absurd (omega arith)
under_hide (b ∷ u) zero e m = absurd (omega arith)
under_hide (b ∷ u) (suc n) e m = dark b (under_hide u n (suc_inj e) m)

pub masks_under : {us vs : List Char} → Masks us vs → Under (flatten us) (flatten vs)
masks_under end = stop
masks_under (keep c m) = under_append c.bytes (masks_under m)
masks_under (hide c n {us} {vs} e m) = rw (flatten-append, flatten_hashes) (under_hide c.bytes (suc n) e (masks_under m))

read_hashes : (n : ℕ) (vs : List Char) → Read vs → Read (hashes n ++ vs)
unfolding char_of formed code_of
read_hashes zero vs r = r
read_hashes (suc n) vs r = (refl, omega arith, read_hashes n vs r)

-- What is hidden is read as `#`, and what is kept as it was.
pub read_masks : {us vs : List Char} → Read us → Masks us vs → Read vs
read_masks r end = tt
read_masks r (keep c m) = (keep_char c (masks_under m) r.1 r.0, r.1, read_masks r.2 m)
read_masks r (hide c n {us} {vs} e m) = read_hashes (suc n) vs (read_masks r.2 m)

pub kept_append : (us : List Char) {vs vs' : List Char} → Kept vs vs' → Kept (us ++ vs) (us ++ vs')
kept_append [] k = k
kept_append (c ∷ us) k = next c (masks_append (masks_refl us) (kept_masks k))
