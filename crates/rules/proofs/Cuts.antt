-- #105: where decoding cuts a text. Two decodings that start at an edge cut it alike from there on, and every byte that can begin a character
-- begins one, whole or broken, in whatever decoding comes to it. Assumes nothing.
use Prim.Native.Nat.{ℕ, zero, suc, ◌+◌, ◌≤◌, ◌<◌}
use native.Mathlib.Omega.{arith}
use native.Mathlib.Decide.{dec_lt, dec_le}
use mathlib.Core.Path.{◌≡◌, refl, ap, ◌∙◌, subst}
use mathlib.Core.List.{List, [], ◌∷◌, ◌++◌}
use mathlib.Core.Logic.{◌↔◌, inl}
use lib.ListN.{length, get_or, drop}
use Rattle.rules.specs.Utf8.{Begins, Char, width, char_at, chars}
use Rattle.rules.proofs.Decoding.{chars-at, fits_at, inside-at}
use Rattle.rules.proofs.Reading.{widths}
use Rattle.rules.proofs.Broken.{cannot_begin}

-- Decoding from one offset comes to another: it cuts the text there.
pub data Cuts (s : List ℕ) : ℕ → ℕ → Type 0 where
  here : (i : ℕ) → Cuts s i i
  next : (i j : ℕ) → i < length s → Cuts s (i + width (char_at (drop i s))) j → Cuts s i j

-- What is read between the two are the text's characters.
pub cuts-chars : {s : List ℕ} {i j : ℕ} → Cuts s i j → (us : List Char) × (chars (drop i s) ≡ us ++ chars (drop j s)) × (i + widths us ≡ j)
cuts-chars (here i) = ([], refl, omega arith)
cuts-chars {s} (next i j h c) =
    let (us, e, n) = cuts-chars c in
    (char_at (drop i s) ∷ us, chars-at s i h ∙ ap (λ (cs : List Char). char_at (drop i s) ∷ cs) e, omega arith)

-- It goes on, never back.
cuts_on : {s : List ℕ} {i j : ℕ} → Cuts s i j → i ≤ j
cuts_on (here i) = omega arith
cuts_on {s} (next i j h c) = omega (arith, cuts_on c)

cuts_join : {s : List ℕ} {i j k : ℕ} → Cuts s i j → Cuts s j k → Cuts s i k
cuts_join (here i) d = d
cuts_join {k = k} (next i j h c) d = next i k h (cuts_join c d)

-- Of two cuts of one decoding, it comes from the first to the second.
cuts-between : {s : List ℕ} {p i j : ℕ} → Cuts s p i → Cuts s p j → i ≤ j → Cuts s i j
cuts-between (here p) d l = d
cuts-between {s} (next p i h c) (here _) l = absurd (omega (arith, cuts_on c, (fits_at s p h).0))
cuts-between (next p i h c) (next _ j h' d) l = cuts-between c d l

-- "two decodings of one text cut it at the same edges wherever they start at an edge"
pub same_cuts : {s : List ℕ} {p i j : ℕ} → Cuts s p i → Cuts s p j → (k : ℕ) → i ≤ k → j ≤ k → Cuts s i k ↔ Cuts s j k
same_cuts {s} {p} {i} {j} c d k l m = go (dec_le i j)
  where
    go : Dec (i ≤ j) → Cuts s i k ↔ Cuts s j k
    go (yes o) = (λ e. cuts-between (cuts-between c d o) e m, λ e. cuts_join (cuts-between c d o) e)
    go (no o) = let b = cuts-between d c (omega arith) in (λ e. cuts_join b e, λ e. cuts-between b e l)

-- "every byte that can begin a character begins a unit": no decoding from before it goes past it.
pub begins-cut : (s : List ℕ) (i k : ℕ) → i ≤ k → k < length s → Begins (get_or s k 0 ∷ []) → Cuts s i k
begins-cut s i k l h b = from k i l (omega arith)
  where
    from : (fuel i : ℕ) → i ≤ k → k ≤ i + fuel → Cuts s i k
    from zero i l f = let e : i ≡ k = omega arith in subst (Cuts s i) e (here i)
    from (suc fuel) i l f = go (dec_lt i k) (dec_lt k (i + width (char_at (drop i s)))) (λ j m g. from fuel j m g)
      where
        go : Dec (i < k) → Dec (k < i + width (char_at (drop i s))) → ((j : ℕ) → j ≤ k → k ≤ j + fuel → Cuts s j k) → Cuts s i k
        go (no x) y ih = let e : i ≡ k = omega arith in subst (Cuts s i) e (here i)
        go (yes x) (yes y) ih = let t = inside-at s i k (omega arith) x y in absurd (cannot_begin (get_or s k 0) [] t.0 (inl (omega (arith, t.1))) b)
        go (yes x) (no y) ih = let p = fits_at s i (omega arith) in next i k (omega arith) (ih (i + width (char_at (drop i s))) (omega arith) (omega arith))
