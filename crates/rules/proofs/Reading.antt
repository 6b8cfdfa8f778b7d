-- A text is the bytes of its characters: `chars` and `flatten` undo each other.
use Prim.Native.Nat.{ℕ, zero, suc, ◌+◌, ◌-◌, ◌<◌}
use native.Mathlib.Omega.{arith}
use native.Mathlib.Numerals.{sub-one}
use mathlib.Core.Path.{◌≡◌, refl, sym, ap, ◌∙◌}
use mathlib.Core.List.{List, [], ◌∷◌, ◌++◌, append_assoc}
use lib.ListN.{length, take, drop, length-append}
use Rattle.rules.specs.Utf8.{broken_length, Char, width, char_of, char_at, chars_after, chars}
use Rattle.rules.proofs.Decoding.{broken_range}

abbrev pub flatten : List Char → List ℕ
flatten [] = []
flatten (c ∷ cs) = c.bytes ++ flatten cs

abbrev pub widths : List Char → ℕ
widths [] = 0
widths (c ∷ cs) = width c + widths cs

pub length-flatten : (cs : List Char) → length (flatten cs) ≡ widths cs
length-flatten [] = refl
length-flatten (c ∷ cs) = rw (length-append, length-flatten cs)

pub flatten-append : (us vs : List Char) → flatten (us ++ vs) ≡ flatten us ++ flatten vs
flatten-append [] vs = refl
flatten-append (a ∷ us) vs = rw (flatten-append us vs, append_assoc)

pub widths_append : (us vs : List Char) → widths (us ++ vs) ≡ widths us + widths vs
widths_append [] vs = omega arith
widths_append (a ∷ us) vs = rw (widths_append us vs) (omega arith)

-- A list of characters as it is read from their bytes.
abbrev pub Read : List Char → Type 0
Read [] = Unit {0}
Read (c ∷ cs) = (char_at (c.bytes ++ flatten cs) ≡ c) × (0 < width c) × Read cs

-- The bytes of a character that is read
pub char_of_bytes : (n b : ℕ) (s : List ℕ) → (w : ℕ) × ((char_of n (b ∷ s)).bytes ≡ b ∷ take w s)
unfolding char_of
char_of_bytes zero b s = go (broken_length (b ∷ s)) refl (broken_range (b ∷ s)).0
  where
    go : (n : ℕ) → broken_length (b ∷ s) ≡ n → 0 < n → (w : ℕ) × (take (broken_length (b ∷ s)) (b ∷ s) ≡ b ∷ take w s)
    go zero e h = absurd (omega arith)
    go (suc w) e h = (w, ap (λ (n : ℕ). take n (b ∷ s)) e)
char_of_bytes (suc w) b s = (w, refl)

pub char_at_rest : (b : ℕ) (s : List ℕ) → (char_at (b ∷ s)).bytes ++ drop (width (char_at (b ∷ s)) - 1) s ≡ b ∷ s
char_at_rest b s = go (char_at (b ∷ s)).bytes (char_of_bytes _ b s).0 (char_of_bytes _ b s).1
  where
    seam : (w : ℕ) (l : List ℕ) → take w l ++ drop (length (take w l)) l ≡ l
    seam zero l = refl
    seam (suc w) [] = refl
    seam (suc w) (x ∷ l) = ap {B = List ℕ} (λ r. x ∷ r) (seam w l)

    go : (u : List ℕ) (w : ℕ) → u ≡ b ∷ take w s → u ++ drop (length u - 1) s ≡ b ∷ s
    go u w e = rw (e, sub-one) (ap {B = List ℕ} (λ r. b ∷ r) (seam w s))

pub char_of_wide : (n b : ℕ) (s : List ℕ) → 0 < width (char_of n (b ∷ s))
char_of_wide n b s = rw (char_of_bytes n b s).1 (omega arith)

pub flatten-chars_after : (k : ℕ) (s : List ℕ) → flatten (chars_after k s) ≡ drop k s
unfolding chars_after
flatten-chars_after zero [] = refl
flatten-chars_after (suc k) [] = refl
flatten-chars_after zero (b ∷ s) = rw (flatten-chars_after (width (char_at (b ∷ s)) - 1) s) (char_at_rest b s)
flatten-chars_after (suc k) (b ∷ s) = flatten-chars_after k s

pub flatten-chars : (s : List ℕ) → flatten (chars s) ≡ s
flatten-chars s = flatten-chars_after 0 s

pub read-chars_after : (k : ℕ) (s : List ℕ) → Read (chars_after k s)
unfolding chars_after
read-chars_after zero [] = tt
read-chars_after (suc k) [] = tt
read-chars_after zero (b ∷ s) =
    let e : (char_at (b ∷ s)).bytes ++ flatten (chars_after (width (char_at (b ∷ s)) - 1) s) ≡ b ∷ s = rw (flatten-chars_after (width (char_at (b ∷ s)) - 1) s) (char_at_rest b s) in
    (ap char_at e, char_of_wide _ b s, read-chars_after (width (char_at (b ∷ s)) - 1) s)
read-chars_after (suc k) (b ∷ s) = read-chars_after k s

pub read-chars : (s : List ℕ) → Read (chars s)
read-chars s = read-chars_after 0 s

chars_after_seam : (u r : List ℕ) → chars_after (length u) (u ++ r) ≡ chars r
unfolding chars_after
chars_after_seam [] r = refl
chars_after_seam (b ∷ u) r = chars_after_seam u r

-- What is read from the bytes of such a list is the list.
pub chars-flatten : (cs : List Char) → Read cs → chars (flatten cs) ≡ cs
unfolding chars_after
chars-flatten [] r = refl
chars-flatten (c ∷ cs) r = go c.bytes refl r.1 (chars-flatten cs r.2)
  where
    go : (u : List ℕ) → c.bytes ≡ u → 0 < length u → chars (flatten cs) ≡ cs → chars (c.bytes ++ flatten cs) ≡ c ∷ cs
    go [] e h ih = absurd (omega arith)
    go (b ∷ u) e h ih =
        let here : char_at (b ∷ (u ++ flatten cs)) ≡ c = sym (ap (λ (l : List ℕ). char_at (l ++ flatten cs)) e) ∙ r.0 in
        ap (λ (l : List ℕ). chars (l ++ flatten cs)) e ∙ (ap {B = List Char} (λ d. d ∷ chars_after (width d - 1) (u ++ flatten cs)) here ∙ ap {B = List Char} (λ r. c ∷ r) (ap (λ (n : ℕ). chars_after (n - 1) (u ++ flatten cs)) (ap length e) ∙ rw sub-one (chars_after_seam u (flatten cs)) ∙ ih))

pub read-append : (us vs : List Char) → Read (us ++ vs) → Read vs
read-append [] vs r = r
read-append (a ∷ us) vs r = read-append us vs r.2
