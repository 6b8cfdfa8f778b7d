-- A reader that looks at ASCII alone may go byte by byte, since no byte of ASCII lies inside a character.
-- Assumes nothing.
use Prim.Native.Nat.{ℕ, zero, suc, ◌+◌, ◌≤◌, ◌<◌}
use native.Mathlib.Omega.{arith}
use native.Mathlib.Nat.{add-zero}
use mathlib.Core.Path.{◌≡◌, refl, sym, ap, ◌∙◌}
use mathlib.Core.List.{List, [], ◌∷◌}
use mathlib.Core.Bool.{Bool, true, false}
use lib.ListN.{length, get_or, drop, get_or-eq_default}
use lib.Seq.{get_or-drop}
use native.Mathlib.Decide.{dec_lt}
use borrow.Author.Tests.{ne_eqb}
use lib.Dec.{eqb}
use Rattle.rules.specs.Utf8.{Char, width, no_code, char_at, chars}
use Rattle.rules.specs.Lexeme.{first}
use Rattle.rules.proofs.Decoding.{Tail, chars-at, chars_ascii, chars-broken, chars_end, fits_at, inside-at, code_high}

-- F reads characters and adds up their bytes; it goes on over each character whose code is quiet, and the code of a broken character is.
module _ {X : Type 0} (add : ℕ → X → X) (add_none : (x : X) → add 0 x ≡ x) (add_more : (m n : ℕ) (x : X) → add m (add n x) ≡ add (m + n) x)
    (F : List Char → X) (quiet : ℕ → Bool) (broken : quiet no_code ≡ true)
    (goes : (c : Char) (cs : List Char) → quiet c.code ≡ true → F (c ∷ cs) ≡ add (width c) (F cs)) (s : List ℕ) where
  over_tails : (n k : ℕ) → k + n ≤ length s → ((j : ℕ) → k ≤ j → j < k + n → Tail (get_or s j 0)) → F (chars (drop k s)) ≡ add n (F (chars (drop (k + n) s)))
  over_tails zero k l t = rw add-zero (sym (add_none (F (chars (drop k s)))))
  over_tails (suc n) k l t =
      let b = t k (omega arith) (omega arith) in
      let e : (k + 1) + n ≡ k + suc n = omega arith in
      let f : 1 + n ≡ suc n = omega arith in
      ap F (chars-broken s k (omega arith) b.0 (omega arith))
      ∙ goes (record { code = no_code; bytes = get_or s k 0 ∷ [] }) (chars (drop (k + 1) s)) broken
      ∙ ap (add 1) (over_tails n (k + 1) (omega arith) (λ j p q. t j (omega arith) (omega arith)))
      ∙ add_more 1 n (F (chars (drop ((k + 1) + n) s)))
      ∙ ap (λ (m : ℕ). add m (F (chars (drop ((k + 1) + n) s)))) f
      ∙ ap (λ (m : ℕ). add (suc n) (F (chars (drop m s)))) e

  module _ (i : ℕ) (h : i < length s) where
    -- the rest of the character at i is gone over, one byte at a time
    pub over_rest : add (width (char_at (drop i s))) (F (chars (drop (i + width (char_at (drop i s))) s))) ≡ add 1 (F (chars (drop (i + 1) s)))
    over_rest = go (width (char_at (drop i s))) refl (fits_at s i h)
      where
        go : (w : ℕ) → width (char_at (drop i s)) ≡ w → (0 < w) × (i + w ≤ length s) → add w (F (chars (drop (i + w) s))) ≡ add 1 (F (chars (drop (i + 1) s)))
        go zero e f = absurd (omega arith)
        go (suc n) e f =
            let a : (i + 1) + n ≡ i + suc n = omega arith in
            let b : 1 + n ≡ suc n = omega arith in
            sym (ap (add 1) (over_tails n (i + 1) (omega arith) (λ j p q. inside-at s i j h (omega arith) (omega arith)))
            ∙ add_more 1 n (F (chars (drop ((i + 1) + n) s)))
            ∙ ap (λ (m : ℕ). add m (F (chars (drop ((i + 1) + n) s)))) b
            ∙ ap (λ (m : ℕ). add (suc n) (F (chars (drop m s)))) a)

    -- one byte of a quiet character
    pub byte_step : quiet (char_at (drop i s)).code ≡ true → F (chars (drop i s)) ≡ add 1 (F (chars (drop (i + 1) s)))
    byte_step q = ap F (chars-at s i h) ∙ goes (char_at (drop i s)) (chars (drop (i + width (char_at (drop i s))) s)) q ∙ over_rest

    -- one byte of a character that G takes whatever it is, and goes on as F
    pub taken_step : (G : List Char → X) → ((c : Char) (cs : List Char) → G (c ∷ cs) ≡ add (width c) (F cs)) → G (chars (drop i s)) ≡ add 1 (F (chars (drop (i + 1) s)))
    taken_step G g = ap G (chars-at s i h) ∙ g (char_at (drop i s)) (chars (drop (i + width (char_at (drop i s))) s)) ∙ over_rest

-- What tells only characters of ASCII apart is the same of the next character and of the next byte.
module _ {X : Type 0} (f : ℕ → X) (other : X) (high : (c : ℕ) → 0x80 ≤ c → f c ≡ other) (none : f 0 ≡ other) (s : List ℕ) (i : ℕ) where
  pub next_value : f (first (chars (drop i s))) ≡ f (get_or s i 0)
  next_value = go (dec_lt i (length s))
    where
      here : i < length s → Dec (get_or s i 0 < 0x80) → f (first (chars (drop i s))) ≡ f (get_or s i 0)
      here h (yes l) = ap (λ (cs : List Char). f (first cs)) (chars_ascii s i h l)
      here h (no l) =
          let e : get_or (drop i s) 0 0 ≡ get_or s i 0 = get_or-drop i s 0 0 ∙ ap (λ (n : ℕ). get_or s n 0) (add-zero i) in
          ap (λ (cs : List Char). f (first cs)) (chars-at s i h) ∙ high (char_at (drop i s)).code (code_high (drop i s) (omega arith)) ∙ sym (high (get_or s i 0) (omega arith))

      go : Dec (i < length s) → f (first (chars (drop i s))) ≡ f (get_or s i 0)
      go (yes h) = here h (dec_lt (get_or s i 0) 0x80)
      go (no h) = ap (λ (cs : List Char). f (first cs)) (chars_end s i (omega arith)) ∙ high no_code (omega arith) ∙ sym (ap f (get_or-eq_default s 0 (omega arith)) ∙ none)

-- The next character is one of some characters of ASCII exactly where the next byte is.
pub next_like : (p : ℕ → Bool) → ((c : ℕ) → 0x80 ≤ c → p c ≡ false) → p 0 ≡ false → (s : List ℕ) (i : ℕ) → p (first (chars (drop i s))) ≡ p (get_or s i 0)
next_like p small none s i = next_value p false small none s i

pub next_is : (x : ℕ) → 0 < x → x < 0x80 → (s : List ℕ) (i : ℕ) → eqb (first (chars (drop i s))) x ≡ eqb (get_or s i 0) x
next_is x p l s i = next_like (λ c. eqb c x) (λ c h. ne_eqb c x (λ e. omega arith)) (ne_eqb 0 x (λ e. omega arith)) s i

-- The same of the character at an index.
pub code_like : (p : ℕ → Bool) → ((c : ℕ) → 0x80 ≤ c → p c ≡ false) → p 0 ≡ false → (s : List ℕ) (i : ℕ) → i < length s → p (char_at (drop i s)).code ≡ p (get_or s i 0)
code_like p small none s i h = ap (λ (cs : List Char). p (first cs)) (sym (chars-at s i h)) ∙ next_like p small none s i

pub code_is : (x : ℕ) → 0 < x → x < 0x80 → (s : List ℕ) (i : ℕ) → i < length s → eqb (char_at (drop i s)).code x ≡ eqb (get_or s i 0) x
code_is x p l s i h = ap (λ (cs : List Char). eqb (first cs) x) (sym (chars-at s i h)) ∙ next_is x p l s i
