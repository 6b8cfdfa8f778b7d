-- Here-documents, byte by byte.
-- Assumes nothing.
use Prim.Native.Nat.{ℕ, zero, suc, ◌+◌, ◌-◌, ◌*◌, ◌≤◌, ◌<◌}
use native.Mathlib.Omega.{arith}
use native.Mathlib.Numerals.{add-one}
use native.Mathlib.Nat.{add-zero}
use native.Mathlib.Decide.{dec_lt}
use mathlib.Core.Path.{◌≡◌, refl, sym, ap, ◌∙◌}
use mathlib.Core.List.{List, [], ◌∷◌, ◌++◌}
use mathlib.Core.Bool.{Bool, true, false, not, ◌&&◌}
use mathlib.Core.Option.{Option, some, none}
use lib.Dec.{eqb}
use lib.ListN.{length, get_or, take, drop, drop_of_length-le, length-drop, get_or-eq_default}
use lib.Seq.{drop-cons, take-suc, length-take-le, get_or-drop, get_or-take}
use borrow.Author.Tests.{eq-eqb, ne_eqb, not-true}
use Rattle.rules.specs.Utf8.{Char, width, char_at, chars}
use Rattle.rules.specs.Characters.{dollar}
use Rattle.rules.specs.Dollars.{tag_byte, tag_of, begins, find, delimiter, here_doc}
use Rattle.rules.proofs.Tests.{clash, eqb-true, apart, and_left, and_right, tag_small}
use Rattle.rules.proofs.Decoding.{within_text, chars-at, chars_ascii, chars_end}
use Rattle.rules.proofs.Bytes.{byte_step}
use Rattle.rules.proofs.Bytes.{code_like, code_is}
use Rattle.rules.proofs.Dollars.{tag_end, tag_not, tag_none, tag_more, find_here, find_none, find_later, here_lone, here_some}

-- a code that the text has exactly where it has the byte
abbrev Plain : ℕ → Type 0
Plain n = (0 < n) × (n < 0x80)

tag_plain : (n : ℕ) → tag_byte n ≡ true → Plain n
tag_plain zero e = clash e refl
tag_plain (suc n) e = (omega arith, tag_small (suc n) e)

cons-at : (s : List ℕ) (i : ℕ) → i < length s → drop i s ≡ get_or s i 0 ∷ drop (i + 1) s
cons-at s i h = drop-cons s i 0 h ∙ ap (λ (m : ℕ). get_or s i 0 ∷ drop m s) (sym (add-one i))

-- A text begins with codes of ASCII exactly where it has their bytes.
module _ (n : ℕ) (d : List ℕ) (p : Plain n) (s : List ℕ) (i : ℕ) where
  begins-at : begins (n ∷ d) (chars (drop i s)) ≡ (eqb (get_or s i 0) n && begins d (chars (drop (i + 1) s)))
  unfolding begins
  begins-at = go (dec_lt i (length s)) (eqb (get_or s i 0) n) refl
    where
      go : Dec (i < length s) → (x : Bool) → eqb (get_or s i 0) n ≡ x → begins (n ∷ d) (chars (drop i s)) ≡ (eqb (get_or s i 0) n && begins d (chars (drop (i + 1) s)))
      go (yes h) true e = let q : get_or s i 0 ≡ n = eqb-true e in rw (chars_ascii s i h (omega arith))
      go (yes h) false e = rw (chars-at s i h) (rw (code_is n p.0 p.1 s i h, e))
      go (no h) x y =
          let e : eqb (get_or s i 0) n ≡ false = ap (λ (b : ℕ). eqb b n) (get_or-eq_default s 0 (omega arith)) ∙ ne_eqb 0 n (λ e. omega arith) in
          rw (chars_end s i (omega arith)) (rw e)

-- d, of ASCII alone
module _ (d : List ℕ) (plain : (k : ℕ) → k < length d → Plain (get_or d k 0)) (s : List ℕ) where
  module _ (k i : ℕ) where
    next : k < length d → begins (drop k d) (chars (drop i s)) ≡ (eqb (get_or s i 0) (get_or d k 0) && begins (drop (k + 1) d) (chars (drop (i + 1) s)))
    next h = ap (λ (l : List ℕ). begins l (chars (drop i s))) (cons-at d k h) ∙ begins-at (get_or d k 0) (drop (k + 1) d) (plain k h) s i

    pub begins_next : k < length d → get_or s i 0 ≡ get_or d k 0 → begins (drop k d) (chars (drop i s)) ≡ begins (drop (k + 1) d) (chars (drop (i + 1) s))
    begins_next h e = next h ∙ rw (eq-eqb (get_or s i 0) (get_or d k 0) e)

    pub begins_differ : k < length d → (get_or s i 0 ≡ get_or d k 0 → ⊥) → begins (drop k d) (chars (drop i s)) ≡ false
    begins_differ h e = next h ∙ rw (ne_eqb (get_or s i 0) (get_or d k 0) e)

    pub begins_over : length d ≤ k → begins (drop k d) (chars (drop i s)) ≡ true
    unfolding begins
    begins_over h = rw (drop_of_length-le d h)

    -- the next byte lies within the text
    pub next_within : k < length d → get_or s i 0 ≡ get_or d k 0 → i < length s
    next_within h e = let p = plain k h in within_text s i (omega arith)

  fits_from : (m k i : ℕ) → k + m ≡ length d → i ≤ length s → begins (drop k d) (chars (drop i s)) ≡ true → i + m ≤ length s
  fits_from zero k i e l b = omega arith
  fits_from (suc m) k i e l b =
      let x = next k i (omega arith) in
      let same : get_or s i 0 ≡ get_or d k 0 = eqb-true (and_left (eqb (get_or s i 0) (get_or d k 0)) (begins (drop (k + 1) d) (chars (drop (i + 1) s))) (sym x ∙ b)) in
      let w = next_within k i (omega arith) same in
      let r = fits_from m (k + 1) (i + 1) (omega arith) (omega arith) (and_right (eqb (get_or s i 0) (get_or d k 0)) (begins (drop (k + 1) d) (chars (drop (i + 1) s))) (sym x ∙ b)) in
      omega arith

  pub begins_fits : (i : ℕ) → i ≤ length s → begins d (chars (drop i s)) ≡ true → i + length d ≤ length s
  begins_fits i l b = fits_from (length d) 0 i (omega arith) l b

-- so many bytes later
abbrev pub later : ℕ → Option ℕ → Option ℕ
later n none = none
later n (some m) = some (n + m)

later_none : (o : Option ℕ) → later 0 o ≡ o
later_none none = refl
later_none (some m) = ap {B = Option ℕ} (λ (m : ℕ). some m) (omega arith)

later_more : (m n : ℕ) (o : Option ℕ) → later m (later n o) ≡ later (m + n) o
later_more m n none = refl
later_more m n (some k) = ap {B = Option ℕ} (λ (m : ℕ). some m) (omega arith)

-- the clause of `find` where d is not here
find_next : (d : List ℕ) (c : Char) (cs : List Char) → begins d (c ∷ cs) ≡ false → find d (c ∷ cs) ≡ later (width c) (find d cs)
find_next d c cs e = go (find d cs) refl
  where
    go : (o : Option ℕ) → find d cs ≡ o → find d (c ∷ cs) ≡ later (width c) o
    go none f = find_none d c cs e f
    go (some n) f = find_later d c cs n e f

pub find_over : (d s : List ℕ) (i : ℕ) → length s ≤ i → find d (chars (drop i s)) ≡ none
unfolding find
find_over d s i h = rw (chars_end s i h)

-- d begins with a `$`
begins-first : (d : List ℕ) → get_or d 0 0 ≡ dollar → (c : Char) (cs : List Char) → eqb c.code dollar ≡ false → begins d (c ∷ cs) ≡ false
unfolding begins
begins-first [] f c cs e = absurd (omega arith)
begins-first (n ∷ d) f c cs e = rw (f, e)

module _ (d : List ℕ) (f : get_or d 0 0 ≡ dollar) (s : List ℕ) (i : ℕ) (h : i < length s) where
  pub find_at : begins d (chars (drop i s)) ≡ true → find d (chars (drop i s)) ≡ some 0
  find_at e = ap (find d) (chars-at s i h) ∙ find_here d _ _ (ap (begins d) (sym (chars-at s i h)) ∙ e)

  quiet : ℕ → Bool
  quiet c = not (eqb c dollar)

  same_code : eqb (char_at (drop i s)).code dollar ≡ eqb (get_or s i 0) dollar
  same_code = code_is dollar (omega arith) (omega arith) s i h

  -- one byte on, where d does not begin
  pub find_pass : begins d (chars (drop i s)) ≡ false → find d (chars (drop i s)) ≡ later 1 (find d (chars (drop (i + 1) s)))
  unfolding quiet
  find_pass e = go (eqb (get_or s i 0) dollar) refl
    where
      go : (x : Bool) → eqb (get_or s i 0) dollar ≡ x → find d (chars (drop i s)) ≡ later 1 (find d (chars (drop (i + 1) s)))
      go true x =
          let b : get_or s i 0 ≡ dollar = eqb-true x in
          let a = chars_ascii s i h (omega arith) in
          ap (find d) a ∙ find_next d _ (chars (drop (i + 1) s)) (ap (begins d) (sym a) ∙ e)
      go false x =
          byte_step later later_none later_more (find d) quiet refl (λ c cs q. find_next d c cs (begins-first d f c cs (not-true (eqb c.code dollar) q))) s i h (ap not (same_code ∙ x))

  pub no_dollar : (get_or s i 0 ≡ dollar → ⊥) → begins d (chars (drop i s)) ≡ false
  no_dollar n = ap (begins d) (chars-at s i h) ∙ begins-first d f _ _ (same_code ∙ ne_eqb (get_or s i 0) dollar n)

-- A run of tag bytes from i on, and the byte after it.
tag_over : (s : List ℕ) (i : ℕ) → tag_byte (get_or s i 0) ≡ false → (get_or s i 0 ≡ dollar → ⊥) → tag_of (chars (drop i s)) ≡ none
unfolding tag_of
tag_over s i t n = go (dec_lt i (length s))
  where
    large : (c : ℕ) → 0x80 ≤ c → tag_byte c ≡ false
    large c l = by (tag_byte c) refl
      where
        by : (x : Bool) → tag_byte c ≡ x → x ≡ false
        by true e = let h = tag_small c e in absurd (omega arith)
        by false e = refl

    go : Dec (i < length s) → tag_of (chars (drop i s)) ≡ none
    go (yes h) =
        ap tag_of (chars-at s i h)
        ∙ tag_not (char_at (drop i s)) (chars (drop (i + width (char_at (drop i s))) s)) (code_is dollar (omega arith) (omega arith) s i h ∙ ne_eqb (get_or s i 0) dollar n)
        (code_like tag_byte large refl s i h ∙ t)
    go (no h) = ap tag_of (chars_end s i (omega arith))

module _ (s : List ℕ) where
  tag_within : (i : ℕ) → tag_byte (get_or s i 0) ≡ true → i < length s
  tag_within i t = within_text s i (tag_plain (get_or s i 0) t).0

  -- what one tag byte adds
  one_tag : (i : ℕ) → tag_byte (get_or s i 0) ≡ true → chars (drop i s) ≡ record { code = get_or s i 0; bytes = get_or s i 0 ∷ [] } ∷ chars (drop (i + 1) s)
  one_tag i t = chars_ascii s i (tag_within i t) (tag_plain (get_or s i 0) t).1

  pub tags_none : (n i : ℕ) → ((k : ℕ) → k < i + n → i ≤ k → tag_byte (get_or s k 0) ≡ true) → tag_byte (get_or s (i + n) 0) ≡ false → (get_or s (i + n) 0 ≡ dollar → ⊥) → tag_of (chars (drop i s)) ≡ none
  tags_none zero i t o m = tag_over s i (rw add-zero at o) (rw add-zero at m)
  tags_none (suc n) i t o m =
      let b = t i (omega arith) (omega arith) in
      let e : (i + 1) + n ≡ i + suc n = omega arith in
      ap tag_of (one_tag i b)
      ∙ tag_none _ (chars (drop (i + 1) s)) (apart tag_byte (get_or s i 0) dollar b refl) b
      (tags_none n (i + 1) (λ k u l. t k (omega arith) (omega arith)) (rw e o) (rw e m))

  tags_some : (n i : ℕ) → ((k : ℕ) → k < i + n → i ≤ k → tag_byte (get_or s k 0) ≡ true) → get_or s (i + n) 0 ≡ dollar
      → (tag_of (chars (drop i s)) ≡ some (take n (drop i s))) × (drop (suc n) (chars (drop i s)) ≡ chars (drop (i + n + 1) s))
  tags_some zero i t m =
      let b : get_or s i 0 ≡ dollar = rw add-zero at m in
      let a = chars_ascii s i (within_text s i (omega arith)) (omega arith) in
      (ap tag_of a ∙ tag_end _ (chars (drop (i + 1) s)) (eq-eqb (get_or s i 0) dollar b), rw a (rw add-zero))
  tags_some (suc n) i t m =
      let b = t i (omega arith) (omega arith) in
      let e : (i + 1) + n ≡ i + suc n = omega arith in
      let f : (i + 1) + n + 1 ≡ i + suc n + 1 = omega arith in
      let r = tags_some n (i + 1) (λ k u l. t k (omega arith) (omega arith)) (rw e m) in (
        ap tag_of (one_tag i b)
            ∙ tag_more _ (chars (drop (i + 1) s)) (take n (drop (i + 1) s)) (apart tag_byte (get_or s i 0) dollar b refl) b r.0
            ∙ ap {B = Option (List ℕ)} (λ (l : List ℕ). some (take (suc n) l)) (sym (cons-at s i (tag_within i b))),
        rw (one_tag i b) (r.1 ∙ ap (λ (m : ℕ). chars (drop m s)) f),
      )

-- the bytes from `start` through e
abbrev pub opening : List ℕ → ℕ → ℕ → List ℕ
opening s start e = take (e + 1 - start) (drop start s)

-- The `$` at `start`, the tag up to e, and the `$` there.
module _ (s : List ℕ) (start e : ℕ) (u : start + 1 ≤ e) (a : get_or s start 0 ≡ dollar) (t : (k : ℕ) → k < e → start + 1 ≤ k → tag_byte (get_or s k 0) ≡ true) (z : get_or s e 0 ≡ dollar) where
  upto : e < length s
  upto = within_text s e (omega arith)

  pub opening_size : length (opening s start e) ≡ e + 1 - start
  opening_size = let l = length-drop start s in let w = upto in length-take-le (e + 1 - start) (drop start s) (omega arith)

  at : (k : ℕ) → k < e + 1 - start → get_or (opening s start e) k 0 ≡ get_or s (start + k) 0
  at k h = get_or-take (e + 1 - start) (drop start s) k 0 h ∙ get_or-drop start s k 0

  pub opening-first : get_or (opening s start e) 0 0 ≡ dollar
  opening-first = at 0 (omega arith) ∙ rw add-zero a

  plain_at : (j : ℕ) → start ≤ j → j ≤ e → Plain (get_or s j 0)
  plain_at j l h = go (dec_lt start j) (dec_lt j e)
    where
      sign : (k : ℕ) → k ≡ j → get_or s k 0 ≡ dollar → Plain (get_or s j 0)
      sign k q d = let f : get_or s j 0 ≡ dollar = ap (λ (k : ℕ). get_or s k 0) (sym q) ∙ d in (omega arith, omega arith)

      go : Dec (start < j) → Dec (j < e) → Plain (get_or s j 0)
      go (no x) y = sign start (omega arith) a
      go (yes x) (yes y) = tag_plain (get_or s j 0) (t j y (omega arith))
      go (yes x) (no y) = sign e (omega arith) z

  pub opening_plain : (k : ℕ) → k < length (opening s start e) → Plain (get_or (opening s start e) k 0)
  opening_plain k h = let l = opening_size in let n : k < e + 1 - start = omega arith in rw (at k n) (plain_at (start + k) (omega arith) (omega arith))

  -- the tag: n bytes, and a `$` after them
  abbrev n : ℕ
  n = e - (start + 1)

  abbrev tag : List ℕ
  tag = take n (drop (start + 1) s)

  last : get_or s (start + 1 + n) 0 ≡ dollar
  last = let q : start + 1 + n ≡ e = omega arith in rw q z

  left : n < length (drop (start + 1) s)
  left = let l = length-drop (start + 1) s in let w = upto in omega arith

  spelled : delimiter tag ≡ opening s start e
  spelled =
      let w = upto in
      let q : e + 1 - start ≡ suc (suc n) = omega arith in
      sym (ap (λ (k : ℕ). take k (drop start s)) q
      ∙ ap (take (suc (suc n))) (cons-at s start (omega arith))
      ∙ ap (λ (b : ℕ). b ∷ take (suc n) (drop (start + 1) s)) a
      ∙ ap {B = List ℕ} (λ (l : List ℕ). dollar ∷ l)
      (take-suc (drop (start + 1) s) n 0 left ∙ ap (λ (b : ℕ). tag ++ (b ∷ [])) (get_or-drop (start + 1) s n 0 ∙ last)))

  tagged : (tag_of (chars (drop (start + 1) s)) ≡ some tag) × (drop (suc n) (chars (drop (start + 1) s)) ≡ chars (drop (start + 1 + n + 1) s))
  tagged = tags_some s n (start + 1) (λ k h l. t k (omega arith) l) last

  sought : find (delimiter tag) (drop (suc (length tag)) (chars (drop (start + 1) s))) ≡ find (opening s start e) (chars (drop (e + 1) s))
  sought =
      let x = left in
      let w = length-take-le n (drop (start + 1) s) (omega arith) in
      let q : start + 1 + n + 1 ≡ e + 1 = omega arith in
      ap (λ (l : List ℕ). find l (drop (suc (length tag)) (chars (drop (start + 1) s)))) spelled
      ∙ ap (λ (k : ℕ). find (opening s start e) (drop (suc k) (chars (drop (start + 1) s)))) w
      ∙ ap (find (opening s start e)) tagged.1
      ∙ ap (λ (k : ℕ). find (opening s start e) (chars (drop k s))) q

  pub here_by : (o : Option ℕ) → find (opening s start e) (chars (drop (e + 1) s)) ≡ o → here_doc (chars (drop (start + 1) s)) ≡ later (2 * (e + 1 - start)) o
  here_by none f = here_lone (chars (drop (start + 1) s)) tag tagged.0 (sought ∙ f)
  here_by (some m) f =
      let l = ap length spelled ∙ opening_size in
      here_some (chars (drop (start + 1) s)) tag m tagged.0 (sought ∙ f) ∙ ap {B = Option ℕ} (λ (k : ℕ). some k) (omega arith)
