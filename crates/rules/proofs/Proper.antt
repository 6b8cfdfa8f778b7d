-- A character that is read from a text depends on its own bytes; what its code says of its bytes.
use Prim.Native.Nat.{ℕ, zero, suc, ◌+◌, ◌%◌, ◌≤◌, ◌<◌}
use native.Mathlib.Omega.{arith}
use mathlib.Core.Path.{◌≡◌, refl, sym, ap, ◌∙◌, subst}
use mathlib.Core.List.{List, [], ◌∷◌, ◌++◌}
use mathlib.Core.Logic.{◌⊎◌, inl, inr}
use lib.ListN.{length, get_or, take, length-take, length-append}
use lib.Seq.{take-append_seam}
use Rattle.rules.specs.Utf8.{formed, well_formed, begun, broken_length, code_of, Char, width, no_code, char_of, char_at}
use Rattle.rules.specs.Limits.{mask_byte}
use Rattle.rules.proofs.Reading.{flatten, Read, char_of_wide}
use Rattle.rules.proofs.Decoding.{Form, none, one, two, three, four, form, form_of, form_most, broken-within, low_of}
use Rattle.rules.proofs.Formed.{dark_second, dark_third, dark_fourth, begun_dark_second, begun_dark_third}

-- Byte by byte: as it was, or 35
pub data Under : List ℕ → List ℕ → Type 0 where
  stop : Under [] []
  same : (b : ℕ) {s t : List ℕ} → Under s t → Under (b ∷ s) (b ∷ t)
  dark : (b : ℕ) {s t : List ℕ} → Under s t → Under (b ∷ s) (mask_byte ∷ t)

pub under_refl : (s : List ℕ) → Under s s
under_refl [] = stop
under_refl (b ∷ s) = same b (under_refl s)

pub under_append : (u : List ℕ) {s t : List ℕ} → Under s t → Under (u ++ s) (u ++ t)
under_append [] m = m
under_append (b ∷ u) m = same b (under_append u m)

under_get : {s t : List ℕ} → Under s t → (i : ℕ) → (get_or t i 0 ≡ get_or s i 0) ⊎ (get_or t i 0 ≡ mask_byte)
under_get stop i = inl refl
under_get (same b m) zero = inl refl
under_get (same b m) (suc i) = under_get m i
under_get (dark b m) zero = inr refl
under_get (dark b m) (suc i) = under_get m i

dim_3 : (b0 b1 b2 b3 x : ℕ) → (x ≡ b3) ⊎ (x ≡ mask_byte) → formed b0 b1 b2 b3 < 4 → formed b0 b1 b2 x ≡ formed b0 b1 b2 b3
dim_3 b0 b1 b2 b3 x (inl e) h = rw e
dim_3 b0 b1 b2 b3 x (inr e) h = rw e (dark_fourth b0 b1 b2 b3 h)

dim_2 : (b0 b1 b2 b3 x : ℕ) → (x ≡ b2) ⊎ (x ≡ mask_byte) → formed b0 b1 b2 b3 < 3 → formed b0 b1 x b3 ≡ formed b0 b1 b2 b3
dim_2 b0 b1 b2 b3 x (inl e) h = rw e
dim_2 b0 b1 b2 b3 x (inr e) h = rw e (dark_third b0 b1 b2 b3 h)

dim_1 : (b0 b1 b2 b3 x : ℕ) → (x ≡ b1) ⊎ (x ≡ mask_byte) → formed b0 b1 b2 b3 < 2 → formed b0 x b2 b3 ≡ formed b0 b1 b2 b3
dim_1 b0 b1 b2 b3 x (inl e) h = rw e
dim_1 b0 b1 b2 b3 x (inr e) h = rw e (dark_second b0 b1 b2 b3 h)

pub formed_same : (u r r' : List ℕ) → Under r r' → 0 < length u → well_formed (u ++ r) ≤ length u → well_formed (u ++ r') ≡ well_formed (u ++ r)
formed_same [] r r' m h k = absurd (omega arith)
formed_same (x ∷ []) r r' m h k =
    let e3 = dim_3 x (get_or r 0 0) (get_or r 1 0) (get_or r 2 0) (get_or r' 2 0) (under_get m 2) (omega arith) in
    let e2 = dim_2 x (get_or r 0 0) (get_or r 1 0) (get_or r' 2 0) (get_or r' 1 0) (under_get m 1) (omega arith) in
    let e1 = dim_1 x (get_or r 0 0) (get_or r' 1 0) (get_or r' 2 0) (get_or r' 0 0) (under_get m 0) (omega arith) in
    e1 ∙ e2 ∙ e3
formed_same (x ∷ y ∷ []) r r' m h k =
    let e3 = dim_3 x y (get_or r 0 0) (get_or r 1 0) (get_or r' 1 0) (under_get m 1) (omega arith) in
    let e2 = dim_2 x y (get_or r 0 0) (get_or r' 1 0) (get_or r' 0 0) (under_get m 0) (omega arith) in
    e2 ∙ e3
formed_same (x ∷ y ∷ z ∷ []) r r' m h k = dim_3 x y z (get_or r 0 0) (get_or r' 0 0) (under_get m 0) (omega arith)
formed_same (x ∷ y ∷ z ∷ a ∷ u) r r' m h k = refl

-- the same of a broken character
fade_2 : (b0 b1 b2 x : ℕ) → (x ≡ b2) ⊎ (x ≡ mask_byte) → begun b0 b1 b2 < 3 → begun b0 b1 x ≡ begun b0 b1 b2
fade_2 b0 b1 b2 x (inl e) h = rw e
fade_2 b0 b1 b2 x (inr e) h = rw e (begun_dark_third b0 b1 b2 h)

fade_1 : (b0 b1 b2 x : ℕ) → (x ≡ b1) ⊎ (x ≡ mask_byte) → begun b0 b1 b2 < 2 → begun b0 x b2 ≡ begun b0 b1 b2
fade_1 b0 b1 b2 x (inl e) h = rw e
fade_1 b0 b1 b2 x (inr e) h = rw e (begun_dark_second b0 b1 b2 h)

begun_same : (u r r' : List ℕ) → Under r r' → 0 < length u → broken_length (u ++ r) ≤ length u → broken_length (u ++ r') ≡ broken_length (u ++ r)
begun_same [] r r' m h k = absurd (omega arith)
begun_same (x ∷ []) r r' m h k =
    let e2 = fade_2 x (get_or r 0 0) (get_or r 1 0) (get_or r' 1 0) (under_get m 1) (omega arith) in
    let e1 = fade_1 x (get_or r 0 0) (get_or r' 1 0) (get_or r' 0 0) (under_get m 0) (omega arith) in
    e1 ∙ e2
begun_same (x ∷ y ∷ []) r r' m h k = fade_2 x y (get_or r 0 0) (get_or r' 0 0) (under_get m 0) (omega arith)
begun_same (x ∷ y ∷ z ∷ u) r r' m h k = refl

get_or_in : (l : List ℕ) (i : ℕ) → 0 < get_or l i 0 → i < length l
get_or_in [] i h = absurd (omega arith)
get_or_in (x ∷ l) zero h = omega arith
get_or_in (x ∷ l) (suc i) h = let k = get_or_in l i h in omega arith

pub length-prefix : (n : ℕ) (u r : List ℕ) → take n (u ++ r) ≡ u → n ≤ length (u ++ r) → length u ≡ n
length-prefix n u r e h = sym (ap length e) ∙ simp length-take (omega arith)

pub size_is : (u r : List ℕ) (w : ℕ) → Form (get_or (u ++ r) 0 0) (get_or (u ++ r) 1 0) (get_or (u ++ r) 2 0) (get_or (u ++ r) 3 0) w → 0 < length u → (char_of w (u ++ r)).bytes ≡ u → w ≤ length u
unfolding char_of
size_is u r _ none h e = omega arith
size_is u r _ (one _) h e = omega arith
size_is u r _ (two _ _ b) h e = let k = length-prefix 2 u r e (get_or_in (u ++ r) 1 (omega (arith, b))) in omega arith
size_is u r _ (three _ _ _ c) h e = let k = length-prefix 3 u r e (get_or_in (u ++ r) 2 (omega (arith, c))) in omega arith
size_is u r _ (four _ _ _ _ d) h e = let k = length-prefix 4 u r e (get_or_in (u ++ r) 3 (omega (arith, d))) in omega arith

-- a broken character is the bytes of its length
broken_same : (u r r' : List ℕ) → Under r r' → 0 < length u → (char_of 0 (u ++ r)).bytes ≡ u → char_of 0 (u ++ r') ≡ char_of 0 (u ++ r)
unfolding char_of
broken_same u r r' m h e =
    let l = length-append u r in
    let n = length-prefix (broken_length (u ++ r)) u r e (broken-within (u ++ r) (omega arith)) in
    let b = begun_same u r r' m h (omega arith) in
    ap (λ (l : List ℕ). record { code = no_code; bytes = l }) (ap (λ (n : ℕ). take n (u ++ r')) (b ∙ sym n) ∙ take-append_seam u r' ∙ sym e)

-- the code and the bytes of a well-formed character are within its length
char_of_same : (u r r' : List ℕ) (w : ℕ) → w ≤ 4 → 0 < w → w ≤ length u → char_of w (u ++ r') ≡ char_of w (u ++ r)
unfolding char_of code_of
char_of_same [] r r' w m h k = absurd (omega arith)
char_of_same (x ∷ u) r r' zero m h k = absurd (omega arith)
char_of_same (x ∷ u) r r' (suc zero) m h k = refl
char_of_same (x ∷ []) r r' (suc (suc w)) m h k = absurd (omega arith)
char_of_same (x ∷ y ∷ u) r r' (suc (suc zero)) m h k = refl
char_of_same (x ∷ y ∷ []) r r' (suc (suc (suc w))) m h k = absurd (omega arith)
char_of_same (x ∷ y ∷ z ∷ u) r r' (suc (suc (suc zero))) m h k = refl
char_of_same (x ∷ y ∷ z ∷ []) r r' (suc (suc (suc (suc w)))) m h k = absurd (omega arith)
char_of_same (x ∷ y ∷ z ∷ a ∷ u) r r' (suc (suc (suc (suc zero)))) m h k = refl
char_of_same (x ∷ y ∷ z ∷ a ∷ u) r r' (suc (suc (suc (suc (suc w))))) m h k = absurd (omega arith)

local_char : (u r r' : List ℕ) → Under r r' → 0 < length u → (char_at (u ++ r)).bytes ≡ u → char_at (u ++ r') ≡ char_at (u ++ r)
local_char u r r' m h e =
    let k = size_is u r (well_formed (u ++ r)) (form_of (u ++ r)) h e in
    ap (λ (w : ℕ). char_of w (u ++ r')) (formed_same u r r' m h k) ∙ go (well_formed (u ++ r)) (form_most (form_of (u ++ r))) k e
  where
    go : (w : ℕ) → w ≤ 4 → w ≤ length u → (char_of w (u ++ r)).bytes ≡ u → char_of w (u ++ r') ≡ char_of w (u ++ r)
    go zero f k e = broken_same u r r' m h e
    go (suc w) f k e = char_of_same u r r' (suc w) f (omega arith) k

pub keep_char : (c : Char) {r r' : List ℕ} → Under r r' → 0 < width c → char_at (c.bytes ++ r) ≡ c → char_at (c.bytes ++ r') ≡ c
keep_char c {r} {r'} m h e = local_char c.bytes r r' m h (ap (λ (d : Char). d.bytes) e) ∙ e

-- A character of ASCII is its one byte; one of the middle codes has three, of which the first is no ASCII.
pub record Proper (c : Char) : Type 0 where
  pub wide : 0 < width c
  pub ascii : c.code < 128 → c.bytes ≡ c.code ∷ []
  pub three : 2048 ≤ c.code → c.code < 65536 → (width c ≡ 3) × (128 ≤ get_or c.bytes 0 0)

abbrev pub Propers : List Char → Type 0
Propers [] = Unit {0}
Propers (c ∷ cs) = Proper c × Propers cs

proper_of : (b : ℕ) (s : List ℕ) (w : ℕ) → Form b (get_or s 0 0) (get_or s 1 0) (get_or s 2 0) w → Proper (char_of w (b ∷ s))
unfolding char_of code_of
proper_of b s _ none = record { wide = char_of_wide 0 b s; ascii = λ h. absurd (omega arith); three = λ h k. absurd (omega arith) }
proper_of b s _ (one x) = record { wide = omega arith; ascii = λ h. refl; three = λ h k. absurd (omega arith) }
proper_of b s _ (two x y t) = record { wide = omega arith; ascii = λ h. absurd (omega arith); three = λ h k. absurd (omega arith) }
proper_of b s _ (three x y t u) = record {
  wide = omega arith;
  ascii = λ h. absurd (omega arith);
  three = λ h k. (let i = get_or_in s 1 (omega (arith, u)) in simp length-take (omega arith), omega (arith, t));
}
proper_of b s _ (four x y t u v) =
    let e : b % 8 + 0xF0 ≡ b = omega arith in
    let f = low_of t in
    record { wide = omega arith; ascii = λ h. absurd (omega arith); three = λ h k. absurd (omega arith) }

proper_char : (c : Char) (r : List ℕ) → 0 < width c → char_at (c.bytes ++ r) ≡ c → Proper c
proper_char c r h e = go c.bytes refl h
  where
    go : (u : List ℕ) → c.bytes ≡ u → 0 < length u → Proper c
    go [] p k = absurd (omega arith)
    go (b ∷ u) p k = subst Proper (ap (λ (l : List ℕ). char_at (l ++ r)) (sym p) ∙ e) (proper_of b (u ++ r) _ (form b (get_or (u ++ r) 0 0) (get_or (u ++ r) 1 0) (get_or (u ++ r) 2 0)))

pub propers : (cs : List Char) → Read cs → Propers cs
propers [] r = tt
propers (c ∷ cs) r = (proper_char c (flatten cs) r.1 r.0, propers cs r.2)

pub propers_left : (us vs : List Char) → Propers (us ++ vs) → Propers us
propers_left [] vs p = tt
propers_left (c ∷ us) vs p = (p.0, propers_left us vs p.1)

pub propers_right : (us vs : List Char) → Propers (us ++ vs) → Propers vs
propers_right [] vs p = p
propers_right (c ∷ us) vs p = propers_right us vs p.1

-- The bytes of a character of ASCII that is known
pub one_byte : {c : Char} → Proper c → (n : ℕ) → c.code ≡ n → n < 128 → c.bytes ≡ n ∷ []
one_byte {c} p n e h = p.ascii (rw e h) ∙ ap {B = List ℕ} (λ (b : ℕ). b ∷ []) e

pub one_wide : {c : Char} → Proper c → c.code < 128 → width c ≡ 1
one_wide p h = ap length (p.ascii h)
