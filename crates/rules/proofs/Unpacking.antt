-- Reading undoes packing: of one token, wherever it stands, and of a list. And packing undoes the reading of bytes.
-- Assumes nothing.
use Prim.Native.Nat.{ℕ, zero, suc, ◌+◌, ◌-◌, ◌*◌, ◌/◌, ◌%◌, ◌^◌, ◌≤◌, ◌<◌}
use mathlib.Core.Path.{◌≡◌, refl, sym, ap, ap₂, ◌∙◌, subst}
use mathlib.Core.List.{List, [], ◌∷◌, ◌++◌}
use native.Mathlib.Nat.{add-zero}
use native.Mathlib.Omega.{arith}
use lib.ListN.{length, get_or, take, drop, length-drop, take-append-drop, drop_of_length-le}
use lib.Seq.{get_or-drop, drop-drop, take-add}
use Rattle.rules.specs.Limits.{token_bytes}
use Rattle.rules.specs.Tokens.{Token, token}
use Rattle.rules.specs.Listing.{bytes_of32, pack_token, pack, number_at, token_in, unpack}

-- what packing keeps: numbers of 32 bits
pub record Fits32 (t : Token) : Type 0 where
  pub kind : t.kind < 2 ^ 32
  pub start : t.start < 2 ^ 32
  pub end : t.end < 2 ^ 32

pub record AllFit32 (ts : List Token) : Type 0 where
  pub each : (n : ℕ) → n < length ts → Fits32 (get_or ts n (token 0 0 0))

pub fit_more : (t : Token) (ts : List Token) → Fits32 t → AllFit32 ts → AllFit32 (t ∷ ts)
fit_more t ts f r = record { each = each }
  where
    each : (n : ℕ) → n < suc (length ts) → Fits32 (get_or (t ∷ ts) n (token 0 0 0))
    each zero h = f
    each (suc n) h = r.each n (omega arith)

-- a number by its lowest byte and the rest
joins : (a b c d q₁ q₂ x : ℕ) → a + q₁ * 256 ≡ x → b + q₂ * 256 ≡ q₁ → c + d * 256 ≡ q₂ → a + b * 256 + c * 65536 + d * 16777216 ≡ x
joins a b c d q₁ q₂ x e f g = omega arith

splits : (x : ℕ) → x % 256 + x / 256 * 256 ≡ x
splits x = omega arith

pub four_back : (x : ℕ) → x < 2 ^ 32 → x % 256 + x / 256 % 256 * 256 + x / 65536 % 256 * 65536 + x / 16777216 % 256 * 16777216 ≡ x
four_back x h =
    let b : x / 65536 ≡ x / 256 / 256 = omega arith in
    let c : x / 16777216 ≡ x / 256 / 256 / 256 = omega arith in
    let d : x / 256 / 256 / 256 % 256 ≡ x / 256 / 256 / 256 = omega arith in
    rw (b, c, d) (joins (x % 256) (x / 256 % 256) (x / 256 / 256 % 256) (x / 256 / 256 / 256) (x / 256) (x / 256 / 256) x (splits x) (splits (x / 256)) (splits (x / 256 / 256)))

three_back : (t : Token) (rest : List ℕ) → Fits32 t → token_in (pack_token t ++ rest) 0 ≡ t
three_back t rest f i = record { kind = four_back t.kind f.kind i; start = four_back t.start f.start i; end = four_back t.end f.end i }

-- a place in a list, from there on
pub number_dropped : (list : List ℕ) (at k : ℕ) → number_at list (at + k) ≡ number_at (drop at list) k
number_dropped list at k =
    let e : (j : ℕ) → get_or list (at + k + j) 0 ≡ get_or (drop at list) (k + j) 0 = λ j. sym (get_or-drop at list (k + j) 0 ∙ ap (λ (n : ℕ). get_or list n 0) (omega arith)) in
    let z : get_or list (at + k) 0 ≡ get_or (drop at list) k 0 = sym (get_or-drop at list k 0) in
    rw (z, e 1, e 2, e 3)

pub token_dropped : (list : List ℕ) (at : ℕ) → token_in list at ≡ token_in (drop at list) 0
token_dropped list at i = record {
  kind = (ap (number_at list) (sym (add-zero at)) ∙ number_dropped list at 0) i;
  start = number_dropped list at 4 i;
  end = number_dropped list at 8 i;
}

pub token_back : (list : List ℕ) (at : ℕ) (t : Token) (rest : List ℕ) → drop at list ≡ pack_token t ++ rest → Fits32 t → token_in list at ≡ t
token_back list at t rest e f = token_dropped list at ∙ ap (λ (l : List ℕ). token_in l 0) e ∙ three_back t rest f

pub list_back : (ts : List Token) (rest : List ℕ) → AllFit32 ts → unpack (length ts) (pack ts ++ rest) ≡ ts
unfolding unpack pack
list_back [] rest f = refl
list_back (t ∷ ts) rest f = ap₂ ◌∷◌ (three_back t (pack ts ++ rest) (f.each 0 (omega arith))) (list_back ts rest (record { each = λ n h. f.each (suc n) (omega arith) }))

-- A list of bytes.
pub record AllBytes (l : List ℕ) : Type 0 where
  pub each : (k : ℕ) → get_or l k 0 < 256

pub bytes_drop : (n : ℕ) (l : List ℕ) → AllBytes l → AllBytes (drop n l)
bytes_drop n l b = record { each = λ k. subst (λ (x : ℕ). x < 256) (sym (get_or-drop n l k 0)) (b.each (n + k)) }

pub same_four : {a b c d a' b' c' d' : ℕ} → a ≡ a' → b ≡ b' → c ≡ c' → d ≡ d' → ◌≡◌ {A = List ℕ} (a ∷ b ∷ c ∷ d ∷ []) (a' ∷ b' ∷ c' ∷ d' ∷ [])
same_four p q r s i = p i ∷ q i ∷ r i ∷ s i ∷ []

-- four bytes from a place on
first_bytes : (l : List ℕ) → AllBytes l → 4 ≤ length l → bytes_of32 (number_at l 0) ≡ take 4 l
first_bytes [] b h = absurd (omega arith)
first_bytes (x ∷ []) b h = absurd (omega arith)
first_bytes (x ∷ y ∷ []) b h = absurd (omega arith)
first_bytes (x ∷ y ∷ z ∷ []) b h = absurd (omega arith)
first_bytes (x ∷ y ∷ z ∷ w ∷ l) b h =
    let p = b.each 0 in
    let q = b.each 1 in
    let r = b.each 2 in
    let s = b.each 3 in
    same_four (omega arith) (omega arith) (omega arith) (omega arith)

pub number_bytes : (l : List ℕ) (at : ℕ) → AllBytes l → at + 4 ≤ length l → bytes_of32 (number_at l at) ≡ take 4 (drop at l)
number_bytes l at b h =
    let n : number_at l at ≡ number_at (drop at l) 0 = ap (number_at l) (sym (add-zero at)) ∙ number_dropped l at 0 in
    ap (λ (x : ℕ). bytes_of32 x) n ∙ first_bytes (drop at l) (bytes_drop at l b) (omega (arith, length-drop at l))

pub pack-back : (n : ℕ) (l : List ℕ) → AllBytes l → length l ≡ n * token_bytes → pack (unpack n l) ≡ l
unfolding unpack pack
pack-back zero l b e = sym (drop_of_length-le l {i = 0} (omega arith))
pack-back (suc n) l b e =
    let four = number_bytes l 0 b (omega arith) in
    let eight = ap₂ ◌++◌ (number_bytes l 4 b (omega arith)) (number_bytes l 8 b (omega arith)) ∙ ap (λ (x : List ℕ). take 4 (drop 4 l) ++ take 4 x) (sym (drop-drop 4 4 l)) ∙ sym (take-add 4 4 (drop 4 l)) in
    ap₂ ◌++◌ (ap₂ ◌++◌ four eight ∙ sym (take-add 4 8 l)) (pack-back n (drop token_bytes l) (bytes_drop token_bytes l b) (omega (arith, length-drop token_bytes l)))
    ∙ take-append-drop token_bytes l

-- so many tokens from a place on, one by one
pub unpack_more : (list : List ℕ) (at n : ℕ) → 0 < n → unpack n (drop at list) ≡ token_in list at ∷ unpack (n - 1) (drop (at + token_bytes) list)
unfolding unpack
unpack_more list at zero h = absurd (omega arith)
unpack_more list at (suc n) h =
    let p : suc n - 1 ≡ n = omega arith in
    rw p (ap₂ {C = List Token} (λ (t : Token) (ts : List Token). t ∷ ts) (sym (token_dropped list at)) (ap (unpack n) (drop-drop token_bytes at list)))

pub unpack_none : (list : List ℕ) → unpack 0 list ≡ []
unfolding unpack
unpack_none list = refl

pub length-unpack : (n : ℕ) (list : List ℕ) → length (unpack n list) ≡ n
unfolding unpack
length-unpack zero list = refl
length-unpack (suc n) list = ap suc (length-unpack n (drop token_bytes list))
