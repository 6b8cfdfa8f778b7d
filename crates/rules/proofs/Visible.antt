-- Which bytes of a token are hidden depends on its kind, its length and the bytes that are not; the masked copy by bytes.
use Prim.Native.Nat.{ℕ, zero, suc, ◌+◌, ◌-◌, ◌≤◌, ◌<◌, min}
use native.Mathlib.Omega.{arith}
use native.Mathlib.Nat.{suc_inj}
use mathlib.Core.Path.{◌≡◌, refl, sym, ap, ap₂, ◌∙◌, subst}
use mathlib.Core.List.{List, [], ◌∷◌, ◌++◌}
use mathlib.Core.Bool.{Bool, true, false, not, cond, ◌&&◌, ◌||◌, and-false}
use lib.Dec.{T, eqb, leb, ltb, nleb→lt}
use lib.ListN.{length, get_or, take, drop, replicate, length-append, length-take, length-drop, length-replicate, get_or-replicate, get_or-append, get_or-eq_default}
use lib.Seq.{ext_get_or, get_or-take, get_or-drop, get_or-append-add, take_at, drop_at}
use Rattle.rules.specs.Utf8.{within}
use Rattle.rules.specs.Characters.{dollar, star}
use Rattle.rules.specs.Kinds.{Comment, StringToken, HereDoc, ErrorMultilineCommentIsNotClosed, ErrorSingleQuoteIsNotClosed, ErrorBackQuoteIsNotClosed}
use Rattle.rules.specs.Limits.{mask_byte}
use Rattle.rules.specs.Tokens.{Token}
use Rattle.rules.specs.Masking.{quote_width, before_dollar, tag_width, front, back, mask_token, mask_tokens, hidden_at, hidden_in}
use Rattle.rules.proofs.Tests.{eqb-true, le-true, lt-false, leb-true, cond_ind}

lt_of_leb : (m n : ℕ) → leb m n ≡ false → n < m
lt_of_leb m n e = nleb→lt m n (subst (λ (b : Bool). T (not b)) (sym e) tt)

lt_of_false : (i n : ℕ) → ltb i n ≡ false → n ≤ i
lt_of_false i n e = let h = lt_of_leb (suc i) n e in omega arith

-- two lists of bytes that agree below n
Same : ℕ → List ℕ → List ℕ → Type 0
Same n s t = (i : ℕ) → i < n → get_or t i 0 ≡ get_or s i 0

quote_least : (bs : List ℕ) → 1 ≤ quote_width bs
unfolding quote_width
quote_least bs = cond_ind (λ (n : ℕ). 1 ≤ n) (leb 0x80 (get_or bs 0 0)) 3 1 (λ e. omega arith) (λ e. omega arith)

quote_agree : (s t : List ℕ) → Same (quote_width s) s t → quote_width t ≡ quote_width s
unfolding quote_width Same
quote_agree s t h = ap (λ (n : ℕ). cond (leb 0x80 n) 3 1) (h 0 (quote_least s))

before_agree : (s t : List ℕ) → length t ≡ length s → ((i : ℕ) → i ≤ before_dollar s → get_or t i 0 ≡ get_or s i 0) → before_dollar t ≡ before_dollar s
unfolding before_dollar
before_agree [] [] l h = refl
before_agree [] (y ∷ t) l h = absurd (omega arith)
before_agree (x ∷ s) [] l h = absurd (omega arith)
before_agree (x ∷ s) (y ∷ t) l h = go (eqb x dollar) refl (λ k. before_agree s t (suc_inj l) k)
  where
    e : y ≡ x
    e = h 0 (omega arith)

    stop : (z : ℕ) (u : List ℕ) → eqb z dollar ≡ true → before_dollar (z ∷ u) ≡ 0
    stop z u p = rw (p, before_dollar)

    on : (z : ℕ) (u : List ℕ) → eqb z dollar ≡ false → before_dollar (z ∷ u) ≡ suc (before_dollar u)
    on z u p = rw (p, before_dollar)

    go : (b : Bool) → eqb x dollar ≡ b → (((i : ℕ) → i ≤ before_dollar s → get_or t i 0 ≡ get_or s i 0) → before_dollar t ≡ before_dollar s) → before_dollar (y ∷ t) ≡ before_dollar (x ∷ s)
    go true p ih = stop y t (ap (λ (n : ℕ). eqb n dollar) e ∙ p) ∙ sym (stop x s p)
    go false p ih =
        let z = on x s p in
        on y t (ap (λ (n : ℕ). eqb n dollar) e ∙ p) ∙ ap suc (ih (λ i k. h (suc i) (omega arith))) ∙ sym z

tag_agree : (s t : List ℕ) → length t ≡ length s → Same (tag_width s) s t → tag_width t ≡ tag_width s
unfolding tag_width Same
tag_agree [] [] l h = refl
tag_agree [] (y ∷ t) l h = absurd (omega arith)
tag_agree (x ∷ s) [] l h = absurd (omega arith)
tag_agree (x ∷ s) (y ∷ t) l h = ap (λ (n : ℕ). n + 2) (before_agree s t (suc_inj l) (λ i k. h (suc i) (omega arith)))

front_agree : (k : ℕ) (s t : List ℕ) → length t ≡ length s → Same (front k s) s t → front k t ≡ front k s
unfolding front Same
front_agree k s t l h = go (eqb k Comment || eqb k ErrorMultilineCommentIsNotClosed) (eqb k StringToken || within ErrorSingleQuoteIsNotClosed ErrorBackQuoteIsNotClosed k) (eqb k HereDoc) h
  where
    go : (x y z : Bool) → ((i : ℕ) → i < cond x 2 (cond y (quote_width s) (cond z (tag_width s) (length s))) → get_or t i 0 ≡ get_or s i 0)
        → cond x 2 (cond y (quote_width t) (cond z (tag_width t) (length t))) ≡ cond x 2 (cond y (quote_width s) (cond z (tag_width s) (length s)))
    go true y z h = refl
    go false true z h = quote_agree s t h
    go false false true h = tag_agree s t l h
    go false false false h = l

back_agree : (k : ℕ) (s t : List ℕ) → length t ≡ length s → Same (front k s) s t → back k t ≡ back k s
unfolding front back Same
back_agree k s t l h = go (eqb k Comment) (eqb k StringToken) (eqb k HereDoc) refl refl refl
  where
    at : (n : ℕ) → k ≡ n → ((i : ℕ) → i < front n s → get_or t i 0 ≡ get_or s i 0)
    at n e = subst (λ (m : ℕ). (i : ℕ) → i < front m s → get_or t i 0 ≡ get_or s i 0) e h

    go : (x y z : Bool) → eqb k Comment ≡ x → eqb k StringToken ≡ y → eqb k HereDoc ≡ z
        → cond (eqb k Comment) (cond (eqb (get_or t 1 0) star) 2 0) (cond (eqb k StringToken) (quote_width t) (cond (eqb k HereDoc) (tag_width t) 0)) ≡ cond (eqb k Comment) (cond (eqb (get_or s 1 0) star) 2 0) (cond (eqb k StringToken) (quote_width s) (cond (eqb k HereDoc) (tag_width s) 0))
    go true y z ex ey ez = rw ex (ap (λ (n : ℕ). cond (eqb n star) 2 0) (at Comment (eqb-true ex) 1 (omega arith)))
    go false true z ex ey ez = rw (ex, ey) (quote_agree s t (at StringToken (eqb-true ey)))
    go false false true ex ey ez = rw (ex, ey, ez) (tag_agree s t l (at HereDoc (eqb-true ez)))
    go false false false ex ey ez = rw (ex, ey, ez)

-- the masked token by its bytes
module _ (s : List ℕ) (f n : ℕ) (le : f ≤ n) (fits : n ≤ length s) where
  cut : List ℕ
  cut = take f s ++ (replicate (n - f) mask_byte ++ drop n s)

  length_low : length (take f s) ≡ f
  length_low = simp length-take (omega arith)

  cut-length : length cut ≡ length s
  unfolding cut
  cut-length = simp (length-append, length-take, length-replicate, length-drop) (omega arith)

  cut_low : (i : ℕ) → i < f → get_or cut i 0 ≡ get_or s i 0
  unfolding cut
  cut_low i h = get_or-append (take f s) (replicate (n - f) mask_byte ++ drop n s) 0 i (let l = length_low in omega arith) ∙ get_or-take f s i 0 h

  cut_up : (j : ℕ) → get_or cut (f + j) 0 ≡ get_or (replicate (n - f) mask_byte ++ drop n s) j 0
  unfolding cut
  cut_up j = ap (λ (m : ℕ). get_or cut (m + j) 0) (sym length_low) ∙ get_or-append-add (take f s) (replicate (n - f) mask_byte ++ drop n s) j 0

  cut_mid : (i : ℕ) → f ≤ i → i < n → get_or cut i 0 ≡ mask_byte
  cut_mid i h k =
      let e : f + (i - f) ≡ i = omega arith in
      let l = length-replicate {A = ℕ} (n - f) mask_byte in
      ap (λ (m : ℕ). get_or cut m 0) (sym e) ∙ cut_up (i - f) ∙ get_or-append (replicate (n - f) mask_byte) (drop n s) 0 (i - f) (omega arith) ∙ get_or-replicate (n - f) (i - f) mask_byte 0 (omega arith)

  cut_high : (i : ℕ) → n ≤ i → get_or cut i 0 ≡ get_or s i 0
  cut_high i h =
      let l = length-replicate {A = ℕ} (n - f) mask_byte in
      let e : i ≡ f + (length (replicate {A = ℕ} (n - f) mask_byte) + (i - n)) = omega arith in
      let g : n + (i - n) ≡ i = omega arith in
      ap (λ (m : ℕ). get_or cut m 0) e ∙ cut_up (length (replicate {A = ℕ} (n - f) mask_byte) + (i - n)) ∙ get_or-append-add (replicate (n - f) mask_byte) (drop n s) (i - n) 0 ∙ get_or-drop n s (i - n) 0 ∙ ap (λ (m : ℕ). get_or s m 0) g

-- a token's front and back do not meet
abbrev pub Fit : ℕ → List ℕ → Type 0
Fit k bs = front k bs + back k bs ≤ length bs

module _ (k : ℕ) (bs : List ℕ) (fit : Fit k bs) where
  pub mask_length : length (mask_token k bs) ≡ length bs
  unfolding mask_token cut
  mask_length = cut-length bs (front k bs) (length bs - back k bs) (omega arith) (omega arith)

  mask_low : (i : ℕ) → i < front k bs → get_or (mask_token k bs) i 0 ≡ get_or bs i 0
  unfolding mask_token cut
  mask_low = cut_low bs (front k bs) (length bs - back k bs) (omega arith) (omega arith)

  mask_front : front k (mask_token k bs) ≡ front k bs
  unfolding Same
  mask_front = front_agree k bs (mask_token k bs) mask_length mask_low

  mask_back : back k (mask_token k bs) ≡ back k bs
  unfolding Same
  mask_back = back_agree k bs (mask_token k bs) mask_length mask_low

  mask_hidden_at : (i : ℕ) → hidden_at k (mask_token k bs) i ≡ hidden_at k bs i
  unfolding hidden_at
  mask_hidden_at i = rw (mask_front, mask_back, mask_length)

  mask_at : (i : ℕ) → get_or (mask_token k bs) i 0 ≡ cond (hidden_at k bs i) mask_byte (get_or bs i 0)
  unfolding mask_token cut hidden_at
  mask_at i = go (leb (front k bs) i) (ltb i (length bs - back k bs)) refl refl
    where
      M : List ℕ
      M = mask_token k bs

      go : (x y : Bool) → leb (front k bs) i ≡ x → ltb i (length bs - back k bs) ≡ y → get_or M i 0 ≡ cond (leb (front k bs) i && ltb i (length bs - back k bs)) mask_byte (get_or bs i 0)
      go true true ex ey = rw (ex, ey) (cut_mid bs (front k bs) (length bs - back k bs) (omega arith) (omega arith) i (leb-true (front k bs) i ex) (leb-true (suc i) (length bs - back k bs) ey))
      go true false ex ey = rw (ex, ey) (cut_high bs (front k bs) (length bs - back k bs) (omega arith) (omega arith) i (lt_of_false i (length bs - back k bs) ey))
      go false y ex ey = rw ex (cut_low bs (front k bs) (length bs - back k bs) (omega arith) (omega arith) i (lt_of_leb (front k bs) i ex))

-- the same over a list of tokens that fit the text
abbrev pub Fits : List Token → List ℕ → Type 0
Fits [] s = s ≡ []
Fits (t ∷ ts) s = (t.end - t.start ≤ length s) × Fit t.kind (take (t.end - t.start) s) × Fits ts (drop (t.end - t.start) s)

-- texts that one list of tokens fits are of one length
pub fits_length : (ts : List Token) (s t : List ℕ) → Fits ts s → Fits ts t → length s ≡ length t
fits_length [] s t F G = ap length (F ∙ sym G)
fits_length (x ∷ ts) s t F G =
    let n : ℕ = x.end - x.start in
    omega (arith, F.0, G.0, simp length-drop at (fits_length ts (drop n s) (drop n t) F.2 G.2))

-- the clauses of `hidden_in`
hidden-nil : (s : List ℕ) (i : ℕ) → hidden_in [] s i ≡ false
unfolding hidden_in
hidden-nil s i = refl

module _ (t : Token) (ts : List Token) (s : List ℕ) where
  hidden_here : (i : ℕ) → i < t.end - t.start → hidden_in (t ∷ ts) s i ≡ hidden_at t.kind (take (t.end - t.start) s) i
  unfolding hidden_in
  hidden_here i h = let e : ltb i (t.end - t.start) ≡ true = le-true (suc i) (t.end - t.start) h in rw (e, hidden_in)

  hidden_later : (i : ℕ) → t.end - t.start ≤ i → hidden_in (t ∷ ts) s i ≡ hidden_in ts (drop (t.end - t.start) s) (i - (t.end - t.start))
  unfolding hidden_in
  hidden_later i h = let e : ltb i (t.end - t.start) ≡ false = lt-false (suc i) (t.end - t.start) (omega arith) in rw (e, hidden_in)

-- a text that begins with a token: the token's bytes in the copy, and what follows them
module _ (t : Token) (ts : List Token) (s : List ℕ) where
  abbrev size : ℕ
  size = t.end - t.start

  abbrev dark : List ℕ
  dark = mask_token t.kind (take size s)

  abbrev rest : List ℕ
  rest = mask_tokens ts (drop size s)

  dark_length : Fits (t ∷ ts) s → length dark ≡ size
  dark_length F = mask_length t.kind (take size s) F.1 ∙ (let h = F.0 in simp length-take (omega arith))

pub mask_tokens-length : (ts : List Token) (s : List ℕ) → Fits ts s → length (mask_tokens ts s) ≡ length s
unfolding mask_tokens
mask_tokens-length [] s F = sym (ap length F)
mask_tokens-length (t ∷ ts) s F =
    let a = dark_length t ts s F in
    let b = mask_tokens-length ts (drop (size t ts s) s) F.2 in
    let c = length-drop (size t ts s) s in
    let h = F.0 in
    rw length-append (omega arith)

-- byte i of the copy
pub mask_tokens-at : (ts : List Token) (s : List ℕ) → Fits ts s → (i : ℕ) → get_or (mask_tokens ts s) i 0 ≡ cond (hidden_in ts s i) mask_byte (get_or s i 0)
unfolding mask_tokens
mask_tokens-at [] s F i = ap (λ (l : List ℕ). get_or l i 0) (sym F) ∙ ap (λ (b : Bool). cond b mask_byte (get_or s i 0)) (sym (hidden-nil s i))
mask_tokens-at (t ∷ ts) s F i = go (ltb i m) refl (λ j. mask_tokens-at ts (drop m s) F.2 j)
  where
    m : ℕ
    m = size t ts s

    M : List ℕ
    M = dark t ts s

    R : List ℕ
    R = rest t ts s

    l_m : length M ≡ m
    l_m = dark_length t ts s F

    go : (b : Bool) → ltb i m ≡ b → ((j : ℕ) → get_or R j 0 ≡ cond (hidden_in ts (drop m s) j) mask_byte (get_or (drop m s) j 0)) → get_or (M ++ R) i 0 ≡ cond (hidden_in (t ∷ ts) s i) mask_byte (get_or s i 0)
    go true e ih =
        let h : i < m = leb-true (suc i) m e in
        get_or-append M R 0 i (let l = l_m in omega arith) ∙ mask_at t.kind (take m s) F.1 i ∙ ap₂ (λ (b : Bool) (x : ℕ). cond b mask_byte x) (sym (hidden_here t ts s i h)) (get_or-take m s i 0 h)
    go false e ih =
        let h : m ≤ i = lt_of_false i m e in
        let l = l_m in
        let p : length M + (i - m) ≡ i = omega arith in
        let q : m + (i - m) ≡ i = omega arith in
        ap (λ (j : ℕ). get_or (M ++ R) j 0) (sym p) ∙ get_or-append-add M R (i - m) 0 ∙ ih (i - m)
        ∙ ap₂ (λ (b : Bool) (x : ℕ). cond b mask_byte x) (sym (hidden_later t ts s i h)) (get_or-drop m s (i - m) 0 ∙ ap (λ (j : ℕ). get_or s j 0) q)

-- the copy hides what the text hides
pub hidden_in-masked : (ts : List Token) (s : List ℕ) → Fits ts s → (i : ℕ) → hidden_in ts (mask_tokens ts s) i ≡ hidden_in ts s i
unfolding mask_tokens
hidden_in-masked [] s F i = hidden-nil (mask_tokens [] s) i ∙ sym (hidden-nil s i)
hidden_in-masked (t ∷ ts) s F i = go (ltb i (size t ts s)) refl (λ j. hidden_in-masked ts (drop (size t ts s) s) F.2 j)
  where
    go : (b : Bool) → ltb i (size t ts s) ≡ b → ((j : ℕ) → hidden_in ts (rest t ts s) j ≡ hidden_in ts (drop (size t ts s) s) j) → hidden_in (t ∷ ts) (dark t ts s ++ rest t ts s) i ≡ hidden_in (t ∷ ts) s i
    go true e ih =
        let h : i < size t ts s = leb-true (suc i) (size t ts s) e in
        hidden_here t ts (dark t ts s ++ rest t ts s) i h ∙ ap (λ (l : List ℕ). hidden_at t.kind l i) (take_at (dark t ts s) (rest t ts s) (size t ts s) (dark_length t ts s F))
        ∙ mask_hidden_at t.kind (take (size t ts s) s) F.1 i ∙ sym (hidden_here t ts s i h)
    go false e ih =
        let h : size t ts s ≤ i = lt_of_false i (size t ts s) e in
        hidden_later t ts (dark t ts s ++ rest t ts s) i h ∙ ap (λ (l : List ℕ). hidden_in ts l (i - size t ts s)) (drop_at (dark t ts s) (rest t ts s) (size t ts s) (dark_length t ts s F))
        ∙ ih (i - size t ts s) ∙ sym (hidden_later t ts s i h)

-- texts that agree where nothing is hidden have one copy
take_same : (n : ℕ) (s t : List ℕ) → length t ≡ length s → ((i : ℕ) → i < n → get_or t i 0 ≡ get_or s i 0) → take n t ≡ take n s
take_same zero s t l h = refl
take_same (suc n) [] [] l h = refl
take_same (suc n) [] (y ∷ t) l h = absurd (omega arith)
take_same (suc n) (x ∷ s) [] l h = absurd (omega arith)
take_same (suc n) (x ∷ s) (y ∷ t) l h = ap₂ {C = List ℕ} (λ (a : ℕ) (r : List ℕ). a ∷ r) (h 0 (omega arith)) (take_same n s t (suc_inj l) (λ i k. h (suc i) (omega arith)))

drop_same : (n : ℕ) (s t : List ℕ) → length t ≡ length s → ((i : ℕ) → n ≤ i → get_or t i 0 ≡ get_or s i 0) → drop n t ≡ drop n s
drop_same zero s t l h = ext_get_or 0 t s l (λ i k. h i (omega arith))
drop_same (suc n) [] [] l h = refl
drop_same (suc n) [] (y ∷ t) l h = absurd (omega arith)
drop_same (suc n) (x ∷ s) [] l h = absurd (omega arith)
drop_same (suc n) (x ∷ s) (y ∷ t) l h = drop_same n s t (suc_inj l) (λ i k. h (suc i) (omega arith))

mask_agree : (k : ℕ) (s t : List ℕ) → length t ≡ length s → ((i : ℕ) → hidden_at k s i ≡ false → get_or t i 0 ≡ get_or s i 0) → mask_token k t ≡ mask_token k s
unfolding mask_token hidden_at Same
mask_agree k s t l h =
    let low : (i : ℕ) → i < front k s → get_or t i 0 ≡ get_or s i 0 = λ i p. h i (rw (lt-false (front k s) i p)) in
    let high : (i : ℕ) → length s - back k s ≤ i → get_or t i 0 ≡ get_or s i 0 = λ i p. h i (rw (lt-false (suc i) (length s - back k s) (omega arith)) (and-false (leb (front k s) i))) in
    let f : front k t ≡ front k s = front_agree k s t l low in
    let b : back k t ≡ back k s = back_agree k s t l low in
    rw (f, b, l) (ap₂ (λ (x y : List ℕ). x ++ (replicate (length s - back k s - front k s) mask_byte ++ y)) (take_same (front k s) s t l low) (drop_same (length s - back k s) s t l high))

take_out : (n : ℕ) (s : List ℕ) (i : ℕ) → n ≤ i → get_or (take n s) i 0 ≡ 0
take_out n s i h = get_or-eq_default (take n s) 0 (simp length-take (omega arith))

pub mask_tokens_agree : (ts : List Token) (s t : List ℕ) → length t ≡ length s → ((i : ℕ) → hidden_in ts s i ≡ false → get_or t i 0 ≡ get_or s i 0) → mask_tokens ts t ≡ mask_tokens ts s
unfolding mask_tokens
mask_tokens_agree [] s t l h = refl
mask_tokens_agree (x ∷ ts) s t l h =
    let m : ℕ = x.end - x.start in
    ap₂ (λ (a b : List ℕ). a ++ b)
    (mask_agree x.kind (take m s) (take m t) (simp length-take (ap (min m) l)) here)
    (mask_tokens_agree ts (drop m s) (drop m t) (simp length-drop (ap (λ (j : ℕ). j - m) l)) later)
  where
    here : (i : ℕ) → hidden_at x.kind (take (x.end - x.start) s) i ≡ false → get_or (take (x.end - x.start) t) i 0 ≡ get_or (take (x.end - x.start) s) i 0
    here i p = go (ltb i (x.end - x.start)) refl
      where
        go : (b : Bool) → ltb i (x.end - x.start) ≡ b → get_or (take (x.end - x.start) t) i 0 ≡ get_or (take (x.end - x.start) s) i 0
        go true e =
            let k : i < x.end - x.start = leb-true (suc i) (x.end - x.start) e in
            get_or-take (x.end - x.start) t i 0 k ∙ h i (hidden_here x ts s i k ∙ p) ∙ sym (get_or-take (x.end - x.start) s i 0 k)
        go false e =
            let k : x.end - x.start ≤ i = lt_of_false i (x.end - x.start) e in
            take_out (x.end - x.start) t i k ∙ sym (take_out (x.end - x.start) s i k)

    later : (i : ℕ) → hidden_in ts (drop (x.end - x.start) s) i ≡ false → get_or (drop (x.end - x.start) t) i 0 ≡ get_or (drop (x.end - x.start) s) i 0
    later i p =
        let e : x.end - x.start + i - (x.end - x.start) ≡ i = omega arith in
        get_or-drop (x.end - x.start) t i 0
        ∙ h (x.end - x.start + i) (hidden_later x ts s (x.end - x.start + i) (omega arith) ∙ ap (hidden_in ts (drop (x.end - x.start) s)) e ∙ p)
        ∙ sym (get_or-drop (x.end - x.start) s i 0)
