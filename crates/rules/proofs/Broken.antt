-- #105: a broken character is "the longest run of bytes there that begins some well-formed character, or one byte if there is none"; it has a code
-- of its own, so that a text without one is valid; and it is one ErrorToken. Assumes nothing.
use Prim.Native.Nat.{ℕ, zero, suc, ◌+◌, ◌%◌, ◌≤◌, ◌<◌}
use native.Mathlib.Omega.{arith}
use native.Mathlib.Decide.{dec_lt}
use mathlib.Core.Path.{◌≡◌, refl, sym, ap, ◌∙◌, subst}
use mathlib.Core.List.{List, [], ◌∷◌, ◌++◌}
use mathlib.Core.Bool.{Bool, true, false, cond, ◌&&◌, ◌||◌}
use mathlib.Core.Logic.{◌↔◌, ◌⊎◌, inl, inr}
use lib.Dec.{eqb}
use lib.ListN.{length, get_or, take, get_or-append}
use lib.Seq.{length-take-le}
use borrow.Author.Tests.{eqb-true, eqb-false}
use Rattle.rules.specs.Utf8.{within, utf8_tail, utf8_three, utf8_four, formed, well_formed, Begins, begun, broken_length, code_of, Char, width, no_code, char_of, char_at, chars, valid}
use Rattle.rules.specs.Classes.{white_space}
use Rattle.rules.specs.Kinds.{ErrorToken}
use Rattle.rules.specs.Lexeme.{is}
use Rattle.rules.specs.Tokens.{lexeme}
use Rattle.rules.proofs.Tests.{clash, and_both}
use Rattle.rules.proofs.Tables.{white_space_none}
use Rattle.rules.proofs.Decoding.{Form, none, one, two, three, four, form, form_of, form_most, low_of, three-first, three_surrogate, three_other, three_below, three_above, four_first, four_last, four_other, four_above, four_below, formed-one, formed_low, formed-two, formed-three, formed_four, broken_range, broken-within, width-broken}
use Rattle.rules.proofs.Formed.{formed_own}
use Rattle.rules.proofs.Reading.{flatten, Read, read-chars}
use Rattle.rules.proofs.Validity.{Formed, valid-chars}
use Rattle.rules.proofs.RuleBytes.{wide_other, single_wide}

-- Where one tail makes a character, any does, and so 80.
last : (x y : Bool) → (x && y) ≡ true → (x && true) ≡ true
last x y e = ap (λ (x : Bool). x && true) (and_both x y e).0

module _ (a b : ℕ) where
  any_three : (c : ℕ) → utf8_three a b c ≡ true → utf8_three a b 0x80 ≡ true
  any_three c h = go (dec_lt a 0xE0) (dec_lt 0xEF a) (eqb a 0xE0) refl (eqb a 0xED) refl
    where
      by : (x : Bool) → ((c : ℕ) → utf8_three a b c ≡ (x && utf8_tail c)) → utf8_three a b 0x80 ≡ true
      by x e = e 0x80 ∙ last x (utf8_tail c) (sym (e c) ∙ h)

      go : Dec (a < 0xE0) → Dec (0xEF < a) → (t : Bool) → eqb a 0xE0 ≡ t → (u : Bool) → eqb a 0xED ≡ u → utf8_three a b 0x80 ≡ true
      go (yes l) m t p u q = clash h (three_below a b c l)
      go (no l) (yes m) t p u q = clash h (three_above a b c m)
      go (no l) (no m) true p u q = by (within 0xA0 0xBF b) (λ c. three-first a b c (eqb-true a 0xE0 p))
      go (no l) (no m) false p true q = by (within 0x80 0x9F b) (λ c. three_surrogate a b c (eqb-true a 0xED q))
      go (no l) (no m) false p false q = by (utf8_tail b) (λ c. three_other a b c (omega (arith, eqb-false a 0xE0 p)) (omega arith) (eqb-false a 0xED q))

  any_four : (c d : ℕ) → utf8_four a b c d ≡ true → (utf8_four a b c 0x80 ≡ true) × (utf8_four a b 0x80 0x80 ≡ true)
  any_four c d h = go (dec_lt a 0xF0) (dec_lt 0xF0 a) (dec_lt a 0xF4) (dec_lt 0xF4 a)
    where
      by : (x : Bool) → ((c d : ℕ) → utf8_four a b c d ≡ (x && utf8_tail c && utf8_tail d)) → (utf8_four a b c 0x80 ≡ true) × (utf8_four a b 0x80 0x80 ≡ true)
      by x e =
          let t = sym (e c d) ∙ h in
          (e c 0x80 ∙ last (x && utf8_tail c) (utf8_tail d) t, e 0x80 0x80 ∙ ap (λ (x : Bool). x && true) (last x (utf8_tail c) (and_both (x && utf8_tail c) (utf8_tail d) t).0))

      go : Dec (a < 0xF0) → Dec (0xF0 < a) → Dec (a < 0xF4) → Dec (0xF4 < a) → (utf8_four a b c 0x80 ≡ true) × (utf8_four a b 0x80 0x80 ≡ true)
      go (yes l) m x y = clash h (four_below a b c d l)
      go (no l) (no m) x y = by (within 0x90 0xBF b) (λ c d. four_first a b c d (omega arith))
      go (no l) (yes m) (yes x) y = by (utf8_tail b) (λ c d. four_other a b c d m x)
      go (no l) (yes m) (no x) (yes y) = clash h (four_above a b c d y)
      go (no l) (yes m) (no x) (no y) = by (within 0x80 0x8F b) (λ c d. four_last a b c d (omega arith))

-- The form of three bytes, and of four, by its length.
chosen : (t : Bool) (n w : ℕ) → cond t n 0 ≡ w → 0 < w → t ≡ true
chosen true n w e h = refl
chosen false n w e h = absurd (omega arith)

module _ (a b c d : ℕ) where
  first_of : {w : ℕ} → Form a b c d w → (w ≡ 3 → (0xE0 ≤ a) × (a < 0xF0)) × (w ≡ 4 → 0xF0 ≤ a)
  first_of none = (λ q. absurd (omega arith), λ q. absurd (omega arith))
  first_of (one x) = (λ q. absurd (omega arith), λ q. absurd (omega arith))
  first_of (two x y t) = (λ q. absurd (omega arith), λ q. absurd (omega arith))
  first_of (three x y t u) = (λ q. (omega arith, omega arith), λ q. absurd (omega arith))
  first_of (four x y t u v) = (λ q. absurd (omega arith), λ q. omega arith)

  three-formed : formed a b c d ≡ 3 → utf8_three a b c ≡ true
  three-formed e = let r = (first_of (form a b c d)).0 e in chosen (utf8_three a b c) 3 3 (sym (formed-three a b c d r.0 r.1) ∙ e) (omega arith)

  four_formed : formed a b c d ≡ 4 → utf8_four a b c d ≡ true
  four_formed e = chosen (utf8_four a b c d) 4 4 (sym (formed_four a b c d ((first_of (form a b c d)).1 e)) ∙ e) (omega arith)

-- What goes on to a character has at least that run.
or_any : (x : Bool) → (x || true) ≡ true
or_any true = refl
or_any false = refl

module _ (a b c : ℕ) where
  two-begun : (x y : ℕ) → 2 < formed a b x y → 2 ≤ begun a b c
  unfolding begun
  two-begun x y h = go (dec_lt 3 (formed a b x y))
    where
      least : (p q : Bool) → q ≡ true → 2 ≤ cond p 3 (cond q 2 1)
      least true q e = omega arith
      least false q e = rw e (omega arith)

      go : Dec (3 < formed a b x y) → 2 ≤ cond (utf8_four a b c 0x80) 3 (cond (utf8_three a b 0x80 || utf8_four a b 0x80 0x80) 2 1)
      go (yes l) =
          let f = four_formed a b x y (omega (arith, form_most (form a b x y))) in
          least (utf8_four a b c 0x80) _ (ap (λ (t : Bool). utf8_three a b 0x80 || t) (any_four a b x y f).1 ∙ or_any (utf8_three a b 0x80))
      go (no l) = least (utf8_four a b c 0x80) _ (ap (λ (t : Bool). t || utf8_four a b 0x80 0x80) (any_three a b x (three-formed a b x y (omega arith))))

  three-begun : (y : ℕ) → 3 < formed a b c y → begun a b c ≡ 3
  unfolding begun
  three-begun y h = rw (any_four a b c y (four_formed a b c y (omega (arith, form_most (form a b c y))))).0

-- No longer run begins a character, where none is whole.
module _ (t : List ℕ) (h : 0 < length t) (broken : well_formed t ≡ 0) where
  module _ (m : ℕ) (l : m ≤ length t) (r : List ℕ) (k : length (take m t) ≤ well_formed (take m t ++ r)) where
    abbrev longer : List ℕ
    longer = take m t ++ r

    size : length (take m t) ≡ m
    size = length-take-le m t l

    same : (i : ℕ) → i < m → get_or longer i 0 ≡ get_or t i 0
    same i u = get_or-append (take m t) r 0 i (omega (arith, size)) ∙ get_or_take t m i u
      where
        get_or_take : (t : List ℕ) (m i : ℕ) → i < m → get_or (take m t) i 0 ≡ get_or t i 0
        get_or_take t zero i u = absurd (omega arith)
        get_or_take [] (suc m) i u = refl
        get_or_take (x ∷ t) (suc m) zero u = refl
        get_or_take (x ∷ t) (suc m) (suc i) u = get_or_take t m i (omega arith)

    -- it has more bytes than the run, which would be whole otherwise
    more : 0 < m → m < well_formed longer
    more p = go (dec_lt m (well_formed longer))
      where
        go : Dec (m < well_formed longer) → m < well_formed longer
        go (yes x) = x
        go (no x) =
            let own = formed_own longer t (omega (arith, size)) (λ i u. sym (same i (omega arith))) in
            absurd (omega (arith, size))

    three_most : m ≤ 3
    three_most = go (dec_lt 0 m)
      where
        go : Dec (0 < m) → m ≤ 3
        go (yes p) = omega (arith, more p, form_most (form_of longer))
        go (no p) = omega arith

  most : (m : ℕ) → m ≤ length t → Begins (take m t) → m ≤ broken_length t
  most zero l b = omega arith
  most (suc zero) l b = (broken_range t).0
  most (suc (suc zero)) l (r, k) =
      let w : 2 < well_formed (longer 2 l r k) = more 2 l r k (omega arith) in
      let f : well_formed (longer 2 l r k) ≡ formed (get_or t 0 0) (get_or t 1 0) (get_or (longer 2 l r k) 2 0) (get_or (longer 2 l r k) 3 0) = rw (same 2 l r k 0 (omega arith), same 2 l r k 1 (omega arith)) refl in
      two-begun (get_or t 0 0) (get_or t 1 0) (get_or t 2 0) (get_or (longer 2 l r k) 2 0) (get_or (longer 2 l r k) 3 0) (omega arith)
  most (suc (suc (suc zero))) l (r, k) =
      let w : 3 < well_formed (longer 3 l r k) = more 3 l r k (omega arith) in
      let f : well_formed (longer 3 l r k) ≡ formed (get_or t 0 0) (get_or t 1 0) (get_or t 2 0) (get_or (longer 3 l r k) 3 0) = rw (same 3 l r k 0 (omega arith), same 3 l r k 1 (omega arith), same 3 l r k 2 (omega arith)) refl in
      omega (arith, three-begun (get_or t 0 0) (get_or t 1 0) (get_or t 2 0) (get_or (longer 3 l r k) 3 0) (omega arith))
  most (suc (suc (suc (suc m)))) l (r, k) = absurd (omega (arith, three_most (suc (suc (suc (suc m)))) l r k))

-- The run itself begins one: with a tail more, or with two.
four_makes : (a b c d : ℕ) → utf8_four a b c d ≡ true → formed a b c d ≡ 4
four_makes a b c d e = go (dec_lt a 0xF0)
  where
    go : Dec (a < 0xF0) → formed a b c d ≡ 4
    go (yes l) = clash e (four_below a b c d l)
    go (no l) = formed_four a b c d (omega arith) ∙ ap (λ (t : Bool). cond t 4 0) e

three_makes : (a b c d : ℕ) → utf8_three a b c ≡ true → formed a b c d ≡ 3
three_makes a b c d e = go (dec_lt a 0xE0) (dec_lt 0xEF a)
  where
    go : Dec (a < 0xE0) → Dec (0xEF < a) → formed a b c d ≡ 3
    go (yes l) m = clash e (three_below a b c l)
    go (no l) (yes m) = clash e (three_above a b c m)
    go (no l) (no m) = formed-three a b c d (omega arith) (omega arith) ∙ ap (λ (t : Bool). cond t 3 0) e

take-two : (t : List ℕ) → 2 ≤ length t → take 2 t ≡ get_or t 0 0 ∷ get_or t 1 0 ∷ []
take-two [] h = absurd (omega arith)
take-two (a ∷ []) h = absurd (omega arith)
take-two (a ∷ b ∷ t) h = refl

take-three : (t : List ℕ) → 3 ≤ length t → take 3 t ≡ get_or t 0 0 ∷ get_or t 1 0 ∷ get_or t 2 0 ∷ []
take-three [] h = absurd (omega arith)
take-three (a ∷ []) h = absurd (omega arith)
take-three (a ∷ b ∷ []) h = absurd (omega arith)
take-three (a ∷ b ∷ c ∷ t) h = refl

module _ (t : List ℕ) (h : 0 < length t) where
  abbrev a : ℕ
  a = get_or t 0 0

  abbrev b : ℕ
  b = get_or t 1 0

  abbrev c : ℕ
  c = get_or t 2 0

  front : {n : ℕ} {u : List ℕ} → broken_length t ≡ n → (n ≤ length t → take n t ≡ u) → Begins u → Begins (take (broken_length t) t)
  front e f r = subst Begins (sym (ap (λ (n : ℕ). take n t) e ∙ f (omega (arith, broken-within t h)))) r

  longer-begins : 1 < broken_length t → Begins (take (broken_length t) t)
  unfolding begun
  longer-begins p = go (utf8_four a b c 0x80) refl (utf8_three a b 0x80) refl (utf8_four a b 0x80 0x80) refl
    where
      go : (x : Bool) → utf8_four a b c 0x80 ≡ x → (y : Bool) → utf8_three a b 0x80 ≡ y → (z : Bool) → utf8_four a b 0x80 0x80 ≡ z → Begins (take (broken_length t) t)
      go true e y f z g = front (rw e) (take-three t) (0x80 ∷ [], omega (arith, four_makes a b c 0x80 e))
      go false e true f z g = front (rw (e, f)) (take-two t) (0x80 ∷ [], omega (arith, three_makes a b 0x80 0 f))
      go false e false f true g = front (rw (e, f, g)) (take-two t) (0x80 ∷ 0x80 ∷ [], omega (arith, four_makes a b 0x80 0x80 g))
      go false e false f false g = absurd (let n : broken_length t ≡ 1 = rw (e, f, g) in omega arith)

-- A byte from C2 to F4 begins some character; no other past ASCII does.
pub can_begin : (a : ℕ) → 0xC2 ≤ a → a ≤ 0xF4 → Begins (a ∷ [])
can_begin a l h = go (dec_lt a 0xE0) (dec_lt a 0xF0) (eqb a 0xE0) refl (eqb a 0xED) refl (eqb a 0xF0) refl (eqb a 0xF4) refl
  where
    go : Dec (a < 0xE0) → Dec (a < 0xF0) → (p : Bool) → eqb a 0xE0 ≡ p → (q : Bool) → eqb a 0xED ≡ q → (r : Bool) → eqb a 0xF0 ≡ r → (s : Bool) → eqb a 0xF4 ≡ s → Begins (a ∷ [])
    go (yes x) y p ep q eq r er s es = (0x80 ∷ [], omega (arith, formed-two a 0x80 0 0 l x))
    go (no x) (yes y) true ep q eq r er s es = (0xA0 ∷ 0x80 ∷ [], omega (arith, three_makes a 0xA0 0x80 0 (three-first a 0xA0 0x80 (eqb-true a 0xE0 ep))))
    go (no x) (yes y) false ep true eq r er s es = (0x80 ∷ 0x80 ∷ [], omega (arith, three_makes a 0x80 0x80 0 (three_surrogate a 0x80 0x80 (eqb-true a 0xED eq))))
    go (no x) (yes y) false ep false eq r er s es =
        (0x80 ∷ 0x80 ∷ [], omega (arith, three_makes a 0x80 0x80 0 (three_other a 0x80 0x80 (omega (arith, eqb-false a 0xE0 ep)) y (eqb-false a 0xED eq))))
    go (no x) (no y) p ep q eq true er s es = (0x90 ∷ 0x80 ∷ 0x80 ∷ [], omega (arith, four_makes a 0x90 0x80 0x80 (four_first a 0x90 0x80 0x80 (eqb-true a 0xF0 er))))
    go (no x) (no y) p ep q eq false er true es = (0x80 ∷ 0x80 ∷ 0x80 ∷ [], omega (arith, four_makes a 0x80 0x80 0x80 (four_last a 0x80 0x80 0x80 (eqb-true a 0xF4 es))))
    go (no x) (no y) p ep q eq false er false es = (
      0x80 ∷ 0x80 ∷ 0x80 ∷ [],
      omega (arith, four_makes a 0x80 0x80 0x80 (four_other a 0x80 0x80 0x80 (omega (arith, eqb-false a 0xF0 er)) (omega (arith, eqb-false a 0xF4 es)))),
    )

pub cannot_begin : (a : ℕ) (u : List ℕ) → 0x80 ≤ a → (a < 0xC2) ⊎ (0xF4 < a) → Begins (a ∷ u) → ⊥
cannot_begin a u l o (r, k) = go o
  where
    x : ℕ
    x = get_or (u ++ r) 0 0

    y : ℕ
    y = get_or (u ++ r) 1 0

    z : ℕ
    z = get_or (u ++ r) 2 0

    go : (a < 0xC2) ⊎ (0xF4 < a) → ⊥
    go (inl p) = omega (arith, k, formed_low a x y z l p)
    go (inr p) = omega (arith, k, formed_four a x y z (omega arith) ∙ ap (λ (t : Bool). cond t 4 0) (four_above a x y z p))

-- "the longest run of bytes there that begins some well-formed character, or one byte if there is none"
pub record LongestRun (t : List ℕ) (n : ℕ) : Type 0 where
  pub some : 0 < n
  pub within : n ≤ length t
  pub begins : Begins (take n t) ⊎ ((n ≡ 1) × ((m : ℕ) → 0 < m → m ≤ length t → Begins (take m t) → ⊥))
  pub most : (m : ℕ) → m ≤ length t → Begins (take m t) → m ≤ n

not_ascii : (t : List ℕ) → well_formed t ≡ 0 → 0x80 ≤ get_or t 0 0
not_ascii t e = go (dec_lt (get_or t 0 0) 0x80)
  where
    go : Dec (get_or t 0 0 < 0x80) → 0x80 ≤ get_or t 0 0
    go (yes l) = absurd (omega (arith, formed-one (get_or t 0 0) (get_or t 1 0) (get_or t 2 0) (get_or t 3 0) l))
    go (no l) = omega arith

pub longest_run : (t : List ℕ) → 0 < length t → well_formed t ≡ 0 → LongestRun t (broken_length t)
longest_run t h e = record { some = (broken_range t).0; within = broken-within t h; begins = go (dec_lt 1 (broken_length t)); most = most t h e }
  where
    -- the first byte begins none: no run does
    no_run : (t : List ℕ) → 0x80 ≤ get_or t 0 0 → (get_or t 0 0 < 0xC2) ⊎ (0xF4 < get_or t 0 0) → (m : ℕ) → 0 < m → m ≤ length t → Begins (take m t) → ⊥
    no_run t l o zero p u r = omega arith
    no_run [] l o (suc m) p u r = omega arith
    no_run (a ∷ t) l o (suc m) p u r = cannot_begin a (take m t) l o r

    run-one : (t : List ℕ) → 0 < length t → take 1 t ≡ get_or t 0 0 ∷ []
    run-one [] h = absurd (omega arith)
    run-one (a ∷ t) h = refl

    lone : broken_length t ≡ 1 → Dec (get_or t 0 0 < 0xC2) → Dec (0xF4 < get_or t 0 0)
        → Begins (take (broken_length t) t) ⊎ ((broken_length t ≡ 1) × ((m : ℕ) → 0 < m → m ≤ length t → Begins (take m t) → ⊥))
    lone n (yes l) u = inr (n, no_run t (not_ascii t e) (inl l))
    lone n (no l) (yes u) = inr (n, no_run t (not_ascii t e) (inr u))
    lone n (no l) (no u) = inl (subst Begins (sym (ap (λ (n : ℕ). take n t) n ∙ run-one t h)) (can_begin (get_or t 0 0) (omega arith) (omega arith)))

    go : Dec (1 < broken_length t) → Begins (take (broken_length t) t) ⊎ ((broken_length t ≡ 1) × ((m : ℕ) → 0 < m → m ≤ length t → Begins (take m t) → ⊥))
    go (yes p) = inl (longer-begins t h p)
    go (no p) = lone (omega (arith, (broken_range t).0)) (dec_lt (get_or t 0 0) 0xC2) (dec_lt 0xF4 (get_or t 0 0))

-- A broken character has a code of its own: that of a whole one is a code point.
pub code_below : (t : List ℕ) → 0 < well_formed t → (char_at t).code < no_code
unfolding char_of code_of
code_below t h = go (form_of t) h
  where
    go : {w : ℕ} → Form (get_or t 0 0) (get_or t 1 0) (get_or t 2 0) (get_or t 3 0) w → 0 < w → (char_of w t).code < no_code
    go none p = absurd (omega arith)
    go (one a) p = omega arith
    go (two a a2 b) p = omega arith
    go (three a a2 b c) p = omega arith
    go (four a a2 b c d) p = let e : get_or t 0 0 % 8 + 0xF0 ≡ get_or t 0 0 = omega arith in let f = low_of b in omega arith

code_broken : (t : List ℕ) → well_formed t ≡ 0 → (char_at t).code ≡ no_code
unfolding char_of
code_broken t e = ap (λ (w : ℕ). (char_of w t).code) e

-- it has one byte to three
pub broken_bytes : (t : List ℕ) → 0 < length t → (char_at t).code ≡ no_code → (0 < width (char_at t)) × (width (char_at t) ≤ 3)
broken_bytes t h e = go (well_formed t) refl
  where
    go : (w : ℕ) → well_formed t ≡ w → (0 < width (char_at t)) × (width (char_at t) ≤ 3)
    go zero f = let n = width-broken t h f in let r = broken_range t in (omega arith, omega arith)
    go (suc w) f = absurd (omega (arith, code_below t (omega arith)))

-- A text is valid exactly when no character of it is broken.
abbrev pub NoneBroken : List Char → Type 0
NoneBroken [] = Unit {0}
NoneBroken (c ∷ cs) = (c.code ≡ no_code → ⊥) × NoneBroken cs

none_broken : (cs : List Char) → Read cs → Formed cs → NoneBroken cs
none_broken [] r f = tt
none_broken (c ∷ cs) r f =
    (λ e. omega (arith, code_below (c.bytes ++ flatten cs) f.0, ap (λ (c : Char). c.code) r.0), none_broken cs r.2 f.1)

all_formed : (cs : List Char) → Read cs → NoneBroken cs → Formed cs
all_formed [] r n = tt
all_formed (c ∷ cs) r n = (go (well_formed (c.bytes ++ flatten cs)) refl, all_formed cs r.2 n.1)
  where
    go : (w : ℕ) → well_formed (c.bytes ++ flatten cs) ≡ w → 0 < well_formed (c.bytes ++ flatten cs)
    go zero e = absurd (n.0 (sym (ap (λ (c : Char). c.code) r.0) ∙ code_broken (c.bytes ++ flatten cs) e))
    go (suc w) e = omega arith

pub valid_unbroken : (s : List ℕ) → (valid s ≡ true) ↔ NoneBroken (chars s)
valid_unbroken s =
    (λ e. none_broken (chars s) (read-chars s) ((valid-chars s).0 e), λ n. (valid-chars s).1 (all_formed (chars s) (read-chars s) n))

-- Steps: where a broken character is read for itself, it is one ErrorToken, whatever stands before and after it.
pub broken-token : (d : Bool) (t : List ℕ) → 0 < length t → well_formed t ≡ 0 → lexeme d t ≡ is ErrorToken (broken_length t)
broken-token d t h e =
    let c = code_broken t e in
    wide_other d t 0 h (not_ascii t e) (ap white_space c ∙ white_space_none) (λ q. omega arith) (λ q. omega arith)
    ∙ ap (λ (k : ℕ). is k (width (char_at t))) (single_wide (char_at t).code (omega arith) (λ q. omega arith))
    ∙ ap (λ (n : ℕ). is ErrorToken n) (width-broken t h e)
