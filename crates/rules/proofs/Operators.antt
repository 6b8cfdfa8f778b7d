-- Rule 2: operators.
use Prim.Native.Nat.{ℕ, zero, suc, ◌<◌}
use native.Mathlib.Omega.{arith}
use mathlib.Core.Path.{◌≡◌, refl, sym, ap, ◌∙◌}
use mathlib.Core.List.{List, [], ◌∷◌, ◌++◌}
use mathlib.Core.Bool.{Bool, true, false, ◌&&◌, and-false}
use mathlib.Core.Logic.{◌⊎◌, inl, inr}
use lib.Dec.{eqb}
use lib.ListN.{drop}
use Rattle.rules.specs.Utf8.{Char, width}
use Rattle.rules.specs.Characters.{exclamation, percent, round_open, round_close, star, plus, comma, dash, dot, slash, colon, semicolon, less, equals, greater, question, at, capital_g, square_open, backslash, square_close, caret, small_g, curly_open, bar, curly_close, minus_sign}
use Rattle.rules.specs.Kinds.{Spaceship}
use Rattle.rules.specs.Limits.{mask_byte}
use Rattle.rules.specs.Lexeme.{first, two, is}
use Rattle.rules.specs.Operators.{single, pair, spaceship, operator}
use Rattle.rules.specs.Tokens.{rule, others, read, lexeme_of}
use Rattle.rules.proofs.Reading.{Read}
use Rattle.rules.proofs.Proper.{propers, one_wide}
use Rattle.rules.proofs.Masks.{Kept, kept_first, kept_second}
use Rattle.rules.proofs.Step.{Step}
use Rattle.rules.proofs.Rules.{lexeme_by, plain, plain_step, cond-rule, two-true}
use Rattle.rules.proofs.Runs.{rule_kept}
use Rattle.rules.proofs.Tests.{eqb-true, and_left, and_right, or_cases}

single_plain : (a : ℕ) → plain (single a) ≡ true
unfolding single
single_plain a =
    let F : ℕ → Type 0 = λ k. plain k ≡ true in
    cond-rule F (eqb a round_open) _ _ (λ e. refl)
    (cond-rule F (eqb a round_close) _ _ (λ e. refl)
    (cond-rule F (eqb a square_open) _ _ (λ e. refl)
    (cond-rule F (eqb a square_close) _ _ (λ e. refl)
    (cond-rule F (eqb a curly_open) _ _ (λ e. refl)
    (cond-rule F (eqb a curly_close) _ _ (λ e. refl)
    (cond-rule F (eqb a comma) _ _ (λ e. refl)
    (cond-rule F (eqb a semicolon) _ _ (λ e. refl)
    (cond-rule F (eqb a dot) _ _ (λ e. refl)
    (cond-rule F (eqb a star) _ _ (λ e. refl)
    (cond-rule F (eqb a plus) _ _ (λ e. refl)
    (cond-rule F (eqb a percent) _ _ (λ e. refl)
    (cond-rule F (eqb a question) _ _ (λ e. refl)
    (cond-rule F (eqb a caret) _ _ (λ e. refl)
    (cond-rule F (eqb a dash) _ _ (λ e. refl)
    (cond-rule F (eqb a slash) _ _ (λ e. refl)
    (cond-rule F (eqb a colon) _ _ (λ e. refl)
    (cond-rule F (eqb a less) _ _ (λ e. refl)
    (cond-rule F (eqb a greater) _ _ (λ e. refl)
    (cond-rule F (eqb a at) _ _ (λ e. refl)
    (cond-rule F (eqb a minus_sign) _ _ (λ e. refl)
    (cond-rule F (eqb a equals) _ _ (λ e. refl)
    (cond-rule F (eqb a exclamation) _ _ (λ e. refl)
    (cond-rule F (eqb a bar) _ _ (λ e. refl) refl)))))))))))))))))))))))

pair_plain : (a b : ℕ) → plain (pair a b) ≡ true
unfolding pair
pair_plain a b =
    let F : ℕ → Type 0 = λ k. plain k ≡ true in
    cond-rule F (two a b exclamation equals) _ _ (λ e. refl)
    (cond-rule F (two a b less greater) _ _ (λ e. refl)
    (cond-rule F (two a b dash greater) _ _ (λ e. refl)
    (cond-rule F (two a b colon colon) _ _ (λ e. refl)
    (cond-rule F (two a b bar bar) _ _ (λ e. refl)
    (cond-rule F (two a b at at) _ _ (λ e. refl)
    (cond-rule F (two a b less equals) _ _ (λ e. refl)
    (cond-rule F (two a b greater equals) _ _ (λ e. refl)
    (cond-rule F (two a b backslash capital_g) _ _ (λ e. refl)
    (cond-rule F (two a b backslash small_g) _ _ (λ e. refl)
    (cond-rule F (two a b equals equals) _ _ (λ e. refl)
    (cond-rule F (two a b equals greater) _ _ (λ e. refl) refl)))))))))))

abbrev pub Small : ℕ → ℕ → ℕ → Type 0
Small a b k = (j : ℕ) → k ≡ suc j → (a < 128) × (b < 128)

small : (a b m n k : ℕ) → m < 128 → n < 128 → two a b m n ≡ true → Small a b k
small a b m n k p q e j h = let z = two-true a b m n e in omega arith

pub pair_small : (a b : ℕ) → Small a b (pair a b)
unfolding pair
pair_small a b =
    cond-rule (Small a b) (two a b exclamation equals) _ _ (small a b exclamation equals _ (omega arith) (omega arith))
    (cond-rule (Small a b) (two a b less greater) _ _ (small a b less greater _ (omega arith) (omega arith))
    (cond-rule (Small a b) (two a b dash greater) _ _ (small a b dash greater _ (omega arith) (omega arith))
    (cond-rule (Small a b) (two a b colon colon) _ _ (small a b colon colon _ (omega arith) (omega arith))
    (cond-rule (Small a b) (two a b bar bar) _ _ (small a b bar bar _ (omega arith) (omega arith))
    (cond-rule (Small a b) (two a b at at) _ _ (small a b at at _ (omega arith) (omega arith))
    (cond-rule (Small a b) (two a b less equals) _ _ (small a b less equals _ (omega arith) (omega arith))
    (cond-rule (Small a b) (two a b greater equals) _ _ (small a b greater equals _ (omega arith) (omega arith))
    (cond-rule (Small a b) (two a b backslash capital_g) _ _ (small a b backslash capital_g _ (omega arith) (omega arith))
    (cond-rule (Small a b) (two a b backslash small_g) _ _ (small a b backslash small_g _ (omega arith) (omega arith))
    (cond-rule (Small a b) (two a b equals equals) _ _ (small a b equals equals _ (omega arith) (omega arith))
    (cond-rule (Small a b) (two a b equals greater) _ _ (small a b equals greater _ (omega arith) (omega arith)) (λ j h. absurd (omega arith)))))))))))))

-- a spaceship is three characters of ASCII
spaceship_small : (a b e : ℕ) → spaceship a b e ≡ true → (a < 128) × (b < 128) × (e < 128)
spaceship_small a b e h = go (or_cases (two a b less equals && eqb e greater) (two a b equals greater && eqb e less) h)
  where
    go : ((two a b less equals && eqb e greater) ≡ true) ⊎ ((two a b equals greater && eqb e less) ≡ true) → (a < 128) × (b < 128) × (e < 128)
    go (inl p) =
        let x = two-true a b less equals (and_left (two a b less equals) (eqb e greater) p) in
        let y : e ≡ greater = eqb-true (and_right (two a b less equals) (eqb e greater) p) in
        omega arith
    go (inr p) =
        let x = two-true a b equals greater (and_left (two a b equals greater) (eqb e less) p) in
        let y : e ≡ less = eqb-true (and_right (two a b equals greater) (eqb e less) p) in
        omega arith

-- a hidden third character makes no spaceship
spaceship_dim : (a b e x : ℕ) → (x ≡ e) ⊎ (x ≡ mask_byte) → spaceship a b e ≡ false → spaceship a b x ≡ false
spaceship_dim a b e x (inl p) h = ap (spaceship a b) p ∙ h
spaceship_dim a b e x (inr p) h = ap (spaceship a b) p ∙ simp and-false

-- the clauses of `operator`, by its tests
module _ (c : Char) (cs : List Char) where
  pub operator-three : spaceship c.code (first cs) (first (drop 1 cs)) ≡ true → operator c cs ≡ is Spaceship 3
  unfolding operator
  operator-three e = rw (e, operator)

  pub operator-two : (k : ℕ) → spaceship c.code (first cs) (first (drop 1 cs)) ≡ false → pair c.code (first cs) ≡ suc k → operator c cs ≡ is (suc k) 2
  unfolding operator
  operator-two k e f = rw (e, f, operator)

  pub operator-one : spaceship c.code (first cs) (first (drop 1 cs)) ≡ false → pair c.code (first cs) ≡ 0 → operator c cs ≡ is (single c.code) (width c)
  unfolding operator
  operator-one e f = rw (e, f, operator)

module _ (d : Bool) (c : Char) where
  reads : (cs us vs : List Char) → cs ≡ us ++ vs → rule c.code (first cs) ≡ others → (after : List Char) → Kept vs after → lexeme_of d (c ∷ (us ++ after)) ≡ operator c (us ++ after)
  unfolding read
  reads cs us vs w e after k = lexeme_by d c (us ++ after) others (rule_kept c cs us vs others w e after k)

  three-step : (cs : List Char) → Read (c ∷ cs) → rule c.code (first cs) ≡ others → spaceship c.code (first cs) (first (drop 1 cs)) ≡ true → Step d (c ∷ cs)
  three-step [] r e s = absurd (let z = spaceship_small c.code (first []) (first []) s in omega arith)
  three-step (x ∷ []) r e s = absurd (let z = spaceship_small c.code x.code (first []) s in omega arith)
  three-step (x ∷ y ∷ cs) r e s =
      let P = propers (c ∷ x ∷ y ∷ cs) r in
      let z = spaceship_small c.code x.code y.code s in
      let wc : width c ≡ 1 = one_wide P.0 z.0 in
      let wx : width x ≡ 1 = one_wide P.1.0 z.1 in
      let wy : width y ≡ 1 = one_wide P.1.1.0 z.2 in
      plain_step d (c ∷ x ∷ y ∷ cs) c (x ∷ y ∷ []) cs Spaceship 3 refl refl (omega arith) (λ after k. reads (x ∷ y ∷ cs) (x ∷ y ∷ []) cs refl e after k ∙ operator-three c (x ∷ y ∷ after) s)

  two-step : (k : ℕ) (cs : List Char) → Read (c ∷ cs) → rule c.code (first cs) ≡ others → spaceship c.code (first cs) (first (drop 1 cs)) ≡ false → pair c.code (first cs) ≡ suc k → Step d (c ∷ cs)
  two-step k [] r e s p = absurd (let z = pair_small c.code (first []) k p in omega arith)
  two-step k (x ∷ cs) r e s p =
      let P = propers (c ∷ x ∷ cs) r in
      let z = pair_small c.code x.code k p in
      let wc : width c ≡ 1 = one_wide P.0 z.0 in
      let wx : width x ≡ 1 = one_wide P.1.0 z.1 in
      plain_step d (c ∷ x ∷ cs) c (x ∷ []) cs (suc k) 2 refl (ap plain (sym p) ∙ pair_plain c.code x.code) (omega arith)
      (λ after h. reads (x ∷ cs) (x ∷ []) cs refl e after h ∙ operator-two c (x ∷ after) k (ap (spaceship c.code x.code) (kept_first h) ∙ s) p)

  one-step : (cs : List Char) → rule c.code (first cs) ≡ others → spaceship c.code (first cs) (first (drop 1 cs)) ≡ false → pair c.code (first cs) ≡ 0 → Step d (c ∷ cs)
  one-step cs e s p =
      plain_step d (c ∷ cs) c [] cs (single c.code) (width c) refl (single_plain c.code) (omega arith)
      (λ after h. reads cs [] cs refl e after h ∙ operator-one c after (ap (λ (b : ℕ). spaceship c.code b (first (drop 1 after))) (kept_first h) ∙ spaceship_dim c.code (first cs) (first (drop 1 cs)) (first (drop 1 after)) (kept_second h) s) (ap (pair c.code) (kept_first h) ∙ p))

  pub other_step : (cs : List Char) → Read (c ∷ cs) → rule c.code (first cs) ≡ others → Step d (c ∷ cs)
  other_step cs r e = go (spaceship c.code (first cs) (first (drop 1 cs))) (pair c.code (first cs)) refl refl
    where
      go : (t : Bool) (k : ℕ) → spaceship c.code (first cs) (first (drop 1 cs)) ≡ t → pair c.code (first cs) ≡ k → Step d (c ∷ cs)
      go true k s p = three-step cs r e s
      go false (suc k) s p = two-step k cs r e s p
      go false zero s p = one-step cs e s p
