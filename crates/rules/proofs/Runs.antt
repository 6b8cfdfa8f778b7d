-- Runs: white space, words and the comments that `--` opens.
use Prim.Native.Nat.{ℕ, zero, suc, ◌+◌}
use native.Mathlib.Omega.{arith}
use mathlib.Core.Path.{◌≡◌, refl, sym, ap, ◌∙◌, subst}
use mathlib.Core.List.{List, [], ◌∷◌, ◌++◌}
use mathlib.Core.Bool.{Bool, true, false, not, ◌||◌}
use mathlib.Core.Logic.{◌⊎◌, inl, inr}
use lib.Dec.{eqb}
use Rattle.rules.specs.Utf8.{Char, width}
use Rattle.rules.specs.Classes.{white_space, alphanumeric, letter, digit}
use Rattle.rules.specs.Characters.{line_feed, dash, underscore}
use Rattle.rules.specs.Kinds.{Whitespace, Comment, BareWord}
use Rattle.rules.specs.Limits.{mask_byte}
use Rattle.rules.specs.Lexeme.{first, is, run}
use Rattle.rules.specs.Spaces.{not_line_feed}
use Rattle.rules.specs.Words.{word_character}
use Rattle.rules.specs.Tokens.{rule, Rule, spaces, dashes, letters, read, lexeme_of}
use Rattle.rules.specs.Masking.{front, back}
use Rattle.rules.proofs.Reading.{widths, Read}
use Rattle.rules.proofs.Proper.{Propers, propers, propers_left, one_byte}
use Rattle.rules.proofs.Masks.{Kept, none, next, hashes, kept_refl, kept_first-append}
use Rattle.rules.proofs.Step.{Step}
use Rattle.rules.proofs.Rules.{lexeme_by, plain_step, hiding_step}
use Rattle.rules.proofs.Tables.{letter-alphanumeric}
use Rattle.rules.proofs.Tests.{eqb-true, clash, or_cases, or_left, or_right}

-- A list does not begin with a character of the class.
abbrev pub Ends : (ℕ → Bool) → List Char → Type 0
Ends p [] = Unit {0}
Ends p (c ∷ cs) = p c.code ≡ false

pub run_stop : (p : ℕ → Bool) {us vs : List Char} → Kept us vs → Ends p us → run p vs ≡ 0
unfolding run
run_stop p none e = refl
run_stop p (next c m) e = rw (e, run)

-- A run and what stands after it
pub record Ran (p : ℕ → Bool) (cs : List Char) : Type 0 where
  pub taken : List Char
  pub rest : List Char
  pub whole : cs ≡ taken ++ rest
  pub goes : (vs : List Char) → run p (taken ++ vs) ≡ widths taken + run p vs
  pub edge : Ends p rest

pub ran : (p : ℕ → Bool) (cs : List Char) → Ran p cs
unfolding run
ran p [] = record { taken = []; rest = []; whole = refl; goes = λ vs. omega arith; edge = tt }
ran p (c ∷ cs) = go (p c.code) refl (ran p cs)
  where
    go : (b : Bool) → p c.code ≡ b → Ran p cs → Ran p (c ∷ cs)
    go true e r = record { taken = c ∷ r.taken; rest = r.rest; whole = ap {B = List Char} (λ (l : List Char). c ∷ l) r.whole; goes = λ vs. rw e (let h = r.goes vs in omega arith); edge = r.edge }
    go false e r = record { taken = []; rest = c ∷ cs; whole = refl; goes = λ vs. omega arith; edge = e }

pub ran_size : {p : ℕ → Bool} {cs : List Char} (r : Ran p cs) (vs : List Char) → Kept r.rest vs → run p (r.taken ++ vs) ≡ widths r.taken
ran_size {p} {cs} r vs k = let g = r.goes vs in let h = run_stop p k r.edge in omega arith

pub run-cons : (p : ℕ → Bool) (c : Char) (cs : List Char) → p c.code ≡ true → run p (c ∷ cs) ≡ width c + run p cs
unfolding run
run-cons p c cs e = rw (e, run)

-- the rule is chosen by the first character and the next, which the copy keeps
pub rule_kept : (c : Char) (cs us vs : List Char) (r : Rule) → cs ≡ us ++ vs → rule c.code (first cs) ≡ r → (after : List Char) → Kept vs after → rule c.code (first (us ++ after)) ≡ r
rule_kept c cs us vs r w e after k = ap (rule c.code) (kept_first-append us k ∙ ap first (sym w)) ∙ e

pub space-step : (d : Bool) (c : Char) (cs : List Char) → rule c.code (first cs) ≡ spaces → white_space c.code ≡ true → Step d (c ∷ cs)
unfolding read
space-step d c cs e w =
    let r = ran white_space cs in
    plain_step d (c ∷ cs) c r.taken r.rest Whitespace (width c + widths r.taken) (ap {B = List Char} (λ (l : List Char). c ∷ l) r.whole) refl refl
    (λ after k. lexeme_by d c (r.taken ++ after) spaces (rule_kept c cs r.taken r.rest spaces r.whole e after k) ∙ ap (is Whitespace) (run-cons white_space c (r.taken ++ after) w ∙ ap (λ (n : ℕ). width c + n) (ran_size r after k)))

letter_word : (c : ℕ) → (letter c || eqb c underscore) ≡ true → word_character c ≡ true
letter_word c e = go (or_cases (letter c) (eqb c underscore) e)
  where
    go : (letter c ≡ true) ⊎ (eqb c underscore ≡ true) → word_character c ≡ true
    go (inl p) = or_left (alphanumeric c) (eqb c underscore) (letter-alphanumeric c p)
    go (inr p) = or_right (alphanumeric c) (eqb c underscore) p

pub letters_step : (d : Bool) (c : Char) (cs : List Char) → rule c.code (first cs) ≡ letters → (letter c.code || eqb c.code underscore) ≡ true → Step d (c ∷ cs)
unfolding read
letters_step d c cs e w =
    let r = ran word_character cs in
    plain_step d (c ∷ cs) c r.taken r.rest BareWord (width c + widths r.taken) (ap {B = List Char} (λ (l : List Char). c ∷ l) r.whole) refl refl
    (λ after k. lexeme_by d c (r.taken ++ after) letters (rule_kept c cs r.taken r.rest letters r.whole e after k) ∙ ap (is BareWord) (run-cons word_character c (r.taken ++ after) (letter_word c.code w) ∙ ap (λ (n : ℕ). width c + n) (ran_size r after k)))

-- `--`

run_hashes : (p : ℕ → Bool) (n : ℕ) (vs : List Char) → p mask_byte ≡ true → run p (hashes n ++ vs) ≡ n + run p vs
unfolding run
run_hashes p zero vs e = omega arith
run_hashes p (suc n) vs e = rw e (let h = run_hashes p n vs e in omega arith)

line_edge : (vs : List Char) → Ends not_line_feed vs → digit (first vs) ≡ false
line_edge [] e = refl
line_edge (c ∷ vs) e = go (eqb c.code line_feed) refl e
  where
    go : (b : Bool) → eqb c.code line_feed ≡ b → not b ≡ false → digit c.code ≡ false
    go true p q = let z : c.code ≡ line_feed = eqb-true p in ap digit z
    go false p q = clash refl q

pub dashes_step : (d : Bool) (c : Char) (cs : List Char) → Read (c ∷ cs) → rule c.code (first cs) ≡ dashes → c.code ≡ dash → first cs ≡ dash → Step d (c ∷ cs)
unfolding read front back
dashes_step d c [] r e a b = absurd (omega arith)
dashes_step d c (x ∷ cs) r e a b =
    let g = ran not_line_feed cs in
    let P = propers (c ∷ x ∷ cs) r in
    let n : ℕ = width c + (width x + 0 + (widths g.taken + 0)) in
    let ec : c.bytes ≡ dash ∷ [] = one_byte P.0 dash a (omega arith) in
    let ex : x.bytes ≡ dash ∷ [] = one_byte P.1.0 dash b (omega arith) in
    let two-chars : (vs : List Char) → lexeme_of d (c ∷ x ∷ vs) ≡ is Comment (width c + (width x + run not_line_feed vs)) =
    λ vs. lexeme_by d c (x ∷ vs) dashes e ∙ ap (is Comment) (run-cons not_line_feed c (x ∷ vs) (ap not_line_feed a) ∙ ap (λ (m : ℕ). width c + m) (run-cons not_line_feed x vs (ap not_line_feed b))) in
    hiding_step d (c ∷ x ∷ cs) c (x ∷ []) g.taken [] g.rest Comment n (ap {B = List Char} (λ (l : List Char). c ∷ x ∷ l) g.whole)
    (propers_left g.taken g.rest (subst Propers g.whole P.1.1)) refl
    (rw (ec, ex)) (rw (ec, ex)) (λ h. clash h (line_edge g.rest g.edge))
    (two-chars (g.taken ++ g.rest) ∙ ap (is Comment) (rw (ran_size g g.rest (kept_refl g.rest)) (omega arith)))
    (λ after k. two-chars (hashes (widths g.taken) ++ after) ∙ ap (is Comment) (rw (run_hashes not_line_feed (widths g.taken) after refl, run_stop not_line_feed k g.edge) (omega arith)))
