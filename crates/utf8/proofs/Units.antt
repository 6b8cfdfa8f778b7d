-- What a unit says of the characters of its text. Assumes nothing.
use Prim.Native.Nat.{ℕ, zero, suc, ◌+◌, ◌≤◌, ◌<◌}
use mathlib.Core.Path.{◌≡◌, refl, sym, ap, ◌∙◌}
use mathlib.Core.List.{List, [], ◌∷◌}
use native.Mathlib.Nat.{not-suc-le-zero}
use native.Mathlib.Omega.{arith}
use Rattle.std.proofs.Common.{Option, Some, None}
use lib.ListN.{length, drop, drop_of_length-le, length-drop}
use lib.Seq.{drop-drop}
use Rattle.rules.specs.Utf8.{width, no_code, well_formed, broken_length, code_of, char_of, char_at, chars_after, chars}
use Rattle.rules.specs.Lexeme.{first}
use Rattle.rules.proofs.Decoding.{ends_within, broken_range, broken-within, width-broken, width-formed, chars-cons}
use Rattle.utf8.specs.declared.Unit.{Unit as AnyUnit}
use Rattle.utf8.specs.declared.Unit.TheVariants as unit
use Rattle.utf8.specs.Units.{some_length, unit_of, unit_at, unit_code, unit_len}

-- what a length says that is there, and one that is not
pub some_is : (m w : ℕ) {r : Option ℕ} → r ≡ some_length m → r ≡ Some w → (w ≡ m) × (w ≡ 0 → ⊥)
some_is zero w e f = cc
some_is (suc m) w e f =
    let p : suc m ≡ w = cc in
    (sym p, λ z. omega arith)

pub none_is : (m : ℕ) {r : Option ℕ} → r ≡ some_length m → r ≡ None → m ≡ 0
none_is zero e f = refl
none_is (suc m) e f = cc

-- the unit by the form
pub unit_end : (s : List ℕ) (i : ℕ) → length s ≤ i → unit_at (drop i s) ≡ unit.End
unfolding unit_at
unit_end s i h = rw (drop_of_length-le s h)

pub unit_broken : (t : List ℕ) (n : ℕ) → 0 < length t → n ≡ well_formed t → n ≡ 0 → unit_at t ≡ unit.Broken (broken_length t)
unfolding unit_at
unit_broken [] n h e z = absurd (not-suc-le-zero h)
unit_broken (b ∷ s) n h e z = ap (λ (w : ℕ). unit_of w (b ∷ s)) (sym e ∙ z)

pub unit_char : (t : List ℕ) (n : ℕ) → 0 < length t → n ≡ well_formed t → (n ≡ 0 → ⊥) → unit_at t ≡ unit.Char (code_of n t) n
unfolding unit_at
unit_char [] n h e z = absurd (not-suc-le-zero h)
unit_char (b ∷ s) zero h e z = absurd (z refl)
unit_char (b ∷ s) (suc w) h e z = ap (λ (w : ℕ). unit_of w (b ∷ s)) (sym e)

-- A character of code c and of n bytes stands at the front of t.
pub record Here (t : List ℕ) (c n : ℕ) : Type 0 where
  pub code : (char_at t).code ≡ c
  pub size : width (char_at t) ≡ n
  pub some : 0 < n
  pub upto : n ≤ length t
  pub rest : chars t ≡ char_at t ∷ chars (drop n t)

module _ (t : List ℕ) (h : 0 < length t) where
  here : (c n : ℕ) → (char_at t).code ≡ c → width (char_at t) ≡ n → 0 < n → n ≤ length t → Here t c n
  here c n e l p u = record { code = e; size = l; some = p; upto = u; rest = chars-cons t h ∙ ap (λ (n : ℕ). char_at t ∷ chars (drop n t)) l }

  broken_here : well_formed t ≡ 0 → Here t no_code (broken_length t)
  unfolding char_of
  broken_here e = here no_code (broken_length t) (ap (λ (w : ℕ). (char_of w t).code) e) (width-broken t h e) (broken_range t).0 (broken-within t h)

  char_here : (w : ℕ) → well_formed t ≡ suc w → Here t (code_of (suc w) t) (suc w)
  unfolding char_of
  char_here w e =
      let l = ends_within t h in
      here (code_of (suc w) t) (suc w) (ap (λ (w : ℕ). (char_of w t).code) e) (width-formed t w h e) (omega arith) (omega arith)

-- the characters by the unit
clash : {A : Type 0} → ◌≡◌ {A = ℕ} 0 1 → A
clash z = absurd (omega arith)

pub char_unit : (t : List ℕ) (c n : ℕ) → unit_at t ≡ unit.Char c n → Here t c n
unfolding unit_at
char_unit [] c n e = clash (cc)
char_unit (b ∷ s) c n e = go (well_formed (b ∷ s)) refl e
  where
    go : (w : ℕ) → well_formed (b ∷ s) ≡ w → unit_of w (b ∷ s) ≡ unit.Char c n → Here (b ∷ s) c n
    go zero f e = clash (cc)
    go (suc w) f e =
        let ec : code_of (suc w) (b ∷ s) ≡ c = cc in
        let en : suc w ≡ n = cc in
        rw en at (rw ec at (char_here (b ∷ s) (omega arith) w f))

pub broken_unit : (t : List ℕ) (n : ℕ) → unit_at t ≡ unit.Broken n → Here t no_code n
unfolding unit_at
broken_unit [] n e = clash (cc)
broken_unit (b ∷ s) n e = go (well_formed (b ∷ s)) refl e
  where
    go : (w : ℕ) → well_formed (b ∷ s) ≡ w → unit_of w (b ∷ s) ≡ unit.Broken n → Here (b ∷ s) no_code n
    go zero f e = let en : broken_length (b ∷ s) ≡ n = cc in rw en at (broken_here (b ∷ s) (omega arith) f)
    go (suc w) f e = clash (cc)

pub end_unit : (t : List ℕ) → unit_at t ≡ unit.End → t ≡ []
unfolding unit_at
end_unit [] e = refl
end_unit (b ∷ s) e = go (well_formed (b ∷ s)) e
  where
    go : (w : ℕ) → unit_of w (b ∷ s) ≡ unit.End → b ∷ s ≡ []
    go zero e = clash (cc)
    go (suc w) e = clash (cc)

-- the same at an index
pub here_at : (s : List ℕ) (i c n : ℕ) → Here (drop i s) c n → (chars (drop i s) ≡ char_at (drop i s) ∷ chars (drop (i + n) s)) × (i + n ≤ length s)
here_at s i c n h =
    let l = length-drop i s in
    let u = h.upto in
    let p = h.some in
    (h.rest ∙ ap (λ (t : List ℕ). char_at (drop i s) ∷ chars t) (drop-drop n i s), omega arith)

-- the code of a unit is that of the first character, if there is one
code_of_lem : (w : ℕ) (t : List ℕ) → unit_code (unit_of w t) ≡ (char_of w t).code
unfolding char_of
code_of_lem zero t = refl
code_of_lem (suc w) t = refl

pub unit_first : (t : List ℕ) → unit_code (unit_at t) ≡ first (chars t)
unfolding unit_at chars_after
unit_first [] = refl
unit_first (b ∷ s) = code_of_lem (well_formed (b ∷ s)) (b ∷ s)

-- its length is that character's
pub unit_width : (t : List ℕ) → 0 < length t → unit_len (unit_at t) ≡ width (char_at t)
unit_width t h = go (unit_at t) refl
  where
    go : (u : AnyUnit) → unit_at t ≡ u → unit_len u ≡ width (char_at t)
    go (unit.Char c n) e = sym (char_unit t c n e).size
    go (unit.Broken n) e = sym (broken_unit t n e).size
    go unit.End e = absurd (let z = ap length (end_unit t e) in omega arith)
