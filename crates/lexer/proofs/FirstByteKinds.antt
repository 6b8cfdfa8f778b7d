-- What the first byte of a token tells. Assumes nothing.
use Prim.Native.Nat.{ℕ, ◌-◌, ◌≤◌, ◌<◌}
use native.Mathlib.Omega.{arith}
use native.Mathlib.Decide.{dec_lt}
use mathlib.Core.Path.{◌≡◌, refl, ap, ◌∙◌}
use mathlib.Core.List.{[], ◌∷◌}
use mathlib.Core.Bool.{Bool, true, false, not, ◌&&◌, ◌||◌}
use mathlib.Core.Logic.{◌⊎◌, inl, inr}
use borrow.Author.Tests.{le-ltb, le-leb, lt-ltb, eq-eqb, not-true}
use lib.Dec.{leb, ltb, eqb}
use Rattle.rules.specs.Tables.{white_space_table}
use Rattle.rules.specs.Classes.{in_ranges, white_space, digit}
use Rattle.rules.specs.Characters.{double_quote, dollar, quote, back_quote}
use Rattle.rules.specs.Kinds.{NoToken, Whitespace, Comment, Number, BareWord}
use Rattle.rules.specs.Operators.{single}
use Rattle.rules.specs.Words.{starts_word}
use Rattle.rules.specs.Dollars.{tag_byte}
use Rattle.rules.proofs.Tests.{clash, eqb-true, or_cases, and_both}
use Rattle.rules.proofs.Tables.{agree, agree_at}
use Rattle.lexer.specs.FirstBytes.{among, bodies, longer, first_byte_kind, Operates}
use Rattle.lexer.proofs.Classes.{ascii_tag}

past_ascii : (a : ℕ) → 0x80 ≤ a → first_byte_kind a ≡ NoToken
unfolding first_byte_kind
past_ascii a h = rw (le-ltb a 0x80 h)

-- what a kind tells of the byte: computed at all of ASCII
tells : (t p : ℕ → Bool) → agree (λ a. not (t (first_byte_kind a)) || p a) (λ a. true) 128 ≡ true → t NoToken ≡ false → (a : ℕ) → t (first_byte_kind a) ≡ true → (a < 0x80) × (p a ≡ true)
tells t p e n a h = go (dec_lt a 0x80)
  where
    by : (not (t (first_byte_kind a)) ≡ true) ⊎ (p a ≡ true) → p a ≡ true
    by (inl x) = clash h (not-true _ x)
    by (inr x) = x

    go : Dec (a < 0x80) → (a < 0x80) × (p a ≡ true)
    go (yes l) = (l, by (or_cases (not (t (first_byte_kind a))) (p a) (agree_at (λ a. not (t (first_byte_kind a)) || p a) (λ a. true) 128 e a l)))
    go (no l) = clash h (ap t (past_ascii a (omega arith)) ∙ n)

pub lead_word : (a : ℕ) → first_byte_kind a ≡ BareWord → (a < 0x80) × (starts_word a ≡ true)
unfolding first_byte_kind single
lead_word a e = tells (λ k. eqb k BareWord) starts_word refl refl a (eq-eqb (first_byte_kind a) BareWord e)

pub lead-space : (a : ℕ) → first_byte_kind a ≡ Whitespace → (a < 0x80) × (white_space a ≡ true)
unfolding first_byte_kind single white_space in_ranges white_space_table
lead-space a e = tells (λ k. eqb k Whitespace) white_space refl refl a (eq-eqb (first_byte_kind a) Whitespace e)

pub lead-number : (a : ℕ) → first_byte_kind a ≡ Number → (a < 0x80) × (digit a ≡ true)
unfolding first_byte_kind single
lead-number a e = tells (λ k. eqb k Number) digit refl refl a (eq-eqb (first_byte_kind a) Number e)

pub lead_no_comment : (a : ℕ) → first_byte_kind a ≡ Comment → ⊥
unfolding first_byte_kind single
lead_no_comment a e = clash (tells (λ k. eqb k Comment) (λ a. false) refl refl a (eq-eqb (first_byte_kind a) Comment e)).1 refl

-- where the first byte tells no kind a body follows, or it is past ASCII
pub lead_none : (a : ℕ) → first_byte_kind a ≡ NoToken → among (dollar ∷ back_quote ∷ double_quote ∷ quote ∷ []) a ≡ false → 0x80 ≤ a
unfolding first_byte_kind single
lead_none a e m = go (dec_lt a 0x80)
  where
    bodied : ℕ → Bool
    bodied a = not (eqb (first_byte_kind a) NoToken) || among (dollar ∷ back_quote ∷ double_quote ∷ quote ∷ []) a

    by : (not (eqb (first_byte_kind a) NoToken) ≡ true) ⊎ (among (dollar ∷ back_quote ∷ double_quote ∷ quote ∷ []) a ≡ true) → 0x80 ≤ a
    by (inl x) = clash (eq-eqb (first_byte_kind a) NoToken e) (not-true _ x)
    by (inr x) = clash x m

    go : Dec (a < 0x80) → 0x80 ≤ a
    go (yes l) = by (or_cases (not (eqb (first_byte_kind a) NoToken)) (among (dollar ∷ back_quote ∷ double_quote ∷ quote ∷ []) a) (agree_at bodied (λ a. true) 128 refl a l))
    go (no l) = omega arith

-- any other kind is an operator's
pub lead_operates : (a : ℕ) → BareWord < first_byte_kind a → Operates a
unfolding first_byte_kind single white_space in_ranges white_space_table
lead_operates a h =
    let t = tells (λ k. ltb BareWord k) (λ a. not (white_space a) && (not (tag_byte a) && not (among bodies a))) refl refl a (lt-ltb BareWord (first_byte_kind a) h) in
    let x = and_both (not (white_space a)) (not (tag_byte a) && not (among bodies a)) t.1 in
    let y = and_both (not (tag_byte a)) (not (among bodies a)) x.1 in
    record { ascii = t.0; space = not-true _ x.0; word = ascii_tag a t.0 ∙ not-true _ y.0; body = not-true _ y.1 }

pub lead_alone : (a : ℕ) → BareWord < first_byte_kind a → first_byte_kind a < 0x80 → (among longer a ≡ false) × (single a ≡ first_byte_kind a)
unfolding first_byte_kind single
lead_alone a h l =
    let t = tells (λ k. ltb BareWord k && ltb k 0x80) (λ a. not (among longer a) && eqb (single a) (first_byte_kind a)) refl refl a (rw (lt-ltb BareWord (first_byte_kind a) h) (lt-ltb (first_byte_kind a) 0x80 l)) in
    let x = and_both (not (among longer a)) (eqb (single a) (first_byte_kind a)) t.1 in
    (not-true _ x.0, eqb-true x.1)

pub lead-longer : (a : ℕ) → 0x80 ≤ first_byte_kind a → single a ≡ first_byte_kind a - 0x80
unfolding first_byte_kind single
lead-longer a h = eqb-true (tells (λ k. leb 0x80 k) (λ a. eqb (single a) (first_byte_kind a - 0x80)) refl refl a (le-leb 0x80 (first_byte_kind a) h)).1
