-- A byte that is none of several keys, as the last arm of a match knows it. Assumes nothing.
use Prim.Native.Nat.{ℕ, ◌<◌}
use mathlib.Core.Path.{◌≡◌, refl, sym, ap, ◌∙◌}
use mathlib.Core.List.{List, [], ◌∷◌}
use mathlib.Core.Bool.{Bool, true, false, ◌||◌}
use mathlib.Core.Logic.{◌⊎◌, inl, inr}
use borrow.Author.Tests.{ne_eqb}
use lib.Dec.{eqb}
use Rattle.rules.specs.Characters.{exclamation, percent, round_open, round_close, star, plus, comma, dash, dot, slash, colon, semicolon, less, equals, greater, question, at, square_open, backslash, square_close, caret, curly_open, bar, curly_close}
use Rattle.rules.specs.Kinds.{ErrorToken}
use Rattle.rules.specs.Operators.{single, pair}
use Rattle.lexer.specs.FirstBytes.{among, pairs}
use Rattle.rules.proofs.Tests.{clash, eqb-true, or_cases}
use Rattle.rules.proofs.Tables.{agree_at}

-- none of the arms before was taken: what the last arm knows of its byte, the last key first
abbrev pub Missed : List ℕ → ℕ → Type 0
Missed [] a = Unit {0}
Missed (k ∷ ks) a = Missed ks a × (a ≡ k → ⊥)

pub missed_all : (ks : List ℕ) (a : ℕ) → Missed ks a → among ks a ≡ false
missed_all [] a m = refl
missed_all (k ∷ ks) a m = rw (ne_eqb a k m.1) (missed_all ks a m.0)

-- no key that is among them
pub not-among : (ks : List ℕ) (a : ℕ) → among ks a ≡ false → (k : ℕ) → among ks k ≡ true → eqb a k ≡ false
not-among ks a m k e = go (eqb a k) refl
  where
    go : (b : Bool) → eqb a k ≡ b → b ≡ false
    go false q = refl
    go true q = clash e (ap (among ks) (sym (eqb-true q)) ∙ m)

pub missed : (ks : List ℕ) (a : ℕ) → Missed ks a → (k : ℕ) → among ks k ≡ true → eqb a k ≡ false
missed ks a m = not-among ks a (missed_all ks a m)

-- the keys of `single`, the last first
abbrev pub singles : List ℕ
singles =
    at ∷ bar ∷ greater ∷ less ∷ exclamation ∷ equals ∷ caret ∷ colon ∷ question ∷ percent ∷ slash ∷ dash ∷ plus ∷ star ∷ dot ∷ semicolon ∷ comma
    ∷ curly_close ∷ curly_open ∷ square_close ∷ square_open ∷ round_close ∷ round_open ∷ []

-- a byte of ASCII that no arm takes is by itself an error: computed at all 128
pub single_other : (a : ℕ) → a < 0x80 → Missed singles a → single a ≡ ErrorToken
unfolding single
single_other a l m = go (or_cases (eqb (single a) ErrorToken) (among singles a) (agree_at (λ k. eqb (single k) ErrorToken || among singles k) (λ k. true) 128 refl a l))
  where
    go : (eqb (single a) ErrorToken ≡ true) ⊎ (among singles a ≡ true) → single a ≡ ErrorToken
    go (inl e) = eqb-true e
    go (inr e) = clash e (missed_all singles a m)

pub pair_other : (a b : ℕ) → among pairs a ≡ false → pair a b ≡ 0
unfolding pair
pair_other a b m =
    let n = not-among pairs a m in
    simp (n exclamation refl, n less refl, n dash refl, n colon refl, n bar refl, n at refl, n greater refl, n backslash refl, n equals refl)
