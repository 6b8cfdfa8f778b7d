-- What the bytes tell: computed at all of them. Assumes nothing.
use Prim.Native.Nat.{ℕ, zero, suc, ◌+◌, ◌*◌, ◌/◌, ◌%◌, ◌^◌, ◌≤◌, ◌<◌}
use native.Mathlib.Omega.{arith}
use native.Mathlib.Nat.{add-zero}
use mathlib.Core.Path.{◌≡◌, refl, sym, ap, ◌∙◌}
use mathlib.Core.List.{List}
use mathlib.Core.Bool.{Bool, true, false, not, cond, ◌&&◌, ◌||◌}
use mathlib.Core.Logic.{◌⊎◌, inl, inr}
use lib.ListN.{get_or}
use lib.Dec.{leb, ltb, eqb}
use borrow.Author.Tests.{not-true, ltb-true, eq-eqb, le-leb}
use Rattle.rules.specs.Characters.{dollar, dot, equals, greater, backslash}
use Rattle.rules.specs.Kinds.{NoToken, Whitespace, Number, BareWord, DollarSign}
use Rattle.rules.specs.Operators.{single}
use Rattle.rules.specs.Words.{starts_word}
use Rattle.rules.specs.Dollars.{tag_byte}
use Rattle.rules.proofs.Tests.{clash, eqb-true, or_cases, and_both}
use Rattle.rules.proofs.Tables.{agree, agree_at}
use Rattle.lexer.specs.FirstBytes.{among, first_byte_kind}
use Rattle.edges.specs.Leads.{before_equals, before_greater, before_others, others, after, minds, plain_kind, lead, told, leads_from, lead_table}

from : (n b k : ℕ) → k < n → get_or (leads_from n b) k 0 ≡ lead (b + k)
unfolding leads_from
from zero b k l = absurd (omega arith)
from (suc n) b zero l = ap lead (sym (add-zero b))
from (suc n) b (suc k) l = from n (b + 1) k (omega arith) ∙ ap lead (omega arith)

pub in_table : (b : ℕ) → b < 256 → get_or lead_table b 0 ≡ lead b
unfolding lead_table
in_table b l = from 256 0 b l ∙ ap lead (omega arith)

pub lead_small : (b : ℕ) → b < 256 → lead b < 0x2_0000
unfolding lead minds after plain_kind first_byte_kind single
lead_small b l = ltb-true (lead b) 0x2_0000 (agree_at (λ b. ltb (lead b) 0x2_0000) (λ b. true) 256 refl b l)

-- the parts of a number
parts : (b : ℕ) → b < 256 → (lead b / 8192 ≡ after b) × (lead b % 64 ≡ plain_kind b)
unfolding lead minds after plain_kind first_byte_kind single
parts b l =
    let t = and_both (eqb (lead b / 8192) (after b)) (eqb (lead b % 64) (plain_kind b)) (agree_at (λ b. eqb (lead b / 8192) (after b) && eqb (lead b % 64) (plain_kind b)) (λ b. true) 256 refl b l) in
    (eqb-true t.0, eqb-true t.1)

-- what a byte after a token is not
small : (b : ℕ) → b < 256 → after b < 7
unfolding after
small b l = ltb-true (after b) 7 (agree_at (λ b. ltb (after b) 7) (λ b. true) 256 refl b l)

implied : (x y : Bool) → (not x || y) ≡ true → x ≡ true → y ≡ true
implied true y h e = h
implied false y h e = clash e refl

-- A first byte that minds nothing of a byte of the class c.
abbrev minded : ℕ → ℕ → Bool
minded a c = not (eqb (lead a / 64 / 2 ^ c % 2) 0)

module _ (p : ℕ → ℕ → Bool) where
  abbrev pair : ℕ → Bool
  pair n = minded (n / 8) (n % 8) || p (n / 8) (n % 8)

  pub unminded : agree pair (λ n. true) 2048 ≡ true → (a c : ℕ) → a < 256 → c < 8 → eqb (lead a / 64 / 2 ^ c % 2) 0 ≡ true → p a c ≡ true
  unminded f a c l m e =
      let x : (a * 8 + c) / 8 ≡ a = omega arith in
      let y : (a * 8 + c) % 8 ≡ c = omega arith in
      let t = agree_at pair (λ n. true) 2048 f (a * 8 + c) (omega arith) in
      go (or_cases (minded a c) (p a c) (sym (ap (λ (u : ℕ). minded u ((a * 8 + c) % 8) || p u ((a * 8 + c) % 8)) x ∙ ap (λ (v : ℕ). minded a v || p a v) y) ∙ t))
    where
      go : (minded a c ≡ true) ⊎ (p a c ≡ true) → p a c ≡ true
      go (inl q) = clash e (not-true _ q)
      go (inr q) = q

-- What is known where nothing is minded: of the first byte, and of the byte after the token.
module _ (a b : ℕ) (la : a < 256) (lb : b < 256) (t : told (lead a) (lead b) ≡ true) where
  at_class : eqb (lead a / 64 / 2 ^ after b % 2) 0 ≡ true
  at_class = sym (ap (λ (c : ℕ). eqb (lead a / 64 / 2 ^ c % 2) 0) (parts b lb).0) ∙ t

  class_small : after b < 8
  class_small = let h = small b lb in omega arith

  knows : (p : ℕ → ℕ → Bool) → agree (pair p) (λ n. true) 2048 ≡ true → p a (after b) ≡ true
  knows p f = unminded p f a (after b) la class_small at_class

  -- a kind that does not mind a class is met at another class
  module _ (k : ℕ) (c : ℕ) (f : agree (pair (λ a d. not (eqb (first_byte_kind a) k) || not (eqb d c))) (λ n. true) 2048 ≡ true) where
    not_class : first_byte_kind a ≡ k → eqb (after b) c ≡ false
    not_class e = not-true _ (implied (eqb (first_byte_kind a) k) (not (eqb (after b) c)) (knows (λ a d. not (eqb (first_byte_kind a) k) || not (eqb d c)) f) (eq-eqb (first_byte_kind a) k e))

  -- only a `$` is told of those at which a body or a character past ASCII starts
  pub some_kind_lem : first_byte_kind a ≡ NoToken → a ≡ dollar
  unfolding lead minds after plain_kind first_byte_kind single
  some_kind_lem e = let k = knows (λ a c. ltb 6 c || (not (eqb (first_byte_kind a) NoToken) || eqb a dollar)) refl in go (ltb 6 (after b)) refl k
    where
      go : (x : Bool) → ltb 6 (after b) ≡ x → (x || (not (eqb (first_byte_kind a) NoToken) || eqb a dollar)) ≡ true → a ≡ dollar
      go true q k = let l = ltb-true 6 (after b) q in let h = small b lb in absurd (omega arith)
      go false q k = eqb-true (implied (eqb (first_byte_kind a) NoToken) (eqb a dollar) k (eq-eqb (first_byte_kind a) NoToken e))

  pub of_dollar : a ≡ dollar → (eqb (after b) 1 ≡ false) × (eqb (after b) 5 ≡ false) × (eqb (after b) 6 ≡ false)
  unfolding lead minds after plain_kind first_byte_kind single
  of_dollar e = (other 1 refl, other 5 refl, other 6 refl)
    where
      other : (c : ℕ) → agree (pair (λ a d. not (eqb a dollar) || not (eqb d c))) (λ n. true) 2048 ≡ true → eqb (after b) c ≡ false
      other c f = not-true _ (implied (eqb a dollar) (not (eqb (after b) c)) (knows (λ a d. not (eqb a dollar) || not (eqb d c)) f) (eq-eqb a dollar e))

  pub of_word : first_byte_kind a ≡ BareWord → (eqb (after b) 4 ≡ false) × (eqb (after b) 1 ≡ false)
  unfolding lead minds after plain_kind first_byte_kind single
  of_word e = (not_class BareWord 4 refl e, not_class BareWord 1 refl e)

  pub of_number : first_byte_kind a ≡ Number → (eqb (after b) 4 ≡ false) × (eqb (after b) 1 ≡ false) × (eqb (after b) 2 ≡ false)
  unfolding lead minds after plain_kind first_byte_kind single
  of_number e = (not_class Number 4 refl e, not_class Number 1 refl e, not_class Number 2 refl e)

  pub of_space : first_byte_kind a ≡ Whitespace → eqb (after b) 4 ≡ false
  unfolding lead minds after plain_kind first_byte_kind single
  of_space e = not_class Whitespace 4 refl e

  pub not-backslash : 0x80 ≤ first_byte_kind a → eqb a backslash ≡ false
  unfolding lead minds after plain_kind first_byte_kind single
  not-backslash h =
      let k = knows (λ a c. ltb 6 c || (not (leb 0x80 (first_byte_kind a)) || not (eqb a backslash))) refl in
      go (ltb 6 (after b)) refl k
    where
      go : (x : Bool) → ltb 6 (after b) ≡ x → (x || (not (leb 0x80 (first_byte_kind a)) || not (eqb a backslash))) ≡ true → eqb a backslash ≡ false
      go true q k = let l = ltb-true 6 (after b) q in let h = small b lb in absurd (omega arith)
      go false q k = not-true _ (implied (leb 0x80 (first_byte_kind a)) (not (eqb a backslash)) k (le-leb 0x80 (first_byte_kind a) h))

  -- first bytes that mind a class
  module _ (ks : List ℕ) (c : ℕ) (f : agree (pair (λ a d. not (among ks a) || not (eqb d c))) (λ n. true) 2048 ≡ true) where
    not_after : among ks a ≡ true → eqb (after b) c ≡ false
    not_after e = not-true _ (implied (among ks a) (not (eqb (after b) c)) (knows (λ a d. not (among ks a) || not (eqb d c)) f) e)

  pub of_equals : among before_equals a ≡ true → eqb (after b) 6 ≡ false
  unfolding lead minds after plain_kind first_byte_kind single
  of_equals = not_after before_equals 6 refl

  pub of_greater : among before_greater a ≡ true → eqb (after b) 2 ≡ false
  unfolding lead minds after plain_kind first_byte_kind single
  of_greater = not_after before_greater 2 refl

  pub of_others : among before_others a ≡ true → eqb (after b) 3 ≡ false
  unfolding lead minds after plain_kind first_byte_kind single
  of_others = not_after before_others 3 refl

-- what the byte after a token is not
module _ (b : ℕ) (l : b < 256) where
  byte : (p : ℕ → Bool) (c : ℕ) → agree (λ b. eqb (after b) c || p b) (λ b. true) 256 ≡ true → eqb (after b) c ≡ false → p b ≡ true
  byte p c f e = go (or_cases (eqb (after b) c) (p b) (agree_at (λ b. eqb (after b) c || p b) (λ b. true) 256 f b l))
    where
      go : (eqb (after b) c ≡ true) ⊎ (p b ≡ true) → p b ≡ true
      go (inl q) = clash q e
      go (inr q) = q

  pub not_wide : eqb (after b) 4 ≡ false → b < 0x80
  unfolding after
  not_wide e = ltb-true b 0x80 (byte (λ b. ltb b 0x80) 4 refl e)

  pub not-letter : eqb (after b) 1 ≡ false → starts_word b ≡ false
  unfolding after
  not-letter e = not-true _ (byte (λ b. not (starts_word b)) 1 refl e)

  pub not-dot : eqb (after b) 2 ≡ false → eqb b dot ≡ false
  unfolding after
  not-dot e = not-true _ (byte (λ b. not (eqb b dot)) 2 refl e)

  pub not_tag : eqb (after b) 1 ≡ false → eqb (after b) 5 ≡ false → tag_byte b ≡ false
  unfolding after
  not_tag e f =
      let u = byte (λ b. eqb (after b) 5 || not (tag_byte b)) 1 refl e in
      go (or_cases (eqb (after b) 5) (not (tag_byte b)) u)
    where
      go : (eqb (after b) 5 ≡ true) ⊎ (not (tag_byte b) ≡ true) → tag_byte b ≡ false
      go (inl q) = clash q f
      go (inr q) = not-true _ q

  pub not-dollar : eqb (after b) 6 ≡ false → eqb b dollar ≡ false
  unfolding after
  not-dollar e = not-true _ (byte (λ b. not (eqb b dollar)) 6 refl e)

  pub not-equals : eqb (after b) 6 ≡ false → eqb b equals ≡ false
  unfolding after
  not-equals e = not-true _ (byte (λ b. not (eqb b equals)) 6 refl e)

  pub not-greater : eqb (after b) 2 ≡ false → eqb b greater ≡ false
  unfolding after
  not-greater e = not-true _ (byte (λ b. not (eqb b greater)) 2 refl e)

  pub not_other : eqb (after b) 3 ≡ false → among others b ≡ false
  unfolding after
  not_other e = not-true _ (byte (λ b. not (among others b)) 3 refl e)

pub kind_of : (b : ℕ) → b < 256 → lead b % 64 ≡ plain_kind b
kind_of b l = (parts b l).1

-- of a byte that tells a kind
pub kind_told : (b : ℕ) → (first_byte_kind b ≡ NoToken → ⊥) → plain_kind b ≡ first_byte_kind b % 128
unfolding plain_kind first_byte_kind
kind_told b n = go (eqb b dollar) refl
  where
    go : (x : Bool) → eqb b dollar ≡ x → cond x DollarSign (first_byte_kind b % 128) ≡ first_byte_kind b % 128
    go true e = let q : b ≡ dollar = eqb-true e in absurd (n (ap first_byte_kind q))
    go false e = refl

pub kind_small : (b : ℕ) → b < 256 → first_byte_kind b < 256
unfolding first_byte_kind single
kind_small b l = ltb-true (first_byte_kind b) 256 (agree_at (λ b. ltb (first_byte_kind b) 256) (λ b. true) 256 refl b l)
