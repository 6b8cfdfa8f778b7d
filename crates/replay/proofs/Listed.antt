-- A listing with the number 0 has the whole list at its front, and what agrees with that is the list. Assumes nothing.
use Prim.Native.Nat.{ℕ, ◌*◌}
use mathlib.Core.Path.{◌≡◌, refl, sym, ap, ◌∙◌}
use mathlib.Core.Bool.{Bool, true, false, not, cond}
use mathlib.Core.List.{List}
use native.Mathlib.Omega.{arith}
use lib.ListN.{length, take, drop}
use lib.Dec.{ltb}
use lib.Seq.{take_at}
use Rattle.rules.specs.Utf8.{valid_length, valid}
use Rattle.rules.specs.Limits.{token_bytes}
use Rattle.rules.specs.Tokens.{Token}
use Rattle.rules.specs.Listing.{full, whole_list, pack, room}
use Rattle.rules.specs.Answers.{Written, Done, TooLong, NotUtf8, NoRoom, NoMode, too_long, no_mode, refused, filled, stored, too_long_list, listing}
use Rattle.rules.proofs.Listing.{length-pack}
use Rattle.rules.specs.Cases.{Answer, number_of, value_of, written}

second : (b : Bool) (x y : Written) → (x.number ≡ 0 → ⊥) → (cond b x y).number ≡ 0 → cond b x y ≡ y
second true x y h e = absurd (h e)
second false x y h e = refl

module _ (ts : List Token) (k : ℕ) (list : List ℕ) where
  stored_whole : (stored ts k list).number ≡ 0 → stored ts k list ≡ record { number = k; value = length ts; buffer = filled (pack ts) list }
  unfolding stored
  stored_whole e = second (ltb (room list) (length ts)) (refused NoRoom (length ts) list) _ (λ z. absurd (omega (arith, z))) e

too_long_lem : (list : List ℕ) → (stored too_long_list TooLong list).number ≡ 0 → ⊥
too_long_lem list e =
    let z : ◌≡◌ {A = ℕ} 0 1 = sym e ∙ ap (λ (w : Written). w.number) (stored_whole too_long_list TooLong list e) in
    absurd (omega (arith, z))

module _ (mode : ℕ) (text list : List ℕ) (e : (listing mode text list).number ≡ 0) where
  listing-stored : listing mode text list ≡ stored (whole_list mode text) Done list
  unfolding listing
  listing-stored =
      let n₀ = second (no_mode mode) (refused NoMode 0 list) _ (λ z. absurd (omega (arith, z))) e in
      let e₁ = sym (ap (λ (w : Written). w.number) n₀) ∙ e in
      let n₁ = second (too_long text) (stored too_long_list TooLong list) _ (too_long_lem list) e₁ in
      let e₂ = sym (ap (λ (w : Written). w.number) n₁) ∙ e₁ in
      n₀ ∙ n₁ ∙ second (not (valid text)) (refused NotUtf8 (valid_length text) list) _ (λ z. absurd (omega (arith, z))) e₂

  listing_whole : listing mode text list ≡ record { number = 0; value = length (whole_list mode text); buffer = filled (pack (whole_list mode text)) list }
  listing_whole =
      listing-stored
      ∙ stored_whole (whole_list mode text) Done list (sym (ap (λ (w : Written). w.number) listing-stored) ∙ e)

  front : (n : ℕ) → n ≡ (listing mode text list).value * token_bytes → take n (listing mode text list).buffer ≡ pack (whole_list mode text)
  front n h =
      let ts = whole_list mode text in
      let v = ap (λ (w : Written). w.value) listing_whole in
      let b = ap (λ (w : Written). w.buffer) listing_whole in
      ap (take n) b ∙ take_at (pack ts) (drop (length (pack ts)) list) n (omega (arith, length-pack ts, v, h))

pub agreed : (text own₀ own list : List ℕ) (answer : Answer) (mode tokens : ℕ) → mode ≡ full → written answer own ≡ listing mode text own₀ → number_of answer ≡ 0 → value_of answer ≡ tokens
    → length list ≡ tokens * token_bytes → take (length list) own ≡ list → list ≡ pack (whole_list full text)
agreed text own₀ own list answer mode tokens m w n v l t =
    let e = w ∙ ap (λ (k : ℕ). listing k text own₀) m in
    let z = sym (ap (λ (x : Written). x.number) e) ∙ n in
    let k = ap (λ (x : Written). x.value) e in
    sym t ∙ ap (λ (x : Written). take (length list) x.buffer) e ∙ front full text own₀ z (length list) (omega (arith, l, k, v))
