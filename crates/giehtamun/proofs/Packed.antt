-- What is packed fits, and says what was written. Assumes nothing.
use Prim.Native.Nat.{ℕ, ◌/◌, ◌%◌, ◌^◌, ◌<◌}
use native.Mathlib.Omega.{arith}
use mathlib.Core.Path.{◌≡◌, ap, ◌∙◌}
use mathlib.Core.List.{List}
use Rattle.rules.specs.Widths.{extra_end, value_end, half_end, Fits}
use Rattle.rules.specs.Answers.{Written}
use Rattle.rules.specs.Cases.{Answer, number_of, value_of, written}
use Rattle.giehtamun.specs.Packed.{packed, packed_written, packed_halves}

module _ (a : Answer) (list : List ℕ) (w : Written) (e : written a list ≡ w) where
  pub fits : Fits w.number w.value → Fits (number_of a) (value_of a)
  fits s =
      let n = ap (λ (x : Written). x.number) e in
      let v = ap (λ (x : Written). x.value) e in
      (omega (arith, s.0), omega (arith, s.1))

  pub is-packed : (r : ℕ) → r ≡ packed (number_of a) 0 (value_of a) → packed_written r list w
  is-packed r p = (p ∙ ap (λ (x : Written). packed x.number 0 x.value) e, ap (λ (x : Written). x.buffer) e)

-- Nothing is lost: each part is read back by division, as the header's helpers do.
module _ (number extra value : ℕ) (k : extra < extra_end) (v : value < value_end) where
  pub number-back : packed number extra value / 2 ^ 56 ≡ number
  number-back = omega arith

  pub extra_back : packed number extra value / 2 ^ 48 % 2 ^ 8 ≡ extra
  extra_back = omega arith

  pub value_back : packed number extra value % 2 ^ 48 ≡ value
  value_back = omega arith

module _ (number first second : ℕ) (f : first < half_end) (s : second < half_end) where
  pub number_of_halves : packed_halves number first second / 2 ^ 56 ≡ number
  number_of_halves = omega arith

  pub first_back : packed_halves number first second / 2 ^ 28 % 2 ^ 28 ≡ first
  first_back = omega arith

  pub second_back : packed_halves number first second % 2 ^ 28 ≡ second
  second_back = omega arith
