-- Document 01, "Numbers that come back": what 2 answers is the "length of the longest valid prefix that ends at a character's end".
-- Assumes nothing.
use Prim.Native.Nat.{ℕ, zero, suc, ◌+◌, ◌≤◌, ◌<◌}
use native.Mathlib.Omega.{arith}
use mathlib.Core.Path.{◌≡◌, refl, ap, ◌∙◌}
use mathlib.Core.List.{List, [], ◌∷◌, ◌++◌}
use mathlib.Core.Bool.{true}
use lib.ListN.{length, take, drop, take-append-drop}
use lib.Seq.{length-take-le, take-nil, take-append-add}
use Rattle.rules.specs.Utf8.{well_formed, Char, width, chars, valid_length, valid}
use Rattle.rules.proofs.Tests.{eqb_same}
use Rattle.rules.proofs.Decoding.{valid_stop, valid_end, valid_most}
use Rattle.rules.proofs.Reading.{flatten, Read, read-chars, flatten-chars}
use Rattle.rules.proofs.Validity.{valid-first, valid-append}

-- the part that is valid is valid by itself
valid_part : (cs : List Char) → Read cs → valid_length (take (valid_length (flatten cs)) (flatten cs)) ≡ valid_length (flatten cs)
valid_part [] r = ap valid_length (take-nil (valid_length []))
valid_part (c ∷ cs) r = go (well_formed s) refl (valid_part cs r.2)
  where
    s : List ℕ
    s = c.bytes ++ flatten cs

    n : ℕ
    n = valid_length (flatten cs)

    go : (w : ℕ) → well_formed s ≡ w → valid_length (take n (flatten cs)) ≡ n → valid_length (take (valid_length s) s) ≡ valid_length s
    go zero e ih = rw (valid_stop s e) (valid_end [] 0 (omega arith))
    go (suc w) e ih =
        let k : 0 < well_formed s = omega arith in
        rw (valid-first c (flatten cs) (flatten cs) r.1 r.0 k, take-append-add c.bytes (flatten cs) n)
        (valid-first c (flatten cs) (take n (flatten cs)) r.1 r.0 k ∙ ap (λ (m : ℕ). width c + m) ih)

-- The first n bytes of a text are its longest prefix of well-formed characters throughout.
pub record Longest (s : List ℕ) (n : ℕ) : Type 0 where
  pub within : n ≤ length s
  pub formed : valid (take n s) ≡ true
  pub most : (m : ℕ) → m ≤ length s → valid (take m s) ≡ true → m ≤ n

pub longest_valid : (s : List ℕ) → Longest s (valid_length s)
longest_valid s = record {
  within = valid_most s;
  formed =
      let e : valid_length (take (valid_length s) s) ≡ valid_length s = rw flatten-chars at (valid_part (chars s) (read-chars s)) in
      rw (e, length-take-le (valid_length s) s (valid_most s)) (eqb_same (valid_length s));
  most = λ m h v. omega (arith, length-take-le m s h, rw take-append-drop at (valid-append (take m s) (drop m s) v));
}
