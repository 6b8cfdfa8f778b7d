-- A text is valid exactly if each of its characters is well-formed, and what is valid of a text goes on after a valid one.
use Prim.Native.Nat.{ℕ, zero, suc, ◌+◌, ◌≤◌, ◌<◌}
use native.Mathlib.Omega.{arith}
use mathlib.Core.Path.{◌≡◌, refl, sym, ap, ◌∙◌, subst}
use mathlib.Core.List.{List, [], ◌∷◌, ◌++◌, append_assoc, append-nil}
use mathlib.Core.Bool.{true}
use mathlib.Core.Logic.{◌↔◌}
use lib.ListN.{length, length-append, length-take, get_or-append}
use lib.Seq.{drop-append_seam}
use Rattle.rules.specs.Utf8.{formed, well_formed, Char, width, char_of, char_at, chars, valid_length, valid}
use Rattle.rules.proofs.Decoding.{form_of, valid-cons, valid_stop, valid_end}
use Rattle.rules.proofs.Formed.{formed_own}
use Rattle.rules.proofs.Reading.{flatten, Read, read-chars, flatten-chars}
use Rattle.rules.proofs.Proper.{formed_same, size_is}
use Rattle.rules.proofs.Masks.{Masks, end, keep, hide, hashes, masks_under}
use Rattle.rules.proofs.Tests.{eqb-true, eqb_same}

abbrev pub Formed : List Char → Type 0
Formed [] = Unit {0}
Formed (c ∷ cs) = (0 < well_formed (c.bytes ++ flatten cs)) × Formed cs

-- a character that is read has at least the bytes that its form has
form_least : (c : Char) (r : List ℕ) → 0 < width c → char_at (c.bytes ++ r) ≡ c → well_formed (c.bytes ++ r) ≤ width c
form_least c r h e = size_is c.bytes r (well_formed (c.bytes ++ r)) (form_of (c.bytes ++ r)) h (ap (λ (d : Char). d.bytes) e)

char_of_most : (w : ℕ) (s : List ℕ) → 0 < w → length (char_of w s).bytes ≤ w
unfolding char_of
char_of_most zero s h = absurd (omega arith)
char_of_most (suc w) s h = simp length-take (omega arith)

form_width : (c : Char) (r : List ℕ) → 0 < width c → char_at (c.bytes ++ r) ≡ c → 0 < well_formed (c.bytes ++ r) → well_formed (c.bytes ++ r) ≡ width c
form_width c r h e k =
    let a = form_least c r h e in
    let b = char_of_most (well_formed (c.bytes ++ r)) (c.bytes ++ r) k in
    let l : width (char_at (c.bytes ++ r)) ≡ width c = ap width e in
    omega arith

formed_hashes : (n : ℕ) (vs : List Char) → Formed vs → Formed (hashes n ++ vs)
unfolding formed
formed_hashes zero vs f = f
formed_hashes (suc n) vs f = (omega arith, formed_hashes n vs f)

pub formed_masks : {us vs : List Char} → Read us → Masks us vs → Formed us → Formed vs
formed_masks r end f = tt
formed_masks r (keep c {us} {vs} m) f =
    (subst (λ (n : ℕ). 0 < n) (sym (formed_same c.bytes (flatten us) (flatten vs) (masks_under m) r.1 (form_least c (flatten us) r.1 r.0))) f.0, formed_masks r.2 m f.1)
formed_masks r (hide c n {us} {vs} e m) f = formed_hashes (suc n) vs (formed_masks r.2 m f.1)

-- the valid length by the first character
valid-front : (u r : List ℕ) → 0 < length u → well_formed (u ++ r) ≡ length u → valid_length (u ++ r) ≡ length u + valid_length r
valid-front [] r h e = absurd (omega arith)
valid-front (b ∷ u) r h e = valid-cons (b ∷ (u ++ r)) (length u) (omega arith) e ∙ ap (λ (t : List ℕ). suc (length u) + valid_length t) (drop-append_seam u r)

-- a character that is well-formed before one text is so before any
pub valid-first : (c : Char) (r q : List ℕ) → 0 < width c → char_at (c.bytes ++ r) ≡ c → 0 < well_formed (c.bytes ++ r) → valid_length (c.bytes ++ q) ≡ width c + valid_length q
valid-first c r q h e k =
    let w = form_width c r h e k in
    let own = formed_own (c.bytes ++ r) (c.bytes ++ q) k (λ i l. get_or-append c.bytes q 0 i (omega arith) ∙ sym (get_or-append c.bytes r 0 i (omega arith))) in
    valid-front c.bytes q h (own ∙ w)

-- well-formed characters before a text add their length to what is valid of it
formed-append : (cs : List Char) (q : List ℕ) → Read cs → Formed cs → valid_length (flatten cs ++ q) ≡ length (flatten cs) + valid_length q
formed-append [] q r f = omega arith
formed-append (c ∷ cs) q r f =
    let v = valid-first c (flatten cs) (flatten cs ++ q) r.1 r.0 f.0 in
    rw (append_assoc, length-append) (omega (arith, formed-append cs q r.2 f.1))

pub formed-valid : (cs : List Char) → Read cs → Formed cs → valid (flatten cs) ≡ true
formed-valid cs r f =
    let e : valid_length (flatten cs) ≡ length (flatten cs) = omega (arith, rw append-nil at (formed-append cs [] r f), valid_end [] 0 (omega arith)) in
    rw e (eqb_same (length (flatten cs)))

length-formed : (cs : List Char) → Read cs → valid_length (flatten cs) ≡ length (flatten cs) → Formed cs
length-formed [] r e = tt
length-formed (c ∷ cs) r e = go (well_formed (c.bytes ++ flatten cs)) refl (λ k. length-formed cs r.2 k)
  where
    go : (w : ℕ) → well_formed (c.bytes ++ flatten cs) ≡ w → (valid_length (flatten cs) ≡ length (flatten cs) → Formed cs) → Formed (c ∷ cs)
    go zero ew ih =
        let b = valid_stop (c.bytes ++ flatten cs) ew in
        let l = length-append c.bytes (flatten cs) in
        let h = r.1 in
        absurd (omega arith)
    go (suc w) ew ih =
        let k : 0 < well_formed (c.bytes ++ flatten cs) = omega arith in
        let b = valid-first c (flatten cs) (flatten cs) r.1 r.0 k in
        let l = length-append c.bytes (flatten cs) in
        (k, ih (omega arith))

valid-formed : (cs : List Char) → Read cs → valid (flatten cs) ≡ true → Formed cs
valid-formed cs r e = length-formed cs r (eqb-true e)

-- A text is valid exactly if each of its characters is well-formed.
pub valid-chars : (s : List ℕ) → (valid s ≡ true) ↔ Formed (chars s)
valid-chars s = (λ e. valid-formed (chars s) (read-chars s) (ap valid (flatten-chars s) ∙ e), λ f. rw flatten-chars at (formed-valid (chars s) (read-chars s) f))

-- A valid text before another adds its length to what is valid of that.
pub valid-append : (p q : List ℕ) → valid p ≡ true → valid_length (p ++ q) ≡ length p + valid_length q
valid-append p q e = rw flatten-chars at (formed-append (chars p) q (read-chars p) ((valid-chars p).0 e))
