-- The size of a lexeme: at least one byte, within the text, and whole characters.
use Prim.Native.Nat.{ℕ, ◌+◌, ◌-◌, ◌≤◌}
use native.Mathlib.Omega.{arith}
use mathlib.Core.Path.{◌≡◌, sym, ap, ◌∙◌, subst}
use mathlib.Core.List.{List, ◌∷◌, ◌++◌}
use mathlib.Core.Bool.{Bool}
use lib.ListN.{length, take, drop, length-append}
use lib.Seq.{take_at, drop_at}
use Rattle.rules.specs.Utf8.{Char, width, char_at, chars_after, chars}
use Rattle.rules.specs.Lexeme.{Lexeme}
use Rattle.rules.specs.Tokens.{lexeme, lexeme_of}
use Rattle.rules.proofs.Reading.{Read, flatten, widths, flatten-append, length-flatten, read-chars, flatten-chars, read-append, chars-flatten}
use Rattle.rules.proofs.Step.{Step}
use Rattle.rules.proofs.Masked.{step}

-- a text that is not empty begins with whole characters that are its first token
pub record Token-at (d : Bool) (s : List ℕ) : Type 0 where
  pub chosen : List Char
  pub rest : List Char
  pub whole : chars s ≡ chosen ++ rest
  pub size : (lexeme d s).size ≡ widths chosen
  pub least : 1 ≤ (lexeme d s).size
  pub most : (lexeme d s).size ≤ length s
  pub text : take (lexeme d s).size s ≡ flatten chosen
  pub after : drop (lexeme d s).size s ≡ flatten rest
  pub next : chars (drop (lexeme d s).size s) ≡ rest

pub token-at : (d : Bool) (b : ℕ) (s : List ℕ) → Token-at d (b ∷ s)
unfolding chars_after
token-at d b s = go (step d (char_at (b ∷ s)) (chars_after (width (char_at (b ∷ s)) - 1) s) (read-chars (b ∷ s)))
  where
    go : Step d (chars (b ∷ s)) → Token-at d (b ∷ s)
    go p =
        let us : List Char = p.head ∷ p.body in
        let r : Read (us ++ p.tail) = subst Read p.whole (read-chars (b ∷ s)) in
        let wide = r.1 in
        let n : ℕ = (lexeme d (b ∷ s)).size in
        let size : n ≡ widths us = ap (λ (l : Lexeme). l.size) (ap (lexeme_of d) p.whole ∙ p.lexes) in
        let text : b ∷ s ≡ flatten us ++ flatten p.tail = sym (flatten-chars (b ∷ s)) ∙ ap flatten p.whole ∙ flatten-append us p.tail in
        let l : length (flatten us) ≡ n = length-flatten us ∙ sym size in
        let after : drop n (b ∷ s) ≡ flatten p.tail = ap (drop n) text ∙ drop_at (flatten us) (flatten p.tail) n l in
        record {
          chosen = us;
          rest = p.tail;
          whole = p.whole;
          size = size;
          least = omega arith;
          most = let k : length (b ∷ s) ≡ length (flatten us) + length (flatten p.tail) = ap length text ∙ length-append (flatten us) (flatten p.tail) in omega arith;
          text = ap (take n) text ∙ take_at (flatten us) (flatten p.tail) n l;
          after = after;
          next = ap chars after ∙ chars-flatten p.tail (read-append us p.tail r);
        }
