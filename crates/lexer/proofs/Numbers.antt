-- Parts of a text that are ASCII, and the answers of rules 6 and 7 over them. Assumes nothing.
use Prim.Native.Nat.{ℕ, ◌+◌, ◌-◌, ◌<◌}
use native.Mathlib.Omega.{arith}
use mathlib.Core.Path.{◌≡◌, refl, sym, ap, ◌∙◌}
use mathlib.Core.List.{List}
use mathlib.Core.Bool.{Bool, true, false, cond, ◌&&◌}
use lib.Dec.{eqb}
use lib.ListN.{length, get_or, take, drop}
use Rattle.rules.specs.Utf8.{Char, chars}
use Rattle.rules.specs.Classes.{hex_digit}
use Rattle.rules.specs.Characters.{zero_digit, one_digit, capital_b, capital_x, small_b, small_x}
use Rattle.rules.specs.Kinds.{Number, BareWord, ErrorWrongNumber}
use Rattle.rules.specs.Lexeme.{first, is, run}
use Rattle.rules.specs.Numbers.{either, opening, figures, number_word, starts_suffix, all_chars, closing, number}
use Rattle.rules.proofs.Numbers.{closing-number, closing_word, number_well, number_wrong}
use Rattle.rules.proofs.NumberParts.{choose}
use Rattle.rules.proofs.NumberBytes.{LeadAt, ascii_rest, opening_by}
use Rattle.lexer.specs.declared.token.Lexed.{Lexed}
use Rattle.lexer.specs.Ends.{ends_at, opened, AsciiTo}
use Rattle.lexer.proofs.Ends.{lexed_is}

pub lead_to : (s : List ℕ) (i n j : ℕ) → LeadAt s i n → j ≡ i + n → AsciiTo s i j
lead_to s i n j l e = record { from = omega arith; upto = omega (arith, l.fits); ascii = λ k p q. l.ascii k p (omega arith) }

-- how a number opens, by its first three bytes
pub opened_at : (s : List ℕ) (i : ℕ) → i < length s → get_or s i 0 < 0x80
    → opened (opening (chars (drop i s))) ≡ opened (choose (eqb (get_or s i 0) zero_digit && either small_x capital_x (get_or s (i + 1) 0) && hex_digit (get_or s (i + 2) 0)) (eqb (get_or s i 0) zero_digit && either small_b capital_b (get_or s (i + 1) 0) && either zero_digit one_digit (get_or s (i + 2) 0)))
opened_at s i h l = ap opened (opening_by s i h l refl refl)

-- rule 7 after the bytes from i to j
module _ (s : List ℕ) (i j : ℕ) (a : AsciiTo s i j) where
  abbrev cs : List Char
  cs = chars (drop i s)

  rest : drop (j - i) cs ≡ chars (drop j s)
  rest =
      let e : i + (j - i) ≡ j = omega (arith, a.from) in
      ascii_rest s (j - i) i (omega (arith, a.from, a.upto)) (λ k p q. a.ascii k p (omega (arith, a.from))) ∙ ap (λ (n : ℕ). chars (drop n s)) e

  pub stops : {b : Bool} → b ≡ starts_suffix (first (chars (drop j s))) → b ≡ false → record { kind = Number; end = j } ≡ ends_at i (closing (j - i) cs)
  stops e f = lexed_is i (closing-number (j - i) cs (ap (λ (l : List Char). starts_suffix (first l)) rest ∙ sym e ∙ f)) j (omega (arith, a.from))

  module _ {b : Bool} (e : b ≡ starts_suffix (first (chars (drop j s)))) (f : b ≡ true) (end : ℕ) (g : end ≡ j + run number_word (chars (drop j s))) where
    pub goes : {w : Bool} → w ≡ all_chars number_word (take (j - i) cs) → (v : Bool) → w ≡ v → record { kind = cond v BareWord ErrorWrongNumber; end = end } ≡ ends_at i (closing (j - i) cs)
    goes p v q =
        lexed_is i (closing_word (j - i) cs (ap (λ (l : List Char). starts_suffix (first l)) rest ∙ sym e ∙ f) ∙ ap (λ (x : Bool). is (cond x BareWord ErrorWrongNumber) (j - i + run number_word (drop (j - i) cs))) (sym p ∙ q)) end
        (let r = ap (run number_word) rest in omega (arith, a.from))

-- a number whose figures are known, and end at j
module _ (s : List ℕ) (i j : ℕ) (d d' : Bool) (ed : d' ≡ d) where
  abbrev text : List Char
  text = chars (drop i s)

  pub well : (figures d text).well ≡ true → j ≡ i + (figures d text).size → {r : Lexed} → r ≡ ends_at i (closing (j - i) text) → r ≡ ends_at i (number d' text)
  well w e p =
      let n : j - i ≡ (figures d text).size = omega arith in
      p ∙ ap (λ (n : ℕ). ends_at i (closing n text)) n ∙ sym (ap (ends_at i) (ap (λ (x : Bool). number x text) ed ∙ number_well d text w))

  pub wrong : (figures d text).well ≡ false → j ≡ i + (figures d text).size → record { kind = ErrorWrongNumber; end = j } ≡ ends_at i (number d' text)
  wrong w e = lexed_is i (ap (λ (x : Bool). number x text) ed ∙ number_wrong d text w) j e
