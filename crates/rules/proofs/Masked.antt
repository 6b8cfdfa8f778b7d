-- The masked copy of a text has the text's tokens.
use Prim.Native.Nat.{ℕ, ◌<◌}
use native.Mathlib.Decide.{dec_lt}
use native.Mathlib.Omega.{arith}
use mathlib.Core.Path.{◌≡◌, refl, sym, ap, ◌∙◌, subst}
use mathlib.Core.Logic.{◌↔◌}
use mathlib.Core.List.{List, ◌∷◌}
use mathlib.Core.Bool.{Bool, true, false, cond}
use lib.ListN.{length, get_or, drop, get_or-eq_default}
use Rattle.rules.specs.Utf8.{Char, chars, valid}
use Rattle.rules.specs.Limits.{mask_byte}
use Rattle.rules.specs.Lexeme.{first}
use Rattle.rules.specs.Tokens.{rule, Rule, spaces, dashes, slash_star, numeral, letters, quoted, double_quoted, back_quoted, curly_quoted, curly_double_quoted, dollars, others, Token, tokens, tokens_after, tokens_from, after_dot_at}
use Rattle.rules.specs.Masking.{masked, hidden, mask_tokens, hidden_in}
use Rattle.rules.proofs.Visible.{Fits, fits_length, mask_tokens-at, hidden_in-masked, mask_tokens_agree}
use Rattle.rules.proofs.Reading.{Read, flatten, read-chars, flatten-chars, length-flatten}
use Rattle.rules.proofs.Masks.{Masks, kept_masks, widths_masks, read_masks}
use Rattle.rules.proofs.Validity.{valid-chars, formed-valid, formed_masks}
use Rattle.rules.proofs.Step.{Step}
use Rattle.rules.proofs.Rules.{Why, why, dot_free}
use Rattle.rules.proofs.Runs.{space-step, letters_step, dashes_step}
use Rattle.rules.proofs.Quotes.{quote-step, double_quote-step, back_quote-step, curly_quote_step, curly_double_quote_step}
use Rattle.rules.proofs.Comments.{slash-step}
use Rattle.rules.proofs.Operators.{other_step}
use Rattle.rules.proofs.Dollars.{sign_step}
use Rattle.rules.proofs.Numbers.{numeral_step}
use Rattle.rules.proofs.Relex.{relexed, relex_by}

-- every text that is not empty begins with a token that has its step
pub step : (d : Bool) (c : Char) (cs : List Char) → Read (c ∷ cs) → Step d (c ∷ cs)
step d c cs r = go (rule c.code (first cs)) refl (why c.code (first cs))
  where
    go : (R : Rule) → rule c.code (first cs) ≡ R → Why R c.code (first cs) → Step d (c ∷ cs)
    go spaces e w = space-step d c cs e w
    go dashes e w = dashes_step d c cs r e w.0 w.1
    go slash_star e w = slash-step d c cs r e w.0 w.1
    go numeral e w = numeral_step d c cs r e w
    go letters e w = letters_step d c cs e w
    go quoted e w = quote-step d c cs r w
    go double_quoted e w = double_quote-step d c cs r w
    go back_quoted e w = back_quote-step d c cs r w
    go curly_quoted e w = curly_quote_step d c cs r w
    go curly_double_quoted e w = curly_double_quote_step d c cs r w
    go dollars e w = sign_step d c cs r w
    go others e w = other_step d c cs r e

pub relex : (s : List ℕ) → tokens (masked s) ≡ tokens s
relex = relex_by step dot_free

-- The copy is the text with some of its characters hidden.
pub record Copied (s : List ℕ) : Type 0 where
  pub copy : List Char
  pub masks : Masks (chars s) copy
  pub bytes : masked s ≡ flatten copy

pub copied : (s : List ℕ) → Copied s
unfolding masked
copied s =
    let r = relexed step dot_free (length (chars s)) false 0 (chars s) (omega arith) (read-chars s) in
    record {
      copy = r.copy;
      masks = kept_masks r.kept;
      bytes = ap (λ (t : List ℕ). mask_tokens (tokens t) t) (sym (flatten-chars s)) ∙ r.masks;
    }

pub length-masked : (s : List ℕ) → length (masked s) ≡ length s
length-masked s =
    let c = copied s in
    ap length c.bytes ∙ length-flatten c.copy ∙ widths_masks c.masks ∙ sym (length-flatten (chars s)) ∙ ap length (flatten-chars s)

pub valid-masked : (s : List ℕ) → valid s ≡ true → valid (masked s) ≡ true
valid-masked s h =
    let c = copied s in
    ap valid c.bytes ∙ formed-valid c.copy (read_masks (read-chars s) c.masks) (formed_masks (read-chars s) c.masks ((valid-chars s).0 h))

-- The tokens from any offset on fit what follows it: their bytes are the text's, and what a token keeps at its front and at its back does not meet.
pub fits_from : (s : List ℕ) (i : ℕ) → Fits (tokens_from s i) (drop i s)
unfolding tokens_from
fits_from s i =
    let cs = chars (drop i s) in
    let d = after_dot_at s i in
    subst (λ (t : List ℕ). Fits (tokens_after d i 0 t) t) (flatten-chars (drop i s)) (relexed step dot_free (length cs) d i cs (omega arith) (read-chars (drop i s))).fits

fits : (s : List ℕ) → Fits (tokens s) s
unfolding tokens_from
fits s = fits_from s 0

-- Byte i of the copy
pub masked-at : (s : List ℕ) (i : ℕ) → get_or (masked s) i 0 ≡ cond (hidden s i) mask_byte (get_or s i 0)
unfolding masked hidden
masked-at s i = mask_tokens-at (tokens s) s (fits s) i

-- The copy hides the same bytes.
pub hidden-masked : (s : List ℕ) (i : ℕ) → hidden (masked s) i ≡ hidden s i
unfolding masked hidden
hidden-masked s i = ap (λ (ts : List Token). hidden_in ts (masked s) i) (relex s) ∙ hidden_in-masked (tokens s) s (fits s) i

-- Texts with the same tokens are of one length.
same_length : (a b : List ℕ) → tokens a ≡ tokens b → length a ≡ length b
same_length a b e = fits_length (tokens b) a b (rw e at (fits a)) (fits b)

-- Two texts have one copy exactly if they have the same tokens and agree on each byte that is not hidden.
pub record Alike (a b : List ℕ) : Type 0 where
  pub list : tokens a ≡ tokens b
  pub shown : (i : ℕ) → i < length a → hidden a i ≡ false → get_or a i 0 ≡ get_or b i 0

mask_alike : (a b : List ℕ) → masked a ≡ masked b → Alike a b
mask_alike a b e = record {
  list = sym (relex a) ∙ ap tokens e ∙ relex b;
  shown = λ i k h.
      let h' : hidden b i ≡ false = sym (hidden-masked b i) ∙ ap (λ (t : List ℕ). hidden t i) (sym e) ∙ hidden-masked a i ∙ h in
      sym (masked-at a i ∙ ap (λ (x : Bool). cond x mask_byte (get_or a i 0)) h) ∙ ap (λ (t : List ℕ). get_or t i 0) e ∙ masked-at b i ∙ ap (λ (x : Bool). cond x mask_byte (get_or b i 0)) h';
}

alike_mask : (a b : List ℕ) → Alike a b → masked a ≡ masked b
unfolding masked hidden
alike_mask a b q = sym (mask_tokens_agree (tokens a) a b (sym size) shown) ∙ ap (λ (ts : List Token). mask_tokens ts b) q.list
  where
    size : length a ≡ length b
    size = same_length a b q.list

    shown : (i : ℕ) → hidden_in (tokens a) a i ≡ false → get_or b i 0 ≡ get_or a i 0
    shown i h = go (dec_lt i (length a))
      where
        go : Dec (i < length a) → get_or b i 0 ≡ get_or a i 0
        go (yes k) = sym (q.shown i k h)
        go (no k) = get_or-eq_default b 0 (let l = size in omega arith) ∙ sym (get_or-eq_default a 0 (omega arith))

pub same_mask : (a b : List ℕ) → (masked a ≡ masked b) ↔ Alike a b
same_mask a b = (mask_alike a b, alike_mask a b)

-- To mask a copy again changes nothing.
pub masked_twice : (s : List ℕ) → masked (masked s) ≡ masked s
masked_twice s = alike_mask (masked s) s (record {
  list = relex s;
  shown = λ i k h. masked-at s i ∙ ap (λ (x : Bool). cond x mask_byte (get_or s i 0)) (sym (hidden-masked s i) ∙ h);
})
