-- The masked copy has the tokens of the text, where each rule has its step.
use Prim.Native.Nat.{ℕ, zero, suc, ◌+◌, ◌-◌, ◌≤◌, ◌<◌}
use native.Mathlib.Omega.{arith}
use native.Mathlib.Nat.{add-zero}
use native.Mathlib.Numerals.{sub-one}
use mathlib.Core.Path.{◌≡◌, refl, sym, ap, ap₂, ◌∙◌, subst, subst₂}
use mathlib.Core.List.{List, [], ◌∷◌, ◌++◌, append_assoc}
use mathlib.Core.Bool.{Bool, true, false}
use lib.ListN.{length, length-append}
use lib.Seq.{take_at, drop_at}
use Rattle.rules.specs.Utf8.{Char, width, chars}
use Rattle.rules.specs.Classes.{digit}
use Rattle.rules.specs.Lexeme.{first, Lexeme, is}
use Rattle.rules.specs.Tokens.{lexeme, lexeme_of, Token, is_dot, tokens, tokens_after}
use Rattle.rules.specs.Masking.{masked, front, back, mask_token, mask_tokens}
use Rattle.rules.proofs.Visible.{Fits}
use Rattle.rules.proofs.Reading.{flatten, widths, Read, read-append, chars-flatten, flatten-append, length-flatten, read-chars, flatten-chars}
use Rattle.rules.proofs.Masks.{Masks, Kept, none, next, keep, kept_masks, kept_first, masks_append, widths_masks, read_masks}
use Rattle.rules.proofs.Step.{last_dot, Step}

abbrev span : ℕ → ℕ → ℕ → Token
span k at n = record { kind = k; start = at; end = at + n }

tokens_after_skip : (d : Bool) (at : ℕ) (u r : List ℕ) → tokens_after d at (length u) (u ++ r) ≡ tokens_after (last_dot d u) (at + length u) 0 r
unfolding tokens_after
tokens_after_skip d at [] r = rw add-zero
tokens_after_skip d at (b ∷ u) r = tokens_after_skip (is_dot b) (suc at) u r ∙ ap (λ (n : ℕ). tokens_after (last_dot (is_dot b) u) n 0 r) (omega arith)

-- the list of a text that begins with the token u
tokens-at : (d : Bool) (at k : ℕ) (u r : List ℕ) → 0 < length u → lexeme d (u ++ r) ≡ is k (length u) → tokens_after d at 0 (u ++ r) ≡ span k at (length u) ∷ tokens_after (last_dot false u) (at + length u) 0 r
unfolding tokens_after
tokens-at d at k [] r h e = absurd (omega arith)
tokens-at d at k (b ∷ u) r h e =
    ap {B = List Token} (λ (l : Lexeme). span l.kind at l.size ∷ tokens_after (is_dot b) (suc at) (l.size - 1) (u ++ r)) e
    ∙ ap {B = List Token} (λ (l : List Token). span k at (suc (length u)) ∷ l) (rw sub-one (tokens_after_skip (is_dot b) (suc at) u r ∙ ap (λ (n : ℕ). tokens_after (last_dot (is_dot b) u) n 0 r) (omega arith)))

-- the list depends on the byte before by the first lexeme alone
tokens-dot : (d d' : Bool) (at : ℕ) (s : List ℕ) → lexeme d s ≡ lexeme d' s → tokens_after d at 0 s ≡ tokens_after d' at 0 s
unfolding tokens_after
tokens-dot d d' at [] e = refl
tokens-dot d d' at (b ∷ s) e = ap {B = List Token} (λ (l : Lexeme). span l.kind at l.size ∷ tokens_after (is_dot b) (suc at) (l.size - 1) s) e

-- the same by characters
module _ (d : Bool) (at k : ℕ) (c : Char) (us vs : List Char) where
  front-append : flatten (c ∷ (us ++ vs)) ≡ c.bytes ++ flatten us ++ flatten vs
  front-append = rw (flatten-append us vs, append_assoc)

  front_length : length (c.bytes ++ flatten us) ≡ width c + widths us
  front_length = rw (length-append, length-flatten)

  lexeme-front : (n : ℕ) → Read (c ∷ (us ++ vs)) → lexeme_of d (c ∷ (us ++ vs)) ≡ is k n → lexeme d (c.bytes ++ flatten us ++ flatten vs) ≡ is k n
  lexeme-front n r e = ap (lexeme d) (sym front-append) ∙ ap (lexeme_of d) (chars-flatten (c ∷ (us ++ vs)) r) ∙ e

  tokens-front : Read (c ∷ (us ++ vs)) → lexeme_of d (c ∷ (us ++ vs)) ≡ is k (width c + widths us) → tokens_after d at 0 (flatten (c ∷ (us ++ vs))) ≡ span k at (width c + widths us) ∷ tokens_after (last_dot false (c.bytes ++ flatten us)) (at + (width c + widths us)) 0 (flatten vs)
  tokens-front r e =
      ap (tokens_after d at 0) front-append
      ∙ tokens-at d at k (c.bytes ++ flatten us) (flatten vs) (rw front_length (let h = r.1 in omega arith)) (lexeme-front (length (c.bytes ++ flatten us)) r (e ∙ ap (is k) (sym front_length)))
      ∙ ap {B = List Token} (λ (n : ℕ). span k at n ∷ tokens_after (last_dot false (c.bytes ++ flatten us)) (at + n) 0 (flatten vs)) front_length

mask_front : (at k : ℕ) (ts : List Token) (u r : List ℕ) (n : ℕ) → length u ≡ n → mask_tokens (span k at n ∷ ts) (u ++ r) ≡ mask_token k u ++ mask_tokens ts r
unfolding mask_tokens
mask_front at k ts u r n e =
    let z : at + n - at ≡ n = omega arith in
    rw (z, take_at u r n e, drop_at u r n e)

fits_front : (at k : ℕ) (ts : List Token) (u r : List ℕ) (n : ℕ) → length u ≡ n → front k u + back k u ≤ n → Fits ts r → Fits (span k at n ∷ ts) (u ++ r)
fits_front at k ts u r n e h f =
    let z : at + n - at ≡ n = omega arith in
    rw (z, take_at u r n e, drop_at u r n e) (simp length-append (omega arith), omega arith, f)

pub record Relexed (d : Bool) (at : ℕ) (cs : List Char) : Type 0 where
  pub copy : List Char
  pub kept : Kept cs copy
  pub masks : mask_tokens (tokens_after d at 0 (flatten cs)) (flatten cs) ≡ flatten copy
  pub relexes : tokens_after d at 0 (flatten copy) ≡ tokens_after d at 0 (flatten cs)
  pub fits : Fits (tokens_after d at 0 (flatten cs)) (flatten cs)

module _ (step : (d : Bool) (c : Char) (cs : List Char) → Read (c ∷ cs) → Step d (c ∷ cs))
    (dot_free : (d d' : Bool) (cs : List Char) → digit (first cs) ≡ false → lexeme_of d cs ≡ lexeme_of d' cs) where
  same_tokens : (d d' : Bool) (at : ℕ) (cs : List Char) → Read cs → digit (first cs) ≡ false → tokens_after d at 0 (flatten cs) ≡ tokens_after d' at 0 (flatten cs)
  same_tokens d d' at cs r h = tokens-dot d d' at (flatten cs) (ap (lexeme_of d) (chars-flatten cs r) ∙ dot_free d d' cs h ∙ ap (lexeme_of d') (sym (chars-flatten cs r)))

  after_dark : (d1 d2 : Bool) (at : ℕ) (vs copy : List Char) → Read copy → Kept vs copy → (digit (first vs) ≡ true → d2 ≡ d1) → tokens_after d2 at 0 (flatten copy) ≡ tokens_after d1 at 0 (flatten copy)
  after_dark d1 d2 at vs copy r k h = go (digit (first vs)) refl
    where
      go : (b : Bool) → digit (first vs) ≡ b → tokens_after d2 at 0 (flatten copy) ≡ tokens_after d1 at 0 (flatten copy)
      go true e = ap (λ (d : Bool). tokens_after d at 0 (flatten copy)) (h e)
      go false e = same_tokens d2 d1 at copy r (ap digit (kept_first k) ∙ e)

  assemble : (d : Bool) (at : ℕ) (cs : List Char) → Read cs → (s : Step d cs) → ((d' : Bool) (a : ℕ) → Relexed d' a s.tail) → Relexed d at cs
  assemble d at cs r s ih = subst (Relexed d at) (sym s.whole) relexed
    where
      c : Char
      c = s.head

      n : ℕ
      n = width c + widths s.body

      d1 : Bool
      d1 = last_dot false (c.bytes ++ flatten s.body)

      d2 : Bool
      d2 = last_dot false (c.bytes ++ flatten s.dark)

      rest : Relexed d1 (at + n) s.tail
      rest = ih d1 (at + n)

      text : List Char
      text = c ∷ (s.body ++ s.tail)

      copy : List Char
      copy = c ∷ (s.dark ++ rest.copy)

      read-text : Read text
      read-text = subst Read s.whole r

      mask : Masks (s.body ++ s.tail) (s.dark ++ rest.copy)
      mask = masks_append s.masks (kept_masks rest.kept)

      read_copy : Read copy
      read_copy = read_masks read-text (keep c mask)

      same_width : width c + widths s.dark ≡ n
      same_width = ap (λ (m : ℕ). width c + m) (widths_masks s.masks)

      text-tokens : tokens_after d at 0 (flatten text) ≡ span s.kind at n ∷ tokens_after d1 (at + n) 0 (flatten s.tail)
      text-tokens = tokens-front d at s.kind c s.body s.tail read-text s.lexes

      copy_tokens : tokens_after d at 0 (flatten copy) ≡ span s.kind at n ∷ tokens_after d2 (at + n) 0 (flatten rest.copy)
      copy_tokens =
          tokens-front d at s.kind c s.dark rest.copy read_copy (s.again rest.copy rest.kept ∙ ap (is s.kind) (sym same_width))
          ∙ ap {B = List Token} (λ (m : ℕ). span s.kind at m ∷ tokens_after d2 (at + m) 0 (flatten rest.copy)) same_width

      masks : mask_tokens (tokens_after d at 0 (flatten text)) (flatten text) ≡ flatten copy
      masks =
          ap₂ mask_tokens text-tokens (front-append d at s.kind c s.body s.tail)
          ∙ mask_front at s.kind (tokens_after d1 (at + n) 0 (flatten s.tail)) (c.bytes ++ flatten s.body) (flatten s.tail) n (front_length d at s.kind c s.body s.tail)
          ∙ ap₂ (λ (x y : List ℕ). x ++ y) s.hides rest.masks
          ∙ sym (front-append d at s.kind c s.dark rest.copy)

      relexed : Relexed d at text
      relexed = record {
        copy = copy;
        kept = next c mask;
        masks = masks;
        relexes = copy_tokens ∙ ap {B = List Token} (λ (l : List Token). span s.kind at n ∷ l) (after_dark d1 d2 (at + n) s.tail rest.copy (read-append (c ∷ s.dark) rest.copy read_copy) rest.kept s.dots ∙ rest.relexes) ∙ sym text-tokens;
        fits = subst₂ Fits (sym text-tokens) (sym (front-append d at s.kind c s.body s.tail))
            (fits_front at s.kind (tokens_after d1 (at + n) 0 (flatten s.tail)) (c.bytes ++ flatten s.body) (flatten s.tail) n (front_length d at s.kind c s.body s.tail) s.fits rest.fits);
      }

  longer : (fuel : ℕ) → ((d : Bool) (at : ℕ) (cs : List Char) → length cs ≤ fuel → Read cs → Relexed d at cs) → (d : Bool) (at : ℕ) (cs : List Char) → length cs ≤ suc fuel → Read cs → Relexed d at cs
  unfolding tokens_after mask_tokens
  longer fuel ih d at [] h r = record { copy = []; kept = none; masks = refl; relexes = refl; fits = refl }
  longer fuel ih d at (c ∷ cs) h r =
      let s = step d c cs r in
      let e : suc (length cs) ≡ suc (length s.body + length s.tail) = ap length s.whole ∙ ap suc (length-append s.body s.tail) in
      assemble d at (c ∷ cs) r s (λ d' a. ih d' a s.tail (omega arith) (read-append (s.head ∷ s.body) s.tail (subst Read s.whole r)))

  shortest : (d : Bool) (at : ℕ) (cs : List Char) → length cs ≤ 0 → Read cs → Relexed d at cs
  unfolding tokens_after mask_tokens
  shortest d at [] h r = record { copy = []; kept = none; masks = refl; relexes = refl; fits = refl }
  shortest d at (c ∷ cs) h r = absurd (omega arith)

  pub relexed : (fuel : ℕ) (d : Bool) (at : ℕ) (cs : List Char) → length cs ≤ fuel → Read cs → Relexed d at cs
  relexed zero = shortest
  relexed (suc fuel) = longer fuel (relexed fuel)

  pub relex_by : (s : List ℕ) → tokens (masked s) ≡ tokens s
  unfolding masked
  relex_by s =
      let r = relexed (length (chars s)) false 0 (chars s) (omega arith) (read-chars s) in
      let e : mask_tokens (tokens s) s ≡ flatten r.copy = ap (λ (t : List ℕ). mask_tokens (tokens t) t) (sym (flatten-chars s)) ∙ r.masks in
      ap tokens e ∙ r.relexes ∙ ap tokens (flatten-chars s)
