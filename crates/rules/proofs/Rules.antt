-- Why a rule applies, and the two ways to make a step: of a kind that hides nothing, and of one that hides a middle part.
use Prim.Native.Nat.{ℕ, ◌+◌, ◌-◌, ◌<◌}
use native.Mathlib.Omega.{arith}
use mathlib.Core.Path.{◌≡◌, refl, sym, ap, ◌∙◌}
use mathlib.Core.List.{List, [], ◌∷◌, ◌++◌, append_assoc, append-nil}
use mathlib.Core.Bool.{Bool, true, false, cond, not, ◌||◌}
use lib.Dec.{eqb}
use lib.ListN.{length, replicate, length-append}
use lib.Seq.{take-length, drop-length, take-append_seam, drop-append_seam, drop-append-add}
use Rattle.rules.specs.Utf8.{within, Char, width}
use Rattle.rules.specs.Tables.{white_space_table}
use Rattle.rules.specs.Classes.{in_ranges, white_space, letter, digit}
use Rattle.rules.specs.Characters.{double_quote, dollar, quote, star, dash, slash, underscore, back_quote, quote_open, double_quote_open}
use Rattle.rules.specs.Kinds.{Comment, StringToken, HereDoc, ErrorMultilineCommentIsNotClosed, ErrorSingleQuoteIsNotClosed, ErrorBackQuoteIsNotClosed}
use Rattle.rules.specs.Limits.{mask_byte}
use Rattle.rules.specs.Lexeme.{first, two, is}
use Rattle.rules.specs.Tokens.{rule, Rule, spaces, dashes, slash_star, numeral, letters, quoted, double_quoted, back_quoted, curly_quoted, curly_double_quoted, dollars, others, read, lexeme_of, is_dot}
use Rattle.rules.specs.Masking.{front, back, mask_token}
use Rattle.rules.proofs.Reading.{flatten, widths, flatten-append, widths_append, length-flatten}
use Rattle.rules.proofs.Proper.{Propers}
use Rattle.rules.proofs.Masks.{Kept, hashes, masks_refl, masks_append, masks_all, flatten_hashes, kept_refl}
use Rattle.rules.proofs.Step.{Step, last_dot}
use Rattle.rules.proofs.Tests.{eqb-true, clash, and_left, and_right}

abbrev pub Why : Rule → ℕ → ℕ → Type 0
Why spaces a b = white_space a ≡ true
Why dashes a b = (a ≡ dash) × (b ≡ dash)
Why slash_star a b = (a ≡ slash) × (b ≡ star)
Why numeral a b = digit a ≡ true
Why letters a b = (letter a || eqb a underscore) ≡ true
Why quoted a b = a ≡ quote
Why double_quoted a b = a ≡ double_quote
Why back_quoted a b = a ≡ back_quote
Why curly_quoted a b = a ≡ quote_open
Why curly_double_quoted a b = a ≡ double_quote_open
Why dollars a b = a ≡ dollar
Why others a b = Unit {0}

pub cond-rule : {A : Type 0} (F : A → Type 0) (t : Bool) (x y : A) → (t ≡ true → F x) → F y → F (cond t x y)
cond-rule F true x y f g = f refl
cond-rule F false x y f g = g

pub two-true : (a b m n : ℕ) → two a b m n ≡ true → (a ≡ m) × (b ≡ n)
two-true a b m n e = (eqb-true (and_left (eqb a m) (eqb b n) e), eqb-true (and_right (eqb a m) (eqb b n) e))

pub why : (a b : ℕ) → Why (rule a b) a b
unfolding rule
why a b =
    let F : Rule → Type 0 = λ r. Why r a b in
    cond-rule F (white_space a) _ _ (λ e. e)
    (cond-rule F (two a b dash dash) _ _ (two-true a b dash dash)
    (cond-rule F (two a b slash star) _ _ (two-true a b slash star)
    (cond-rule F (digit a) _ _ (λ e. e)
    (cond-rule F (letter a || eqb a underscore) _ _ (λ e. e)
    (cond-rule F (eqb a quote) _ _ eqb-true
    (cond-rule F (eqb a double_quote) _ _ eqb-true
    (cond-rule F (eqb a back_quote) _ _ eqb-true
    (cond-rule F (eqb a quote_open) _ _ eqb-true
    (cond-rule F (eqb a double_quote_open) _ _ eqb-true
    (cond-rule F (eqb a dollar) _ _ eqb-true tt))))))))))

-- the rule of a first character that needs no other one
pub record Firsts (b : ℕ) : Type 0 where
  pub of_quote : rule quote b ≡ quoted
  pub of_double_quote : rule double_quote b ≡ double_quoted
  pub of_back_quote : rule back_quote b ≡ back_quoted
  pub of_quote_open : rule quote_open b ≡ curly_quoted
  pub of_double_quote_open : rule double_quote_open b ≡ curly_double_quoted
  pub of_dollar : rule dollar b ≡ dollars

pub rule-first : (b : ℕ) → Firsts b
unfolding rule white_space in_ranges white_space_table
rule-first b = record { of_quote = refl; of_double_quote = refl; of_back_quote = refl; of_quote_open = refl; of_double_quote_open = refl; of_dollar = refl }

pub lexeme_by : (d : Bool) (c : Char) (cs : List Char) (r : Rule) → rule c.code (first cs) ≡ r → lexeme_of d (c ∷ cs) ≡ read r d c cs
unfolding lexeme_of
lexeme_by d c cs r e = ap (λ (r : Rule). read r d c cs) e

-- only a number looks at the byte before
read-dot : (r : Rule) (d d' : Bool) (c : Char) (cs : List Char) → Why r c.code (first cs) → digit c.code ≡ false → read r d c cs ≡ read r d' c cs
unfolding read
read-dot spaces d d' c cs w e = refl
read-dot dashes d d' c cs w e = refl
read-dot slash_star d d' c cs w e = refl
read-dot numeral d d' c cs w e = clash w e
read-dot letters d d' c cs w e = refl
read-dot quoted d d' c cs w e = refl
read-dot double_quoted d d' c cs w e = refl
read-dot back_quoted d d' c cs w e = refl
read-dot curly_quoted d d' c cs w e = refl
read-dot curly_double_quoted d d' c cs w e = refl
read-dot dollars d d' c cs w e = refl
read-dot others d d' c cs w e = refl

pub dot_free : (d d' : Bool) (cs : List Char) → digit (first cs) ≡ false → lexeme_of d cs ≡ lexeme_of d' cs
unfolding lexeme_of
dot_free d d' [] e = refl
dot_free d d' (c ∷ cs) e = read-dot (rule c.code (first cs)) d d' c cs (why c.code (first cs)) e

-- Kinds that hide nothing
abbrev pub plain : ℕ → Bool
plain k = not (eqb k Comment || eqb k ErrorMultilineCommentIsNotClosed || (eqb k StringToken || within ErrorSingleQuoteIsNotClosed ErrorBackQuoteIsNotClosed k) || eqb k HereDoc)

five : (a b c d e : Bool) → not (a || b || (c || d) || e) ≡ true → (a ≡ false) × (b ≡ false) × (c ≡ false) × (d ≡ false) × (e ≡ false)
five true b c d e h = clash refl (sym h)
five false true c d e h = clash refl (sym h)
five false false true d e h = clash refl (sym h)
five false false false true e h = clash refl (sym h)
five false false false false true h = clash refl (sym h)
five false false false false false h = (refl, refl, refl, refl, refl)

pub mask_plain : (k : ℕ) (bs : List ℕ) → plain k ≡ true → mask_token k bs ≡ bs
unfolding mask_token front back
mask_plain k bs h =
    let p = five (eqb k Comment) (eqb k ErrorMultilineCommentIsNotClosed) (eqb k StringToken) (within ErrorSingleQuoteIsNotClosed ErrorBackQuoteIsNotClosed k) (eqb k HereDoc) h in
    let z : length bs - 0 ≡ length bs = omega arith in
    let y : length bs - length bs ≡ 0 = omega arith in
    rw (p.0, p.1, p.2, p.3, p.4) (rw (z, y, take-length, drop-length) (append-nil bs))

pub mask_parts : (k : ℕ) (f x b : List ℕ) → front k (f ++ (x ++ b)) ≡ length f → back k (f ++ (x ++ b)) ≡ length b → mask_token k (f ++ (x ++ b)) ≡ f ++ (replicate (length x) mask_byte ++ b)
unfolding mask_token
mask_parts k f x b p q =
    let n : length (f ++ (x ++ b)) - length b ≡ length f + length x = simp length-append (omega arith) in
    let m : length f + length x - length f ≡ length x = omega arith in
    rw (p, q, n, m, take-append_seam, drop-append-add, drop-append_seam)

pub plain_fits : (k : ℕ) (bs : List ℕ) → plain k ≡ true → front k bs + back k bs ≡ length bs
unfolding front back
plain_fits k bs h =
    let p = five (eqb k Comment) (eqb k ErrorMultilineCommentIsNotClosed) (eqb k StringToken) (within ErrorSingleQuoteIsNotClosed ErrorBackQuoteIsNotClosed k) (eqb k HereDoc) h in
    rw (p.0, p.1, p.2, p.3, p.4) (omega arith)

-- A step that hides nothing
pub plain_step : (d : Bool) (cs : List Char) (c : Char) (us vs : List Char) (k n : ℕ) → cs ≡ c ∷ (us ++ vs) → plain k ≡ true → n ≡ width c + widths us
    → ((after : List Char) → Kept vs after → lexeme_of d (c ∷ (us ++ after)) ≡ is k n) → Step d cs
plain_step d cs c us vs k n w p e f = record {
  head = c;
  body = us;
  tail = vs;
  kind = k;
  dark = us;
  whole = w;
  lexes = f vs (kept_refl vs) ∙ ap (is k) e;
  hides = mask_plain k (c.bytes ++ flatten us) p;
  masks = masks_refl us;
  again = λ after h. f after h ∙ ap (is k) e;
  dots = λ h. refl;
  fits = let a = plain_fits k (c.bytes ++ flatten us) p in let b = length-append c.bytes (flatten us) in let g = length-flatten us in omega arith;
}

last_dot_tail : (d d' : Bool) (x y z : List ℕ) → 0 < length z → last_dot d (x ++ z) ≡ last_dot d' (y ++ z)
last_dot_tail d d' [] [] [] h = absurd (omega arith)
last_dot_tail d d' [] [] (b ∷ z) h = refl
last_dot_tail d d' [] (b ∷ y) z h = last_dot_tail d (is_dot b) [] y z h
last_dot_tail d d' (b ∷ x) y z h = last_dot_tail (is_dot b) d' x y z h

-- A step that hides xs, between fs and bs
module _ (d : Bool) (cs : List Char) (c : Char) (fs xs bs vs : List Char) (k n : ℕ) where
  pub hiding_step : cs ≡ c ∷ (fs ++ (xs ++ (bs ++ vs))) → Propers xs → n ≡ width c + (widths fs + (widths xs + widths bs))
      → front k (c.bytes ++ (flatten fs ++ (flatten xs ++ flatten bs))) ≡ width c + widths fs
      → back k (c.bytes ++ (flatten fs ++ (flatten xs ++ flatten bs))) ≡ widths bs
      → (digit (first vs) ≡ true → 0 < widths bs)
      → lexeme_of d (c ∷ (fs ++ (xs ++ (bs ++ vs)))) ≡ is k n
      → ((after : List Char) → Kept vs after → lexeme_of d (c ∷ (fs ++ (hashes (widths xs) ++ (bs ++ after)))) ≡ is k n)
      → Step d cs
  hiding_step w p e ef eb ed el ea = record {
    head = c;
    body = fs ++ (xs ++ bs);
    tail = vs;
    kind = k;
    dark = fs ++ (hashes (widths xs) ++ bs);
    whole = w ∙ simp append_assoc;
    lexes = simp append_assoc (el ∙ ap (is k) size);
    hides = simp (flatten-append, flatten_hashes) (simp (append_assoc, length-flatten) at (mask_parts k (c.bytes ++ flatten fs) (flatten xs) (flatten bs) (simp (append_assoc, length-append, length-flatten) ef) (simp (append_assoc, length-flatten) eb)));
    masks = masks_append (masks_refl fs) (masks_append (masks_all xs p) (masks_refl bs));
    again = λ after h. simp append_assoc (ea after h ∙ ap (is k) size);
    dots = λ h. simp (flatten-append, ← append_assoc) (last_dot_tail false false (c.bytes ++ flatten fs ++ flatten (hashes (widths xs))) (c.bytes ++ flatten fs ++ flatten xs) (flatten bs) (rw (length-flatten bs) (ed h)));
    fits = simp (flatten-append, widths_append) (omega arith);
  }
    where
      size : n ≡ width c + widths (fs ++ (xs ++ bs))
      size = e ∙ simp widths_append
