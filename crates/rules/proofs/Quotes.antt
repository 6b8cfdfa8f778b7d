-- Rule 4: the five quotes.
use Prim.Native.Nat.{ℕ, ◌+◌, ◌≤◌, ◌<◌}
use native.Mathlib.Omega.{arith}
use native.Mathlib.Nat.{add-zero}
use mathlib.Core.Path.{◌≡◌, refl, sym, ap, ◌∙◌, subst}
use mathlib.Core.List.{List, [], ◌∷◌, ◌++◌}
use mathlib.Core.Bool.{Bool, true, false}
use lib.Dec.{eqb}
use lib.ListN.{length, get_or, get_or-append}
use Rattle.rules.specs.Utf8.{Char, width}
use Rattle.rules.specs.Characters.{double_quote, quote, backslash, back_quote, quote_open, quote_close, double_quote_open, double_quote_close}
use Rattle.rules.specs.Kinds.{StringToken, QuotedIdentifier, ErrorSingleQuoteIsNotClosed, ErrorDoubleQuoteIsNotClosed, ErrorBackQuoteIsNotClosed}
use Rattle.rules.specs.Limits.{mask_byte}
use Rattle.rules.specs.Lexeme.{first, Body, further, closed_by, open_to, enclosed}
use Rattle.rules.specs.Quotes.{quoted_body, up_to}
use Rattle.rules.specs.Tokens.{rule, Rule, quoted, double_quoted, back_quoted, curly_quoted, curly_double_quoted, read, lexeme_of}
use Rattle.rules.specs.Masking.{quote_width, front, back}
use Rattle.rules.proofs.Reading.{widths, Read}
use Rattle.rules.proofs.Proper.{Proper, Propers, propers, propers_right, one_wide}
use Rattle.rules.proofs.Masks.{hash}
use Rattle.rules.proofs.Step.{Step}
use Rattle.rules.proofs.Rules.{lexeme_by, plain, rule-first}
use Rattle.rules.proofs.Delimited.{Shape, unclosed, closing, more, open_hashes, shut_hashes, open_step, shut_step, shown_step}
use Rattle.rules.proofs.Tests.{eqb-true, eqb_same, le-true, lt-false}

-- a delimiter of one character
abbrev Is : ℕ → Char → List Char → Type 0
Is q x bs = (x.code ≡ q) × (bs ≡ [])

abbrev again : ℕ → ℕ → Bool
again q x = eqb x q

-- the clauses of `quoted`, by its tests
module _ (q : ℕ) (c : Char) (cs : List Char) where
  pub quoted_taken : quoted_body q true (c ∷ cs) ≡ further (width c) (quoted_body q false cs)
  unfolding quoted_body
  quoted_taken = refl

  pub quoted_backslash : eqb c.code backslash ≡ true → quoted_body q false (c ∷ cs) ≡ further (width c) (quoted_body q true cs)
  unfolding quoted_body
  quoted_backslash e = rw (e, quoted_body)

  pub quoted_double : eqb c.code backslash ≡ false → eqb c.code q ≡ true → eqb (first cs) q ≡ true → quoted_body q false (c ∷ cs) ≡ further (width c) (quoted_body q true cs)
  unfolding quoted_body
  quoted_double e f g = rw (e, f, g, quoted_body)

  pub quoted_close : eqb c.code backslash ≡ false → eqb c.code q ≡ true → eqb (first cs) q ≡ false → quoted_body q false (c ∷ cs) ≡ closed_by (width c)
  unfolding quoted_body
  quoted_close e f g = rw (e, f, g, quoted_body)

  pub quoted_other : eqb c.code backslash ≡ false → eqb c.code q ≡ false → quoted_body q false (c ∷ cs) ≡ further (width c) (quoted_body q false cs)
  unfolding quoted_body
  quoted_other e f = rw (e, f, quoted_body)

quoted_shape : (q : ℕ) (t : Bool) (cs : List Char) → Shape (quoted_body q t) (Is q) (again q) cs
unfolding quoted_body
quoted_shape q t [] = unclosed refl
quoted_shape q true (c ∷ cs) = more c (λ vs e. quoted_taken q c vs) (quoted_shape q false cs)
quoted_shape q false (c ∷ cs) = go (eqb c.code backslash) (eqb c.code q) (eqb (first cs) q) refl refl refl (quoted_shape q true cs) (quoted_shape q false cs)
  where
    go : (x y z : Bool) → eqb c.code backslash ≡ x → eqb c.code q ≡ y → eqb (first cs) q ≡ z → Shape (quoted_body q true) (Is q) (again q) cs → Shape (quoted_body q false) (Is q) (again q) cs → Shape (quoted_body q false) (Is q) (again q) (c ∷ cs)
    go true y z ex ey ez s u = more c (λ vs e. quoted_backslash q c vs ex) s
    go false true true ex ey ez s u = more c (λ vs e. quoted_double q c vs ex ey (ap (again q) e ∙ ez)) s
    go false true false ex ey ez s u = closing [] c [] cs refl (eqb-true ey, refl) ez (λ after h. quoted_close q c after ex ey h ∙ ap closed_by (omega arith))
    go false false z ex ey ez s u = more c (λ vs e. quoted_other q c vs ex ey) u

pub quoted_empty : (q : ℕ) → quoted_body q false [] ≡ open_to 0
unfolding quoted_body
quoted_empty q = refl

up_to_shape : (q : ℕ) (cs : List Char) → Shape (up_to q) (Is q) (λ x. false) cs
unfolding up_to
up_to_shape q [] = unclosed refl
up_to_shape q (c ∷ cs) = go (eqb c.code q) refl (up_to_shape q cs)
  where
    go : (y : Bool) → eqb c.code q ≡ y → Shape (up_to q) (Is q) (λ x. false) cs → Shape (up_to q) (Is q) (λ x. false) (c ∷ cs)
    go true e s = closing [] c [] cs refl (eqb-true e, refl) refl (λ after h. rw (e, up_to) (ap closed_by (omega arith)))
    go false e s = more c (λ vs p. rw (e, up_to)) s

pub up_to_close : (q : ℕ) (c : Char) (cs : List Char) → c.code ≡ q → up_to q (c ∷ cs) ≡ closed_by (width c)
unfolding up_to
up_to_close q c cs e = let p : eqb c.code q ≡ true = ap (λ (n : ℕ). eqb n q) e ∙ eqb_same q in rw (p, up_to)

-- the width of a quote
narrow_quote : {c : Char} → Proper c → c.code < 128 → (Y : List ℕ) → quote_width (c.bytes ++ Y) ≡ width c
unfolding quote_width
narrow_quote {c} p h Y = let e = p.ascii h in rw e (rw (lt-false 128 c.code h))

wide_quote : {c : Char} → Proper c → 2048 ≤ c.code → c.code < 65536 → (Y : List ℕ) → quote_width (c.bytes ++ Y) ≡ width c
unfolding quote_width
wide_quote {c} p h k Y =
    let t = p.three h k in
    let e : get_or (c.bytes ++ Y) 0 0 ≡ get_or c.bytes 0 0 = get_or-append c.bytes Y 0 0 (omega arith) in
    rw (e, le-true 128 (get_or c.bytes 0 0) t.1, t.0)

by_rule : (d : Bool) (c : Char) (n : ℕ) (R : Rule) → c.code ≡ n → ((b : ℕ) → rule n b ≡ R) → (vs : List Char) → lexeme_of d (c ∷ vs) ≡ read R d c vs
by_rule d c n R a f vs = lexeme_by d c vs R (ap (λ (m : ℕ). rule m (first vs)) a ∙ f (first vs))

plus_none : (c : Char) (F : Body) (k err : ℕ) → enclosed (width c) F k err ≡ enclosed (width c + 0) F k err
plus_none c F k err = ap (λ (n : ℕ). enclosed n F k err) (omega arith)

-- ASCII quotes
module _ (d : Bool) (c : Char) (cs : List Char) (r : Read (c ∷ cs)) (q k err : ℕ) (a : c.code ≡ q) (lt : q < 128) (e92 : eqb q backslash ≡ false) (e35 : eqb mask_byte q ≡ false)
    (reads : (vs : List Char) → lexeme_of d (c ∷ vs) ≡ enclosed (width c) (quoted_body q false vs) k err)
    (fronts : (Y : List ℕ) → front err Y ≡ quote_width Y) (backs : (Y : List ℕ) → back err Y ≡ 0) where
  reads' : (vs : List Char) → lexeme_of d (c ∷ vs) ≡ enclosed (width c + 0) (quoted_body q false vs) k err
  reads' vs = reads vs ∙ plus_none c (quoted_body q false vs) k err

  skip : (vs : List Char) → quoted_body q false (hash ∷ vs) ≡ further 1 (quoted_body q false vs)
  skip vs = quoted_other q hash vs refl e35

  quoted_open : quoted_body q false cs ≡ open_to (widths cs) → Step d (c ∷ cs)
  quoted_open e =
      let P = propers (c ∷ cs) r in
      open_step d (quoted_body q false) (Is q) (again q) c [] cs k err reads' P.1 e (open_hashes (quoted_body q false) (quoted_empty q) skip (widths cs))
      (λ Y. fronts (c.bytes ++ Y) ∙ narrow_quote P.0 (rw a lt) Y ∙ sym (add-zero (width c))) (λ Y. backs (c.bytes ++ Y))

  quoted_shown : plain k ≡ true → Shape (quoted_body q false) (Is q) (again q) cs → Step d (c ∷ cs)
  quoted_shown p (unclosed e) = quoted_open e
  quoted_shown p (closing us x bs vs w m s f) = shown_step d (quoted_body q false) (Is q) (again q) c [] cs k err reads' (propers (c ∷ cs) r).1 us x bs vs w s f p

  quoted_hidden : ((Y : List ℕ) → front k Y ≡ quote_width Y) → ((Y : List ℕ) → back k Y ≡ quote_width Y) → Shape (quoted_body q false) (Is q) (again q) cs → Step d (c ∷ cs)
  quoted_hidden fk bk (unclosed e) = quoted_open e
  quoted_hidden fk bk (closing us x (b ∷ bs) vs w m s f) = absurd (let z = ap length m.1 in omega arith)
  quoted_hidden fk bk (closing us x [] vs w m s f) =
      let P = propers (c ∷ cs) r in
      let px : Proper x = (propers_right us (x ∷ vs) (subst Propers w P.1)).0 in
      let wc : width c ≡ 1 = one_wide P.0 (rw a lt) in
      let wx : width x ≡ 1 = one_wide px (rw m.0 lt) in
      shut_step d (quoted_body q false) (Is q) (again q) c [] cs k err reads' P.1 us x [] vs w px.wide s f
      (λ after h. shut_hashes (quoted_body q false) (quoted_empty q) skip (widths us) (width x + 0) (x ∷ after)
      (quoted_close q x after (ap (λ (n : ℕ). eqb n backslash) m.0 ∙ e92) (ap (λ (n : ℕ). eqb n q) m.0 ∙ eqb_same q) h ∙ ap closed_by (omega arith)))
      (λ Y. fk (c.bytes ++ Y) ∙ narrow_quote P.0 (rw a lt) Y ∙ sym (add-zero (width c)))
      (λ Y. bk (c.bytes ++ Y) ∙ narrow_quote P.0 (rw a lt) Y ∙ omega arith)

-- Unicode quotes
module _ (d : Bool) (c : Char) (cs : List Char) (r : Read (c ∷ cs)) (o q k err : ℕ) (a : c.code ≡ o) (lo : 2048 ≤ o) (ho : o < 65536) (lq : 2048 ≤ q) (hq : q < 65536) (e35 : eqb mask_byte q ≡ false)
    (reads : (vs : List Char) → lexeme_of d (c ∷ vs) ≡ enclosed (width c) (up_to q vs) k err)
    (fronts : (Y : List ℕ) → front err Y ≡ quote_width Y) (backs : (Y : List ℕ) → back err Y ≡ 0) where
  reads'' : (vs : List Char) → lexeme_of d (c ∷ vs) ≡ enclosed (width c + 0) (up_to q vs) k err
  reads'' vs = reads vs ∙ plus_none c (up_to q vs) k err

  pass : (vs : List Char) → up_to q (hash ∷ vs) ≡ further 1 (up_to q vs)
  unfolding up_to
  pass vs = rw (e35, up_to)

  empty : up_to q [] ≡ open_to 0
  unfolding up_to
  empty = refl

  wide_front : (Y : List ℕ) → quote_width (c.bytes ++ Y) ≡ width c
  wide_front Y = wide_quote (propers (c ∷ cs) r).0 (rw a lo) (rw a ho) Y

  up_to_open : up_to q cs ≡ open_to (widths cs) → Step d (c ∷ cs)
  up_to_open e =
      let P = propers (c ∷ cs) r in
      open_step d (up_to q) (Is q) (λ x. false) c [] cs k err reads'' P.1 e (open_hashes (up_to q) empty pass (widths cs))
      (λ Y. fronts (c.bytes ++ Y) ∙ wide_front Y ∙ sym (add-zero (width c))) (λ Y. backs (c.bytes ++ Y))

  up_to_shown : plain k ≡ true → Shape (up_to q) (Is q) (λ x. false) cs → Step d (c ∷ cs)
  up_to_shown p (unclosed e) = up_to_open e
  up_to_shown p (closing us x bs vs w m s f) = shown_step d (up_to q) (Is q) (λ x. false) c [] cs k err reads'' (propers (c ∷ cs) r).1 us x bs vs w s f p

  up_to-hidden : ((Y : List ℕ) → front k Y ≡ quote_width Y) → ((Y : List ℕ) → back k Y ≡ quote_width Y) → Shape (up_to q) (Is q) (λ x. false) cs → Step d (c ∷ cs)
  up_to-hidden fk bk (unclosed e) = up_to_open e
  up_to-hidden fk bk (closing us x (b ∷ bs) vs w m s f) = absurd (let z = ap length m.1 in omega arith)
  up_to-hidden fk bk (closing us x [] vs w m s f) =
      let P = propers (c ∷ cs) r in
      let px : Proper x = (propers_right us (x ∷ vs) (subst Propers w P.1)).0 in
      let wc : width c ≡ 3 = (P.0.three (rw a lo) (rw a ho)).0 in
      let wx : width x ≡ 3 = (px.three (rw m.0 lq) (rw m.0 hq)).0 in
      shut_step d (up_to q) (Is q) (λ x. false) c [] cs k err reads'' P.1 us x [] vs w px.wide s f
      (λ after h. shut_hashes (up_to q) empty pass (widths us) (width x + 0) (x ∷ after) (up_to_close q x after m.0 ∙ ap closed_by (omega arith)))
      (λ Y. fk (c.bytes ++ Y) ∙ wide_front Y ∙ sym (add-zero (width c)))
      (λ Y. bk (c.bytes ++ Y) ∙ wide_front Y ∙ omega arith)

module _ (d : Bool) (c : Char) (cs : List Char) (r : Read (c ∷ cs)) where
  pub quote-step : c.code ≡ quote → Step d (c ∷ cs)
  unfolding read front back
  quote-step a = quoted_hidden d c cs r quote StringToken ErrorSingleQuoteIsNotClosed a (omega arith) refl refl (λ vs. by_rule d c quote quoted a (λ b. (rule-first b).of_quote) vs) (λ Y. refl) (λ Y. refl) (λ Y. refl) (λ Y. refl) (quoted_shape quote false cs)

  pub double_quote-step : c.code ≡ double_quote → Step d (c ∷ cs)
  unfolding read front back
  double_quote-step a = quoted_shown d c cs r double_quote QuotedIdentifier ErrorDoubleQuoteIsNotClosed a (omega arith) refl refl (λ vs. by_rule d c double_quote double_quoted a (λ b. (rule-first b).of_double_quote) vs) (λ Y. refl) (λ Y. refl) refl (quoted_shape double_quote false cs)

  pub back_quote-step : c.code ≡ back_quote → Step d (c ∷ cs)
  unfolding read front back
  back_quote-step a = quoted_shown d c cs r back_quote QuotedIdentifier ErrorBackQuoteIsNotClosed a (omega arith) refl refl (λ vs. by_rule d c back_quote back_quoted a (λ b. (rule-first b).of_back_quote) vs) (λ Y. refl) (λ Y. refl) refl (quoted_shape back_quote false cs)

  pub curly_quote_step : c.code ≡ quote_open → Step d (c ∷ cs)
  unfolding read front back
  curly_quote_step a = up_to-hidden d c cs r quote_open quote_close StringToken ErrorSingleQuoteIsNotClosed a (omega arith) (omega arith) (omega arith) (omega arith) refl (λ vs. by_rule d c quote_open curly_quoted a (λ b. (rule-first b).of_quote_open) vs) (λ Y. refl) (λ Y. refl) (λ Y. refl) (λ Y. refl) (up_to_shape quote_close cs)

  pub curly_double_quote_step : c.code ≡ double_quote_open → Step d (c ∷ cs)
  unfolding read front back
  curly_double_quote_step a = up_to_shown d c cs r double_quote_open double_quote_close QuotedIdentifier ErrorDoubleQuoteIsNotClosed a (omega arith) (omega arith) (omega arith) (omega arith) refl (λ vs. by_rule d c double_quote_open curly_double_quoted a (λ b. (rule-first b).of_double_quote_open) vs) (λ Y. refl) (λ Y. refl) refl (up_to_shape double_quote_close cs)
