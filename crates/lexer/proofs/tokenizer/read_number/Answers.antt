-- After a dot digits only; else the opening, the whole part, the fraction and the exponent.
use Rattle.std.proofs.Common.{◌≡◌, ℕ, ◌+◌, ◌<◌, Bool, true, false, List, length, get_or, drop, sym, ap, ◌∙◌, arith}
use Rattle.rules.specs.Utf8.{Char, chars}
use Rattle.rules.specs.Classes.{digit}
use Rattle.rules.specs.Numbers.{digits, opening, radix_digit, fraction, Figures, exponent, figures}
use Rattle.rules.proofs.NumberBytes.{figures-lead, figures-dot, figures_by}
use Rattle.lexer.specs.declared.tokenizer.Opened.{Opened}
use Rattle.lexer.specs.Ends.{opened, AsciiTo}
use Rattle.lexer.proofs.Ends.{is_well, is_wrong}
use Rattle.lexer.proofs.Numbers.{lead_to, well, wrong}
use Rattle.lexer.proofs.tokenizer.read_number.Goals as goal

module _ (s : List ℕ) (i : ℕ) (r : (i < length s) × (digit (get_or s i 0) ≡ true)) where
  abbrev cs : List Char
  cs = chars (drop i s)

  -- after a dot: digits only
  dotted : (j : ℕ) → j ≡ (i + 1) + digits digit false (chars (drop (i + 1) s)) → ((figures true cs).well ≡ true) × (j ≡ i + (figures true cs).size)
  dotted j e = let f = figures-dot s i r.0 r.1 in (ap (λ (f : Figures). f.well) f, omega (arith, e, ap (λ (f : Figures). f.size) f))

  -- where the figures end
  ends : (d : Bool) (j : ℕ) → j ≡ i + (figures d cs).size → AsciiTo s i j
  ends d j e = lead_to s i _ _ (figures-lead s i r.0 r.1 d) e

  -- elsewhere: what the exponent's reader answers is how the figures end
  figured : (o : Opened) → o ≡ opened (opening cs) → (w : ℕ) → w ≡ (i + o.size) + digits (radix_digit o.hex) false (chars (drop (i + o.size) s)) → (m : ℕ) → m ≡ w + fraction (radix_digit o.hex) 0 (chars (drop w s))
      → ((figures false cs).well ≡ (exponent o.hex (chars (drop m s))).well) × (i + (figures false cs).size ≡ m + (exponent o.hex (chars (drop m s))).size)
  figured o eo w ew m em =
      let h : o.hex ≡ (opening cs).hex = ap (λ (o : Opened). o.hex) eo in
      figures_by s i r.0 r.1 w m (exponent o.hex (chars (drop m s)))
      (ew ∙ ap (λ (o : Opened). (i + o.size) + digits (radix_digit o.hex) false (chars (drop (i + o.size) s))) eo)
      (em ∙ ap (λ (b : Bool). w + fraction (radix_digit b) 0 (chars (drop w s))) h)
      (sym (ap (λ (b : Bool). exponent b (chars (drop m s))) h))

pub read_identifier_starting_with_number-requires : goal.read_identifier_starting_with_number-requires
read_identifier_starting_with_number-requires c =
    ends c.args.text.now c.args.start c.requires true _ (dotted c.args.text.now c.args.start c.requires _ c.read_digits.ensures).1

pub returns-then-after_dot : goal.returns-then-after_dot
returns-then-after_dot c =
    let f = dotted c.args.text.now c.args.start c.requires _ c.read_digits.ensures in
    well c.args.text.now c.args.start _ true _ (sym c.if-after_dot.ensures) f.0 f.1 c.read_identifier_starting_with_number.ensures

pub read_identifier_starting_with_number-requires-in-Ok : goal.read_identifier_starting_with_number-requires-in-Ok
read_identifier_starting_with_number-requires-in-Ok c =
    let f = figured c.args.text.now c.args.start c.requires _ c.read_opening-hex.ensures.opens _ c.read_digits-whole.ensures _ c.read_fraction.ensures in
    let p = is_well _ _ _ c.in-Ok.ensures in
    ends c.args.text.now c.args.start c.requires false _ (p.1 ∙ sym f.1)

pub returns-in-Ok : goal.returns-in-Ok
returns-in-Ok c =
    let f = figured c.args.text.now c.args.start c.requires _ c.read_opening-hex.ensures.opens _ c.read_digits-whole.ensures _ c.read_fraction.ensures in
    let p = is_well _ _ _ c.in-Ok.ensures in
    well c.args.text.now c.args.start _ false _ (sym c.if-after_dot.ensures) (f.0 ∙ p.0) (p.1 ∙ sym f.1) c.read_identifier_starting_with_number-in-Ok.ensures

pub returns-in-Err : goal.returns-in-Err
returns-in-Err c =
    let f = figured c.args.text.now c.args.start c.requires _ c.read_opening-hex.ensures.opens _ c.read_digits-whole.ensures _ c.read_fraction.ensures in
    let p = is_wrong _ _ _ c.in-Err.ensures in
    c.new.ensures ∙ wrong c.args.text.now c.args.start _ false _ (sym c.if-after_dot.ensures) (f.0 ∙ p.0) (p.1 ∙ sym f.1)
