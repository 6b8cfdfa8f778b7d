-- Which rule reads the token at an index, by its first bytes, and what it then is. Assumes nothing.
use Prim.Native.Nat.{ℕ, zero, suc, ◌+◌, ◌≤◌, ◌<◌}
use native.Mathlib.Omega.{arith}
use borrow.Author.Tests.{ne_eqb, lt-leb}
use mathlib.Core.Path.{◌≡◌, refl, sym, ap, ap₂, ◌∙◌}
use mathlib.Core.List.{List, [], ◌∷◌}
use mathlib.Core.Bool.{Bool, true, false, ◌&&◌, ◌||◌, and-false}
use lib.Dec.{leb, eqb}
use lib.ListN.{length, get_or, drop}
use lib.Seq.{get_or-drop}
use native.Mathlib.Nat.{add-zero}
use Rattle.rules.specs.Utf8.{Char, width, char_at, chars}
use Rattle.rules.specs.Tables.{white_space_table}
use Rattle.rules.specs.Classes.{in_ranges, white_space, letter, digit}
use Rattle.rules.specs.Characters.{exclamation, double_quote, dollar, percent, quote, round_open, round_close, star, plus, comma, dash, dot, slash, colon, semicolon, less, equals, greater, question, at, square_open, square_close, caret, underscore, back_quote, curly_open, bar, curly_close, quote_open, quote_close, double_quote_open, double_quote_close, minus_sign}
use Rattle.rules.specs.Kinds.{Whitespace, Comment, BareWord, StringToken, QuotedIdentifier, EndOfStream, ErrorMultilineCommentIsNotClosed, ErrorSingleQuoteIsNotClosed, ErrorDoubleQuoteIsNotClosed, ErrorBackQuoteIsNotClosed, ErrorToken}
use Rattle.rules.specs.Lexeme.{first, two, is, run, enclosed}
use Rattle.rules.specs.Spaces.{not_line_feed, comment_body}
use Rattle.rules.specs.Operators.{single, pair, spaceship, operator}
use Rattle.rules.specs.Words.{starts_word, word_character}
use Rattle.rules.specs.Quotes.{quoted_body, up_to}
use Rattle.rules.specs.Dollars.{here_doc, dollar_lexeme}
use Rattle.rules.specs.Numbers.{number}
use Rattle.rules.specs.Tokens.{Rule, spaces, dashes, slash_star, numeral, letters, quoted, double_quoted, back_quoted, curly_quoted, curly_double_quoted, dollars, others, rule, read, lexeme_of, lexeme}
use Rattle.rules.proofs.Tests.{clash, eqb-true, and_left, and_right, apart}
use Rattle.rules.proofs.Tables.{agree, agree_at, ascii_alphanumeric}
use Rattle.rules.proofs.Decoding.{chars-at, chars_ascii, chars_end, code_high, within_text}
use Rattle.rules.proofs.Bytes.{next_is}
use Rattle.rules.proofs.Rules.{lexeme_by, rule-first}
use Rattle.rules.proofs.Operators.{pair_small, operator-one}

-- below 128 the first tests of `rule` exclude one another: computed at all 128
apart_classes : (p q : ℕ → Bool) → agree (λ k. p k && q k) (λ k. false) 128 ≡ true → (a : ℕ) → a < 128 → q a ≡ true → p a ≡ false
apart_classes p q e a l h = go (p a) refl
  where
    go : (b : Bool) → p a ≡ b → b ≡ false
    go false f = refl
    go true f = clash (ap (λ (x : Bool). x && q a) f ∙ h) (agree_at (λ k. p k && q k) (λ k. false) 128 e a l)

-- a word's byte is a digit, or starts a word
pub word_starts : (a : ℕ) → a < 128 → word_character a ≡ (digit a || starts_word a)
word_starts a l = ap (λ (b : Bool). b || eqb a underscore) (ascii_alphanumeric a l) ∙ agree_at (λ k. letter k || digit k || eqb k underscore) (λ k. digit k || starts_word k) 128 refl a l

pub starts : (a : ℕ) → a < 128 → word_character a ≡ true → digit a ≡ false → starts_word a ≡ true
starts a l w d = sym (ap (λ (b : Bool). b || starts_word a) d) ∙ sym (word_starts a l) ∙ w

digit-space : (a : ℕ) → a < 128 → digit a ≡ true → white_space a ≡ false
unfolding white_space in_ranges white_space_table
digit-space = apart_classes white_space digit refl

letter-space : (a : ℕ) → a < 128 → starts_word a ≡ true → white_space a ≡ false
unfolding white_space in_ranges white_space_table
letter-space = apart_classes white_space starts_word refl

letter-digit : (a : ℕ) → a < 128 → starts_word a ≡ true → digit a ≡ false
letter-digit = apart_classes digit starts_word refl

or_none : (a b : Bool) → (a || b) ≡ false → (a ≡ false) × (b ≡ false)
or_none true b e = clash refl e
or_none false b e = (refl, e)

wide_digit : (a : ℕ) → 128 ≤ a → digit a ≡ false
wide_digit a h = rw (lt-leb a 0x39 (omega arith)) (and-false (leb 0x30 a))

wide_letter : (a : ℕ) → 128 ≤ a → starts_word a ≡ false
wide_letter a h = simp (lt-leb a 0x5A (omega arith), lt-leb a 0x7A (omega arith), ne_eqb a underscore (λ e. omega arith), and-false)

-- the rule by the first tests
module _ (a b : ℕ) where
  rule_spaces : white_space a ≡ true → rule a b ≡ spaces
  unfolding rule
  rule_spaces e = rw e

  module _ (l : a < 128) where
    rule_numeral : digit a ≡ true → rule a b ≡ numeral
    unfolding rule
    rule_numeral e = rw (digit-space a l e, apart digit a dash e refl, apart digit a slash e refl, e)

    rule_letters : starts_word a ≡ true → rule a b ≡ letters
    unfolding rule
    rule_letters e = rw (letter-space a l e, apart starts_word a dash e refl, apart starts_word a slash e refl, letter-digit a l e, e)

    rule-others : white_space a ≡ false → two a b dash dash ≡ false → two a b slash star ≡ false → digit a ≡ false → starts_word a ≡ false → eqb a quote ≡ false → eqb a double_quote ≡ false → eqb a back_quote ≡ false → eqb a dollar ≡ false → rule a b ≡ others
    unfolding rule
    rule-others ws da sl di st q dq bq dl =
        rw (ws, da, sl, di, st, q, dq, bq, ne_eqb a quote_open (λ e. omega arith), ne_eqb a double_quote_open (λ e. omega arith), dl)

  rule_wide : 128 ≤ a → white_space a ≡ false → eqb a quote_open ≡ false → eqb a double_quote_open ≡ false → rule a b ≡ others
  unfolding rule
  rule_wide h ws q dq =
      let n : (x : ℕ) → x < 128 → eqb a x ≡ false = λ x l. ne_eqb a x (λ e. omega arith) in
      simp (ws, n dash (omega arith), n slash (omega arith), wide_digit a h, wide_letter a h, n quote (omega arith), n double_quote (omega arith), n back_quote (omega arith), q, dq, n dollar (omega arith))

pub at_end_lem : (d : Bool) (s : List ℕ) (i : ℕ) → length s ≤ i → lexeme d (drop i s) ≡ is EndOfStream 0
unfolding lexeme_of
at_end_lem d s i h = ap (lexeme_of d) (chars_end s i h)

-- the token at a byte of ASCII
module _ (d : Bool) (s : List ℕ) (i : ℕ) (h : i < length s) (l : get_or s i 0 < 0x80) where
  abbrev head : Char
  head = record { code = get_or s i 0; bytes = get_or s i 0 ∷ [] }

  abbrev rest : List Char
  rest = chars (drop (i + 1) s)

  whole : chars (drop i s) ≡ head ∷ rest
  whole = chars_ascii s i h l

  by : (R : Rule) → rule (get_or s i 0) (first rest) ≡ R → lexeme d (drop i s) ≡ read R d head rest
  by R e = ap (lexeme_of d) whole ∙ lexeme_by d head rest R e

  second : (x y : ℕ) → 0 < y → y < 0x80 → two (get_or s i 0) (first rest) x y ≡ two (get_or s i 0) (get_or s (i + 1) 0) x y
  second x y p q = ap (λ (b : Bool). eqb (get_or s i 0) x && b) (next_is y p q s (i + 1))

  -- rule 1
  pub by_spaces : white_space (get_or s i 0) ≡ true → lexeme d (drop i s) ≡ is Whitespace (run white_space (chars (drop i s)))
  unfolding read
  by_spaces e = by spaces (rule_spaces (get_or s i 0) (first rest) e) ∙ ap (λ (cs : List Char). is Whitespace (run white_space cs)) (sym whole)

  pub by_dashes : two (get_or s i 0) (get_or s (i + 1) 0) dash dash ≡ true → lexeme d (drop i s) ≡ is Comment (run not_line_feed (chars (drop i s)))
  unfolding read rule white_space in_ranges white_space_table
  by_dashes e =
      let f = second dash dash (omega arith) (omega arith) ∙ e in
      let x : get_or s i 0 ≡ dash = eqb-true (and_left (eqb (get_or s i 0) dash) (eqb (first rest) dash) f) in
      let y : first rest ≡ dash = eqb-true (and_right (eqb (get_or s i 0) dash) (eqb (first rest) dash) f) in
      by dashes (ap₂ rule x y) ∙ ap (λ (cs : List Char). is Comment (run not_line_feed cs)) (sym whole)

  pub by_slash : two (get_or s i 0) (get_or s (i + 1) 0) slash star ≡ true → lexeme d (drop i s) ≡ enclosed 2 (comment_body 0 false (chars (drop (i + 2) s))) Comment ErrorMultilineCommentIsNotClosed
  unfolding read rule white_space in_ranges white_space_table
  by_slash e =
      let f = second slash star (omega arith) (omega arith) ∙ e in
      let x : get_or s i 0 ≡ slash = eqb-true (and_left (eqb (get_or s i 0) slash) (eqb (first rest) star) f) in
      let y : first rest ≡ star = eqb-true (and_right (eqb (get_or s i 0) slash) (eqb (first rest) star) f) in
      let z : get_or s (i + 1) 0 ≡ star = eqb-true (and_right (eqb (get_or s i 0) slash) (eqb (get_or s (i + 1) 0) star) e) in
      let n : (i + 1) + 1 ≡ i + 2 = omega arith in
      by slash_star (ap₂ rule x y)
      ∙ ap (λ (cs : List Char). enclosed 2 (comment_body 0 false (drop 1 cs)) Comment ErrorMultilineCommentIsNotClosed) (chars_ascii s (i + 1) (within_text s (i + 1) (omega arith)) (omega arith))
      ∙ ap (λ (m : ℕ). enclosed 2 (comment_body 0 false (chars (drop m s))) Comment ErrorMultilineCommentIsNotClosed) n

  -- rules 6 and 3
  pub by_numeral : digit (get_or s i 0) ≡ true → lexeme d (drop i s) ≡ number d (chars (drop i s))
  unfolding read
  by_numeral e = by numeral (rule_numeral (get_or s i 0) (first rest) l e) ∙ ap (number d) (sym whole)

  pub by_letters : starts_word (get_or s i 0) ≡ true → lexeme d (drop i s) ≡ is BareWord (run word_character (chars (drop i s)))
  unfolding read
  by_letters e = by letters (rule_letters (get_or s i 0) (first rest) l e) ∙ ap (λ (cs : List Char). is BareWord (run word_character cs)) (sym whole)

  -- rules 4 and 5
  known : (x : ℕ) (R : Rule) → get_or s i 0 ≡ x → rule x (first rest) ≡ R → lexeme d (drop i s) ≡ read R d head rest
  known x R e f = by R (ap (λ (a : ℕ). rule a (first rest)) e ∙ f)

  pub by_quote : get_or s i 0 ≡ quote → lexeme d (drop i s) ≡ enclosed 1 (quoted_body quote false rest) StringToken ErrorSingleQuoteIsNotClosed
  unfolding read
  by_quote e = known quote quoted e (rule-first (first rest)).of_quote

  pub by_double_quote : get_or s i 0 ≡ double_quote → lexeme d (drop i s) ≡ enclosed 1 (quoted_body double_quote false rest) QuotedIdentifier ErrorDoubleQuoteIsNotClosed
  unfolding read
  by_double_quote e = known double_quote double_quoted e (rule-first (first rest)).of_double_quote

  pub by_back_quote : get_or s i 0 ≡ back_quote → lexeme d (drop i s) ≡ enclosed 1 (quoted_body back_quote false rest) QuotedIdentifier ErrorBackQuoteIsNotClosed
  unfolding read
  by_back_quote e = known back_quote back_quoted e (rule-first (first rest)).of_back_quote

  pub by_dollar : get_or s i 0 ≡ dollar → lexeme d (drop i s) ≡ dollar_lexeme (here_doc rest)
  unfolding read
  by_dollar e = known dollar dollars e (rule-first (first rest)).of_dollar

  -- rule 2
  pub by_others : white_space (get_or s i 0) ≡ false → two (get_or s i 0) (get_or s (i + 1) 0) dash dash ≡ false → two (get_or s i 0) (get_or s (i + 1) 0) slash star ≡ false → word_character (get_or s i 0) ≡ false
      → eqb (get_or s i 0) quote ≡ false → eqb (get_or s i 0) double_quote ≡ false → eqb (get_or s i 0) back_quote ≡ false → eqb (get_or s i 0) dollar ≡ false → lexeme d (drop i s) ≡ operator head rest
  unfolding read
  by_others ws da sl wo q dq bq dl =
      let w = or_none (digit (get_or s i 0)) (starts_word (get_or s i 0)) (sym (word_starts (get_or s i 0) l) ∙ wo) in
      by others (rule-others (get_or s i 0) (first rest) l ws (second dash dash (omega arith) (omega arith) ∙ da) (second slash star (omega arith) (omega arith) ∙ sl) w.0 w.1 q dq bq dl)

-- the token at a byte that is no ASCII
module _ (d : Bool) (s : List ℕ) (i : ℕ) (h : i < length s) (l : 0x80 ≤ get_or s i 0) where
  abbrev wide : Char
  wide = char_at (drop i s)

  abbrev after : List Char
  after = chars (drop (i + width wide) s)

  pub wide_code : 128 ≤ wide.code
  wide_code = code_high (drop i s) (let e = get_or-drop i s 0 0 ∙ ap (λ (n : ℕ). get_or s n 0) (add-zero i) in omega arith)

  by_wide : (R : Rule) → rule wide.code (first after) ≡ R → lexeme d (drop i s) ≡ read R d wide after
  by_wide R e = ap (lexeme_of d) (chars-at s i h) ∙ lexeme_by d wide after R e

  pub wide_spaces : white_space wide.code ≡ true → lexeme d (drop i s) ≡ is Whitespace (run white_space (chars (drop i s)))
  unfolding read
  wide_spaces e = by_wide spaces (rule_spaces wide.code (first after) e) ∙ ap (λ (cs : List Char). is Whitespace (run white_space cs)) (sym (chars-at s i h))

  pub wide_quote : wide.code ≡ quote_open → lexeme d (drop i s) ≡ enclosed (width wide) (up_to quote_close after) StringToken ErrorSingleQuoteIsNotClosed
  unfolding read
  wide_quote e = by_wide curly_quoted (ap (λ (a : ℕ). rule a (first after)) e ∙ (rule-first (first after)).of_quote_open)

  pub wide_double_quote : wide.code ≡ double_quote_open → lexeme d (drop i s) ≡ enclosed (width wide) (up_to double_quote_close after) QuotedIdentifier ErrorDoubleQuoteIsNotClosed
  unfolding read
  wide_double_quote e = by_wide curly_double_quoted (ap (λ (a : ℕ). rule a (first after)) e ∙ (rule-first (first after)).of_double_quote_open)

  -- no longer choice fits a character past ASCII
  no_pair : pair wide.code (first after) ≡ 0
  no_pair = go (pair wide.code (first after)) refl
    where
      go : (k : ℕ) → pair wide.code (first after) ≡ k → k ≡ 0
      go zero e = refl
      go (suc k) e = let c = wide_code in absurd (omega (arith, (pair_small wide.code (first after) k e).0))

  no_ship : spaceship wide.code (first after) (first (drop 1 after)) ≡ false
  no_ship = let c = wide_code in rw (ne_eqb wide.code less (λ e. omega arith), ne_eqb wide.code equals (λ e. omega arith))

  pub wide_other : white_space wide.code ≡ false → (wide.code ≡ quote_open → ⊥) → (wide.code ≡ double_quote_open → ⊥) → lexeme d (drop i s) ≡ is (single wide.code) (width wide)
  unfolding read
  wide_other ws q dq =
      by_wide others (rule_wide wide.code (first after) wide_code ws (ne_eqb wide.code quote_open q) (ne_eqb wide.code double_quote_open dq)) ∙ operator-one wide after no_ship no_pair

-- a character past ASCII by itself
pub single_wide : (c : ℕ) → 128 ≤ c → (c ≡ minus_sign → ⊥) → single c ≡ ErrorToken
unfolding single
single_wide c h m =
    let n : (x : ℕ) → x < 128 → eqb c x ≡ false = λ x l. ne_eqb c x (λ e. omega arith) in
    simp (
      n round_open (omega arith),
      n round_close (omega arith),
      n square_open (omega arith),
      n square_close (omega arith),
      n curly_open (omega arith),
      n curly_close (omega arith),
      n comma (omega arith),
      n semicolon (omega arith),
      n dot (omega arith),
      n star (omega arith),
      n plus (omega arith),
      n percent (omega arith),
      n question (omega arith),
      n caret (omega arith),
      n dash (omega arith),
      n slash (omega arith),
      n colon (omega arith),
      n less (omega arith),
      n greater (omega arith),
      n at (omega arith),
      n equals (omega arith),
      n exclamation (omega arith),
      n bar (omega arith),
      ne_eqb c minus_sign m,
    )
