-- By the code of the character, or of none.
use Rattle.std.proofs.Common.{◌≡◌, ◌+◌, ◌<◌, ◌≤◌, ℕ, List, length, drop, inr, sym, ap, ◌∙◌, arith}
use Rattle.rules.specs.Utf8.{Char, width, char_at, chars}
use Rattle.rules.specs.Classes.{white_space}
use Rattle.rules.specs.Characters.{quote_close, double_quote_close}
use Rattle.rules.specs.Kinds.{StringToken, QuotedIdentifier, ErrorSingleQuoteIsNotClosed, ErrorDoubleQuoteIsNotClosed}
use Rattle.rules.specs.Lexeme.{first, is, enclosed}
use Rattle.rules.specs.Operators.{single}
use Rattle.rules.specs.Quotes.{up_to}
use Rattle.rules.specs.Tokens.{after_dot_at}
use Rattle.rules.proofs.Decoding.{chars-at, fits_at, some_left}
use Rattle.rules.proofs.RuleBytes.{wide_spaces, wide_quote, wide_double_quote, wide_other, single_wide, wide_code}
use Rattle.utf8.specs.declared.Unit.{Unit}
use Rattle.utf8.specs.Units.{unit_at, unit_code, unit_len}
use Rattle.utf8.proofs.Units.{unit_first, unit_width}
use Rattle.lexer.specs.Ends.{ends_at}
use Rattle.lexer.proofs.Ends.{lexed_is, opened_by}
use Rattle.lexer.proofs.Letters.{no_space}
use Rattle.lexer.proofs.tokenizer.read_non_ascii.Goals as goal

module _ (s : List ℕ) (i : ℕ) (h : i < length s) where
  abbrev head : Char
  head = char_at (drop i s)

  -- the unit's code and length are the character's
  code_is : (u : Unit) → u ≡ unit_at (drop i s) → (c : ℕ) → c ≡ unit_code u → c ≡ head.code
  code_is u e c k = k ∙ ap unit_code e ∙ unit_first (drop i s) ∙ ap first (chars-at s i h)

  width_is : (u : Unit) → u ≡ unit_at (drop i s) → (n : ℕ) → n ≡ unit_len u → n ≡ width head
  width_is u e n l = l ∙ ap unit_len e ∙ unit_width (drop i s) (some_left s i h)

  fits : (n : ℕ) → n ≡ width head → i + n ≤ length s
  fits n e = omega (arith, (fits_at s i h).1)

  -- a quoted body after the opening quote
  body : (n : ℕ) → n ≡ width head → (close kind error : ℕ)
      → ends_at (i + n) (enclosed 0 (up_to close (chars (drop (i + n) s))) kind error) ≡ ends_at i (enclosed (width head) (up_to close (chars (drop (i + width head) s))) kind error)
  body n e close kind error =
      ap (λ (n : ℕ). ends_at (i + n) (enclosed 0 (up_to close (chars (drop (i + n) s))) kind error)) e
      ∙ opened_by i (width head) (up_to close (chars (drop (i + width head) s))) kind error

pub overflow_add-after : goal.overflow_add-after
overflow_add-after c =
    let w = width_is c.args.text.now c.args.start c.requires.0 _ c.unit_at-u.ensures _ c.unit_len.ensures in
    omega (arith, fits c.args.text.now c.args.start c.requires.0 _ w)

-- past U+3000 no rule names a character
pub returns-then-c-gt12288 : goal.returns-then-c-gt12288
returns-then-c-gt12288 c =
    let s = c.args.text.now in
    let i = c.args.start in
    let w = width_is s i c.requires.0 _ c.unit_at-u.ensures _ c.unit_len.ensures in
    let k = code_is s i c.requires.0 _ c.unit_at-u.ensures _ c.unit_code-c.ensures in
    let past : 0x3000 < (head s i c.requires.0).code = omega (arith, k, c.if-c-gt12288.true) in
    c.new.ensures
    ∙ lexed_is i
    (wide_other (after_dot_at s i) s i c.requires.0 c.requires.1 (no_space _ (omega arith) (inr past)) (λ e. omega arith) (λ e. omega arith)
    ∙ ap (λ (k : ℕ). is k (width (head s i c.requires.0))) (single_wide _ (omega arith) (λ e. omega arith)))
    _ (ap (λ n. i + n) w)

pub returns-then-is_white_space : goal.returns-then-is_white_space
returns-then-is_white_space c =
    let s = c.args.text.now in
    let i = c.args.start in
    let k = code_is s i c.requires.0 _ c.unit_at-u.ensures _ c.unit_code-c.ensures in
    c.new-then-is_white_space.ensures
    ∙ lexed_is i (wide_spaces (after_dot_at s i) s i c.requires.0 c.requires.1 (ap white_space (sym k) ∙ sym c.if-is_white_space.ensures)) _ c.read_whitespace.ensures

pub read_unicode_quoted-requires : goal.read_unicode_quoted-requires
read_unicode_quoted-requires c =
    let w = width_is c.args.text.now c.args.start c.requires.0 _ c.unit_at-u.ensures _ c.unit_len.ensures in
    (fits c.args.text.now c.args.start c.requires.0 _ w, omega arith, omega arith)

pub read_unicode_quoted-requires-in-8220 : goal.read_unicode_quoted-requires-in-8220
read_unicode_quoted-requires-in-8220 c =
    let w = width_is c.args.text.now c.args.start c.requires.0 _ c.unit_at-u.ensures _ c.unit_len.ensures in
    (fits c.args.text.now c.args.start c.requires.0 _ w, omega arith, omega arith)

pub returns-in-8216 : goal.returns-in-8216
returns-in-8216 c =
    let s = c.args.text.now in
    let i = c.args.start in
    let w = width_is s i c.requires.0 _ c.unit_at-u.ensures _ c.unit_len.ensures in
    let k = code_is s i c.requires.0 _ c.unit_at-u.ensures _ c.unit_code-c.ensures in
    c.read_unicode_quoted.ensures ∙ body s i c.requires.0 _ w quote_close StringToken ErrorSingleQuoteIsNotClosed
    ∙ ap (ends_at i) (sym (wide_quote (after_dot_at s i) s i c.requires.0 c.requires.1 (sym k ∙ c.in-8216.is)))

pub returns-in-8220 : goal.returns-in-8220
returns-in-8220 c =
    let s = c.args.text.now in
    let i = c.args.start in
    let w = width_is s i c.requires.0 _ c.unit_at-u.ensures _ c.unit_len.ensures in
    let k = code_is s i c.requires.0 _ c.unit_at-u.ensures _ c.unit_code-c.ensures in
    c.read_unicode_quoted-in-8220.ensures ∙ body s i c.requires.0 _ w double_quote_close QuotedIdentifier ErrorDoubleQuoteIsNotClosed
    ∙ ap (ends_at i) (sym (wide_double_quote (after_dot_at s i) s i c.requires.0 c.requires.1 (sym k ∙ c.in-8220.is)))

pub returns-in-8722 : goal.returns-in-8722
unfolding single
returns-in-8722 c =
    let s = c.args.text.now in
    let i = c.args.start in
    let w = width_is s i c.requires.0 _ c.unit_at-u.ensures _ c.unit_len.ensures in
    let k = code_is s i c.requires.0 _ c.unit_at-u.ensures _ c.unit_code-c.ensures in
    c.new-in-8722.ensures
    ∙ lexed_is i
    (wide_other (after_dot_at s i) s i c.requires.0 c.requires.1 (ap white_space (sym k) ∙ sym c.if-is_white_space.ensures) (λ e. omega arith) (λ e. omega arith)
    ∙ ap (λ (k : ℕ). is (single k) (width (head s i c.requires.0))) (sym k ∙ c.in-8722.is))
    _ (ap (λ n. i + n) w)

pub returns-in_default : goal.returns-in_default
returns-in_default c =
    let s = c.args.text.now in
    let i = c.args.start in
    let w = width_is s i c.requires.0 _ c.unit_at-u.ensures _ c.unit_len.ensures in
    let k = code_is s i c.requires.0 _ c.unit_at-u.ensures _ c.unit_code-c.ensures in
    c.new-in_default.ensures
    ∙ lexed_is i
    (wide_other (after_dot_at s i) s i c.requires.0 c.requires.1 (ap white_space (sym k) ∙ sym c.if-is_white_space.ensures) (λ e. omega arith) (λ e. omega arith)
    ∙ ap (λ (k : ℕ). is k (width (head s i c.requires.0))) (single_wide _ (wide_code (after_dot_at s i) s i c.requires.0 c.requires.1) (λ e. omega arith)))
    _ (ap (λ n. i + n) w)
