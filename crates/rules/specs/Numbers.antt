-- Rules 6 and 7: numbers, and words that start with one. Every character of a number is one byte long, so the bytes read are the characters read.
use Rattle.std.specs.Prelude.{ℕ, suc, ◌+◌, List, [], ◌∷◌, Bool, true, false, cond, ◌&&◌, ◌||◌, take, drop, eqb}
use Rattle.rules.specs.Utf8.{Char}
use Rattle.rules.specs.Classes.{digit, hex_digit, alphabetic, alphanumeric}
use Rattle.rules.specs.Characters.{dollar, plus, dash, dot, zero_digit, one_digit, capital_b, capital_e, capital_p, capital_x, underscore, small_b, small_e, small_p, small_x}
use Rattle.rules.specs.Kinds.{Number, BareWord, ErrorWrongNumber}
use Rattle.rules.specs.Lexeme.{first, Lexeme, is, run}

-- 6.2: "A run of digits takes a `_` only straight after a digit of that run and before another of its kind." `after`: a digit of the run stands before.
unfoldable pub digits : (ℕ → Bool) → Bool → List Char → ℕ
digits p after [] = 0
digits p after (c ∷ cs) =
    elim (p c.code) [
      | true ↦ suc (digits p true cs)
      | false ↦ elim (eqb c.code underscore && after && p (first cs)) [ true ↦ suc (digits p false cs) | false ↦ 0 ]
    ]

abbrev pub either : ℕ → ℕ → ℕ → Bool
either a b c = eqb c a || eqb c b

-- How a number opens: whether its digits are hex, and the characters before its first run.
pub record Opening : Type 0 where
  pub hex : Bool
  pub size : ℕ

-- 6.5: "`0x`/`0X` before a hex digit is hex; `0b`/`0B` before 0 or 1 is taken, but decimal digits follow."
-- 6.3: "The digit that starts the token belongs to no run".
unfoldable pub prefix : ℕ → ℕ → ℕ → Opening
prefix a b c =
    cond (eqb a zero_digit && either small_x capital_x b && hex_digit c) (record { hex = true; size = 2 })
    (cond (eqb a zero_digit && either small_b capital_b b && either zero_digit one_digit c) (record { hex = false; size = 2 })
    (record { hex = false; size = 1 }))

abbrev pub opening : List Char → Opening
opening cs = prefix (first cs) (first (drop 1 cs)) (first (drop 2 cs))

abbrev pub radix_digit : Bool → ℕ → Bool
radix_digit true c = hex_digit c
radix_digit false c = digit c

-- 6.6: "Then an optional `.` with digits (hex digits in hex) or none", after a whole part of that many characters.
unfoldable pub fraction : (ℕ → Bool) → ℕ → List Char → ℕ
fraction p whole cs = elim (eqb (first (drop whole cs)) dot) [ true ↦ suc whole + digits p false (drop (suc whole) cs) | false ↦ whole ]

-- The whole part and the fraction.
unfoldable pub mantissa : List Char → ℕ
mantissa cs =
    let o = opening cs in
    fraction (radix_digit o.hex) (o.size + digits (radix_digit o.hex) false (drop o.size cs)) cs

-- A part of a number: its bytes, and whether it ended well.
pub record Figures : Type 0 where
  pub well : Bool
  pub size : ℕ

-- 6.6: "only where e/E (p/P in hex) comes next".
abbrev pub exponent_mark : Bool → ℕ → Bool
exponent_mark true c = either small_p capital_p c
exponent_mark false c = either small_e capital_e c

-- 6.6: "an optional sign".
abbrev pub sign_length : ℕ → ℕ
sign_length c = cond (either plus dash c) 1 0

-- 6.6: "and decimal digits; no digit there is WrongNumber at once", after a letter and a sign of n bytes.
unfoldable pub power : ℕ → List Char → Figures
power n cs = elim (digit (first (drop n cs))) [ true ↦ record { well = true; size = n + digits digit false (drop n cs) } | false ↦ record { well = false; size = n } ]

-- 6.6: the exponent after the mantissa, where there is one.
unfoldable pub exponent : Bool → List Char → Figures
exponent hex cs = elim (exponent_mark hex (first cs)) [ false ↦ record { well = true; size = 0 } | true ↦ power (suc (sign_length (first (drop 1 cs)))) cs ]

-- Rule 6, from the digit on that starts the token (6.1); `after_dot`: the byte before is a dot.
unfoldable pub figures : Bool → List Char → Figures
-- 6.4: "If the byte before is `.`, digits only."
figures true cs = record { well = true; size = suc (digits digit false (drop 1 cs)) }
figures false cs =
    let m = mantissa cs in
    let e = exponent (opening cs).hex (drop m cs) in
    record { well = e.well; size = m + e.size }

-- 7.1: "alphanumerics, `_` and `$`".
abbrev pub number_word : ℕ → Bool
number_word c = alphanumeric c || eqb c underscore || eqb c dollar

-- 7.1: "and the next character is Alphabetic or `_`".
abbrev pub starts_suffix : ℕ → Bool
starts_suffix c = alphabetic c || eqb c underscore

unfoldable pub all_chars : (ℕ → Bool) → List Char → Bool
all_chars p [] = true
all_chars p (c ∷ cs) = p c.code && all_chars p cs

-- Rule 7, after a number of n characters.
unfoldable pub closing : ℕ → List Char → Lexeme
closing n cs =
    elim (starts_suffix (first (drop n cs))) [
      | false ↦ is Number n
      -- 7.2: "The whole is BareWord if it consists of these only, otherwise WrongNumber."
      | true ↦ is (cond (all_chars number_word (take n cs)) BareWord ErrorWrongNumber) (n + run number_word (drop n cs))
    ]

-- 7.1: "If rule 6 ended well"; 6.6: "WrongNumber at once".
unfoldable pub number : Bool → List Char → Lexeme
number after_dot cs = elim (figures after_dot cs).well [ true ↦ closing (figures after_dot cs).size cs | false ↦ is ErrorWrongNumber (figures after_dot cs).size ]
