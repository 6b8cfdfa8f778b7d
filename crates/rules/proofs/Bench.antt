-- The bench sheet's proved cases, computed. Assumes nothing.
use mathlib.Core.Path.{refl}
use Rattle.rules.specs.Utf8.{formed, code_of, char_of, chars_after}
use Rattle.rules.specs.Tables.{white_space_table, alphabetic_table, numeric_table}
use Rattle.rules.specs.Classes.{in_ranges, white_space, alphabetic, numeric, alphanumeric}
use Rattle.rules.specs.Lexeme.{run}
use Rattle.rules.specs.Spaces.{comment_body}
use Rattle.rules.specs.Operators.{single, pair, operator}
use Rattle.rules.specs.Quotes.{quoted_body}
use Rattle.rules.specs.Dollars.{tag_of, begins, find, here_doc}
use Rattle.rules.specs.Numbers.{digits, prefix, fraction, mantissa, power, exponent, figures, all_chars, closing, number}
use Rattle.rules.specs.Tokens.{rule, read, lexeme_of, tokens_after}
use Rattle.rules.specs.Masking.{quote_width, before_dollar, tag_width, front, back, mask_token, mask_tokens, masked}
use Rattle.rules.specs.Bench.{AllHold, cases}

pub bench : AllHold cases
unfolding formed code_of char_of chars_after white_space_table alphabetic_table numeric_table in_ranges white_space alphabetic numeric alphanumeric run comment_body single pair operator quoted_body tag_of begins find here_doc digits prefix fraction mantissa power exponent figures all_chars closing number rule read lexeme_of tokens_after quote_width before_dollar tag_width front back mask_token mask_tokens masked
bench = (refl, (refl, (refl, (refl, (refl, (refl, (refl, (refl, (refl, (refl, (refl, (refl, (refl, tt)))))))))))))
