-- The worked cases of #102, computed. Assumes nothing.
use mathlib.Core.Path.{refl}
use Rattle.rules.specs.Utf8.{formed, begun, code_of, char_of, chars_after}
use Rattle.rules.specs.Tables.{white_space_table, alphabetic_table, numeric_table}
use Rattle.rules.specs.Classes.{in_ranges, white_space, alphabetic, numeric, alphanumeric}
use Rattle.rules.specs.Lexeme.{run}
use Rattle.rules.specs.Spaces.{comment_body}
use Rattle.rules.specs.Operators.{single, pair, operator}
use Rattle.rules.specs.Quotes.{quoted_body}
use Rattle.rules.specs.Dollars.{tag_of, begins, find, here_doc}
use Rattle.rules.specs.Tokens.{rule, read, lexeme_of, tokens_after}
use Rattle.rules.specs.Statements.{first_in}
use Rattle.rules.specs.StatementCases.{AllFirst, statement_cases}

pub worked : AllFirst statement_cases
unfolding formed begun code_of char_of chars_after white_space_table alphabetic_table numeric_table in_ranges white_space alphabetic numeric alphanumeric run comment_body single pair operator quoted_body tag_of begins find here_doc rule read lexeme_of tokens_after first_in
worked = (refl, (refl, (refl, (refl, (refl, (refl, (refl, (refl, (refl, (refl, (refl, (refl, tt))))))))))))
