-- The worked cases of #105, computed. Assumes nothing.
use mathlib.Core.Path.{refl}
use Rattle.rules.specs.Utf8.{formed, begun, code_of, char_of, chars_after}
use Rattle.rules.specs.Tables.{white_space_table}
use Rattle.rules.specs.Classes.{in_ranges, white_space}
use Rattle.rules.specs.Operators.{single, pair, operator}
use Rattle.rules.specs.Tokens.{rule, read, lexeme_of, tokens_after}
use Rattle.rules.specs.UnitCases.{AllCut, unit_cases, OneToken}

pub worked : AllCut unit_cases × OneToken
unfolding formed begun code_of char_of chars_after white_space_table in_ranges white_space single pair operator rule read lexeme_of tokens_after
worked = ((refl, (refl, (refl, (refl, (refl, tt))))), refl)
