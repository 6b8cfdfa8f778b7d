-- The worked cases of #103, and of #105 for places, computed. Assumes nothing.
use mathlib.Core.Path.{refl}
use Rattle.rules.specs.Utf8.{formed, begun, code_of, char_of, chars_after}
use Rattle.rules.specs.Places.{before, line_ends, last_line, units_of, place_of}
use Rattle.rules.specs.PlaceCases.{AllLie, place_cases}

pub worked : AllLie place_cases
unfolding formed begun code_of char_of chars_after before line_ends last_line units_of place_of
worked = (refl, (refl, (refl, (refl, (refl, (refl, (refl, (refl, (refl, (refl, (refl, (refl, (refl, (refl, (refl, (refl, (refl, (refl, (refl, (refl, (refl, (refl, (refl, tt)))))))))))))))))))))))
