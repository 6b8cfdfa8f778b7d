-- A case of the file of answers, at the start of what is left of the file: the text's length, the text, how many tokens, the list.
use Rattle.std.specs.Prelude.{ℕ, ◌+◌, ◌*◌, List, take, drop}
use Rattle.rules.specs.Limits.{token_bytes}
use Rattle.rules.specs.Listing.{number_at}

abbrev pub text_of : List ℕ → List ℕ
text_of s = take (number_at s 0) (drop 4 s)

abbrev pub after_text : List ℕ → List ℕ
after_text s = drop (4 + number_at s 0) s

abbrev pub list_of : List ℕ → List ℕ
list_of s = take (number_at (after_text s) 0 * token_bytes) (drop 4 (after_text s))
