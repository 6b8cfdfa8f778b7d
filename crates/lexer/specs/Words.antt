-- The characters of words.
use Rattle.std.specs.Prelude.{ℕ, Bool, true, false, cond, ◌&&◌, ltb}
use Rattle.rules.specs.Words.{word_character}
use Rattle.rules.specs.Numbers.{number_word}

-- Rule 3's, and with `$` rule 7's.
abbrev pub word_with : Bool → ℕ → Bool
word_with true = number_word
word_with false = word_character

-- The bits of the bytes of a word, below 64 and from there to 127.
abbrev pub word_mask : Bool → ℕ → ℕ
word_mask dollar b = cond (ltb b 64) (cond dollar 0x03FF_0010_0000_0000 0x03FF_0000_0000_0000) 0x07FF_FFFE_87FF_FFFE

-- A word's byte of ASCII.
abbrev pub ascii_word : ℕ → Bool
ascii_word b = ltb b 0x80 && word_character b
