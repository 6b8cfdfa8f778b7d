-- Rule 3: bare words.
use Rattle.std.specs.Prelude.{ℕ, List, Bool, ◌||◌, eqb}
use Rattle.rules.specs.Utf8.{Char}
use Rattle.rules.specs.Classes.{letter, alphanumeric}
use Rattle.rules.specs.Characters.{underscore}
use Rattle.rules.specs.Kinds.{BareWord}
use Rattle.rules.specs.Lexeme.{Lexeme, is, run}

-- 3.1: "an ASCII letter or `_`".
abbrev pub starts_word : ℕ → Bool
starts_word c = letter c || eqb c underscore

-- 3.1: "then alphanumeric characters .. and `_`". 3.2: "Not `$`."
abbrev pub word_character : ℕ → Bool
word_character c = alphanumeric c || eqb c underscore

-- A word, from its first character on, which is a word character too.
abbrev pub bare_word : List Char → Lexeme
bare_word cs = is BareWord (run word_character cs)
