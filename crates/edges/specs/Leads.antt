-- What a byte tells of the token that starts with it, and of the one that ends before it.
use Rattle.std.specs.Prelude.{ℕ, zero, suc, ◌+◌, ◌*◌, ◌/◌, ◌%◌, ◌^◌, List, [], ◌∷◌, Bool, cond, ◌||◌, ltb, eqb}
use Rattle.rules.specs.Classes.{digit}
use Rattle.rules.specs.Characters.{exclamation, dollar, star, dash, dot, slash, colon, less, equals, greater, at, backslash, bar}
use Rattle.rules.specs.Kinds.{NoToken, Whitespace, Number, BareWord, DollarSign}
use Rattle.rules.specs.Words.{starts_word}
use Rattle.lexer.specs.FirstBytes.{among, first_byte_kind}

-- The first bytes of what is longer than a byte: with `=` after them, with `>`, and with another second byte.
abbrev pub before_equals : List ℕ
before_equals = exclamation ∷ equals ∷ less ∷ greater ∷ []

abbrev pub before_greater : List ℕ
before_greater = dash ∷ equals ∷ less ∷ []

abbrev pub before_others : List ℕ
before_others = colon ∷ bar ∷ at ∷ dash ∷ slash ∷ []

abbrev pub others : List ℕ
others = colon ∷ bar ∷ at ∷ dash ∷ star ∷ []

-- What a byte is to the token before it: past ASCII, one that starts a word, a dot or `>`, another second byte, a digit, a `$` or `=`, or nothing of these.
-- Seven are all that a number of 16 bits has room for.
unfoldable pub after : ℕ → ℕ
after b =
    cond (ltb b 0x80)
    (cond (starts_word b) 1
    (cond (eqb b dot || eqb b greater) 2
    (cond (among others b) 3
    (cond (digit b) 5
    (cond (eqb b dollar || eqb b equals) 6
    0)))))
    4

-- Of these, what a token that starts with the byte minds: a bit each. A `$` alone minds what a tag may have, and a `$`.
unfoldable pub minds : ℕ → ℕ
minds a =
    cond (eqb a dollar) 98
    (cond (eqb (first_byte_kind a) NoToken) 127
    (cond (eqb (first_byte_kind a) Whitespace) 16
    (cond (eqb (first_byte_kind a) Number) 22
    (cond (eqb (first_byte_kind a) BareWord) 18
    (cond (ltb (first_byte_kind a) 0x80) 0
    (cond (eqb a backslash) 127
    (cond (among before_greater a) 4 0 + cond (among before_others a) 8 0 + cond (among before_equals a) 64 0)))))))

-- The kind of a token that starts with the byte and minds nothing of the next.
unfoldable pub plain_kind : ℕ → ℕ
plain_kind a = cond (eqb a dollar) DollarSign (first_byte_kind a % 128)

-- With the kind below.
unfoldable pub lead : ℕ → ℕ
lead a = plain_kind a + minds a * 64 + after a * 8192

-- A token whose first byte has the number v minds nothing of the byte after it, which has the number u.
abbrev pub told : ℕ → ℕ → Bool
told v u = eqb (v / 64 / 2 ^ (u / 8192) % 2) 0

-- The numbers of n bytes from b on.
unfoldable pub leads_from : ℕ → ℕ → List ℕ
leads_from zero b = []
leads_from (suc n) b = lead b ∷ leads_from n (b + 1)

unfoldable pub lead_table : List ℕ
lead_table = leads_from 256 0
