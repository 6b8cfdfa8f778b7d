-- The examples of RFC 3629, section 7, and what its sections 3 and 4 forbid, computed. Assumes nothing.
use Prim.Native.Nat.{ℕ}
use mathlib.Core.Path.{◌≡◌, refl}
use mathlib.Core.List.{List, [], ◌∷◌, map}
use Rattle.rules.specs.Utf8.{Char, no_code, formed, begun, code_of, char_of, chars_after, chars, valid_after, valid_length}

codes : List ℕ → List ℕ
codes s = map (λ (c : Char). c.code) (chars s)

-- "A<NOT IDENTICAL TO><ALPHA>."
ex_alpha : codes (0x41 ∷ 0xE2 ∷ 0x89 ∷ 0xA2 ∷ 0xCE ∷ 0x91 ∷ 0x2E ∷ []) ≡ 0x41 ∷ 0x2262 ∷ 0x391 ∷ 0x2E ∷ []
unfolding codes chars_after char_of code_of formed
ex_alpha = refl

-- The Korean word "hangugeo".
ex_korean : codes (0xED ∷ 0x95 ∷ 0x9C ∷ 0xEA ∷ 0xB5 ∷ 0xAD ∷ 0xEC ∷ 0x96 ∷ 0xB4 ∷ []) ≡ 0xD55C ∷ 0xAD6D ∷ 0xC5B4 ∷ []
unfolding codes chars_after char_of code_of formed
ex_korean = refl

-- The Japanese word "nihongo".
ex_japanese : codes (0xE6 ∷ 0x97 ∷ 0xA5 ∷ 0xE6 ∷ 0x9C ∷ 0xAC ∷ 0xE8 ∷ 0xAA ∷ 0x9E ∷ []) ≡ 0x65E5 ∷ 0x672C ∷ 0x8A9E ∷ []
unfolding codes chars_after char_of code_of formed
ex_japanese = refl

-- U+233B4, after a byte order mark.
ex_stump : codes (0xEF ∷ 0xBB ∷ 0xBF ∷ 0xF0 ∷ 0xA3 ∷ 0x8E ∷ 0xB4 ∷ []) ≡ 0xFEFF ∷ 0x233B4 ∷ []
unfolding codes chars_after char_of code_of formed
ex_stump = refl

-- The last code point, and the two that the surrogates part.
ex_edges : codes (0xF4 ∷ 0x8F ∷ 0xBF ∷ 0xBF ∷ 0xED ∷ 0x9F ∷ 0xBF ∷ 0xEE ∷ 0x80 ∷ 0x80 ∷ []) ≡ 0x10FFFF ∷ 0xD7FF ∷ 0xE000 ∷ []
unfolding codes chars_after char_of code_of formed
ex_edges = refl

-- Section 3: U+0000 by C0 80, an overlong form; and those of three and of four bytes.
overlong_two : codes (0xC0 ∷ 0x80 ∷ []) ≡ no_code ∷ no_code ∷ []
unfolding codes chars_after char_of code_of formed begun
overlong_two = refl

overlong_three : codes (0xE0 ∷ 0x9F ∷ 0xBF ∷ []) ≡ no_code ∷ no_code ∷ no_code ∷ []
unfolding codes chars_after char_of code_of formed begun
overlong_three = refl

overlong_four : codes (0xF0 ∷ 0x8F ∷ 0xBF ∷ 0xBF ∷ []) ≡ no_code ∷ no_code ∷ no_code ∷ no_code ∷ []
unfolding codes chars_after char_of code_of formed begun
overlong_four = refl

-- Section 3: "the character numbers between U+D800 and U+DFFF" have no form.
surrogate : codes (0xED ∷ 0xA0 ∷ 0x80 ∷ []) ≡ no_code ∷ no_code ∷ no_code ∷ []
unfolding codes chars_after char_of code_of formed begun
surrogate = refl

-- U+110000 and more have none.
beyond : codes (0xF4 ∷ 0x90 ∷ 0x80 ∷ 0x80 ∷ 0xF5 ∷ []) ≡ no_code ∷ no_code ∷ no_code ∷ no_code ∷ no_code ∷ []
unfolding codes chars_after char_of code_of formed begun
beyond = refl

-- Document 01, the bench sheet: 61 C0 80 is valid up to 1, and ED A0 80 up to 0. A form cut short ends the prefix too.
prefix_overlong : valid_length (0x61 ∷ 0xC0 ∷ 0x80 ∷ []) ≡ 1
unfolding valid_after formed
prefix_overlong = refl

prefix_surrogate : valid_length (0xED ∷ 0xA0 ∷ 0x80 ∷ []) ≡ 0
unfolding valid_after formed
prefix_surrogate = refl

prefix_short : valid_length (0x61 ∷ 0xC3 ∷ 0xA9 ∷ 0xE2 ∷ 0x82 ∷ []) ≡ 3
unfolding valid_after formed
prefix_short = refl
