-- RFC 3629: which bytes begin a well-formed character (section 4), and the number that it stands for (section 3).
-- A text is a list of bytes. A byte past its end reads as 0, which is no UTF8-tail, so no rule asks for a length.
use Rattle.std.specs.Prelude.{ℕ, zero, suc, ◌+◌, ◌-◌, ◌*◌, ◌%◌, ◌≤◌, List, [], ◌∷◌, ◌++◌, Bool, cond, ◌&&◌, ◌||◌, length, get_or, take, leb, eqb}

-- %xLO-HI
abbrev pub within : ℕ → ℕ → ℕ → Bool
within lo hi b = leb lo b && leb b hi

-- UTF8-tail = %x80-BF
abbrev pub utf8_tail : ℕ → Bool
utf8_tail b = within 0x80 0xBF b

-- UTF8-1 = %x00-7F
abbrev pub utf8_one : ℕ → Bool
utf8_one a = leb a 0x7F

-- UTF8-2 = %xC2-DF UTF8-tail
abbrev pub utf8_two : ℕ → ℕ → Bool
utf8_two a b = within 0xC2 0xDF a && utf8_tail b

-- UTF8-3 = %xE0 %xA0-BF UTF8-tail / %xE1-EC 2( UTF8-tail ) / %xED %x80-9F UTF8-tail / %xEE-EF 2( UTF8-tail )
abbrev pub utf8_three : ℕ → ℕ → ℕ → Bool
utf8_three a b c =
    (eqb a 0xE0 && within 0xA0 0xBF b && utf8_tail c)
    || (within 0xE1 0xEC a && utf8_tail b && utf8_tail c)
    || (eqb a 0xED && within 0x80 0x9F b && utf8_tail c)
    || (within 0xEE 0xEF a && utf8_tail b && utf8_tail c)

-- UTF8-4 = %xF0 %x90-BF 2( UTF8-tail ) / %xF1-F3 3( UTF8-tail ) / %xF4 %x80-8F 2( UTF8-tail )
abbrev pub utf8_four : ℕ → ℕ → ℕ → ℕ → Bool
utf8_four a b c d =
    (eqb a 0xF0 && within 0x90 0xBF b && utf8_tail c && utf8_tail d)
    || (within 0xF1 0xF3 a && utf8_tail b && utf8_tail c && utf8_tail d)
    || (eqb a 0xF4 && within 0x80 0x8F b && utf8_tail c && utf8_tail d)

-- UTF8-char = UTF8-1 / UTF8-2 / UTF8-3 / UTF8-4: the length of the well-formed character that four bytes begin with, 0 where they begin with none.
unfoldable pub formed : ℕ → ℕ → ℕ → ℕ → ℕ
formed a b c d = cond (utf8_one a) 1 (cond (utf8_two a b) 2 (cond (utf8_three a b c) 3 (cond (utf8_four a b c d) 4 0)))

abbrev pub well_formed : List ℕ → ℕ
well_formed s = formed (get_or s 0 0) (get_or s 1 0) (get_or s 2 0) (get_or s 3 0)

-- Document 02, #105: a run of bytes "begins some well-formed character" where bytes can follow it so that a character has all of the run at its front.
abbrev pub Begins : List ℕ → Type 0
Begins run = (rest : List ℕ) × (length run ≤ well_formed (run ++ rest))

-- "the longest run of bytes there that begins some well-formed character, or one byte if there is none": three bytes where a tail makes a character
-- of them, else two where one tail or two do, else one. 80 stands for any tail (`longest_run`).
unfoldable pub begun : ℕ → ℕ → ℕ → ℕ
begun a b c = cond (utf8_four a b c 0x80) 3 (cond (utf8_three a b 0x80 || utf8_four a b 0x80 0x80) 2 1)

abbrev pub broken_length : List ℕ → ℕ
broken_length s = begun (get_or s 0 0) (get_or s 1 0) (get_or s 2 0)

-- Section 3: the low bits of each byte, put together; by the character's length.
unfoldable pub code_of : ℕ → List ℕ → ℕ
code_of w s =
    let a = get_or s 0 0 in
    let b = get_or s 1 0 % 64 in
    let c = get_or s 2 0 % 64 in
    let d = get_or s 3 0 % 64 in
    cond (eqb w 1) a
    (cond (eqb w 2) (a % 32 * 64 + b)
    (cond (eqb w 3) (a % 16 * 4096 + b * 64 + c)
    (a % 8 * 262144 + b * 4096 + c * 64 + d)))

-- A character of a text: its code and its bytes.
pub record Char : Type 0 where
  pub code : ℕ
  pub bytes : List ℕ

abbrev pub width : Char → ℕ
width c = length c.bytes

-- Document 01, "Numbers that come back": what begins no well-formed character is one character of no class. #105: it is that run, or that byte.
-- Its code is past every code point.
abbrev pub no_code : ℕ
no_code = 0x110000

-- The character of length w that a text begins with; a broken one where w is 0.
unfoldable pub char_of : ℕ → List ℕ → Char
char_of zero s = record { code = no_code; bytes = take (broken_length s) s }
char_of (suc w) s = record { code = code_of (suc w) s; bytes = take (suc w) s }

-- The character at the front of a text.
abbrev pub char_at : List ℕ → Char
char_at s = char_of (well_formed s) s

-- The characters of a text, `skip` bytes of which belong to a character that is read already.
unfoldable pub chars_after : ℕ → List ℕ → List Char
chars_after skip [] = []
chars_after zero (b ∷ s) = let c = char_at (b ∷ s) in c ∷ chars_after (width c - 1) s
chars_after (suc skip) (b ∷ s) = chars_after skip s

abbrev pub chars : List ℕ → List Char
chars s = chars_after 0 s

-- The length of the longest prefix that is well-formed characters throughout, `skip` bytes of it read already.
unfoldable pub valid_after : ℕ → List ℕ → ℕ
valid_after skip [] = 0
valid_after zero (b ∷ s) = elim (well_formed (b ∷ s)) [ zero ↦ 0 | suc w ↦ suc w + valid_after w s ]
valid_after (suc skip) (b ∷ s) = valid_after skip s

-- 2: "length of the longest valid prefix that ends at a character's end"
abbrev pub valid_length : List ℕ → ℕ
valid_length s = valid_after 0 s

-- UTF8-octets = *( UTF8-char )
abbrev pub valid : List ℕ → Bool
valid s = eqb (valid_length s) (length s)
