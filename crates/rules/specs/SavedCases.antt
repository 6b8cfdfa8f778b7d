-- Worked cases for document 02's #101: files made by hand, byte by byte, with what they hold, or with the number and the value of their refusal.
use Rattle.std.specs.Prelude.{ℕ, ◌≡◌, List, [], ◌∷◌, ◌++◌, true, false, length, replicate}
use Rattle.rules.specs.Kinds.{Whitespace, Number, BareWord, EndOfStream, ErrorToken, ErrorMaxQuerySizeExceeded}
use Rattle.rules.specs.Tokens.{Token, token}
use Rattle.rules.specs.Answers.{Done, TooLong, NotUtf8}
use Rattle.rules.specs.Saved.{Malformed, NoVersion, whole_flag, partial_flag, file_of, flag_in, text_in, list_in, accepted, verdict, opening}

-- A file, and what it holds.
pub record SavedCase : Type 0 where
  pub file : List ℕ
  pub text : List ℕ
  pub tokens : List Token
  pub flag : ℕ

-- The writer makes it, and the reader reads it.
abbrev pub IsSaved : SavedCase → Type 0
IsSaved c =
    (accepted (length c.text) c.tokens c.flag ≡ true)
    × (file_of c.text c.tokens c.flag ≡ c.file)
    × (opening c.file ≡ verdict Done (length c.text))
    × (text_in c.file ≡ c.text)
    × (list_in c.file ≡ c.tokens)
    × (flag_in c.file ≡ c.flag)

abbrev pub AllSaved : List SavedCase → Type 0
AllSaved [] = Unit {0}
AllSaved (c ∷ cs) = IsSaved c × AllSaved cs

abbrev a : ℕ
a = 0x61

abbrev space : ℕ
space = 0x20

abbrev one : ℕ
one = 0x31

-- The tokens of `a 1`, and their records.
abbrev three : List Token
three = token BareWord 0 1 ∷ token Whitespace 1 2 ∷ token Number 2 3 ∷ []

abbrev records : List ℕ
records = 4 ∷ 1 ∷ 0 ∷ 0 ∷ 1 ∷ 2 ∷ 0 ∷ 0 ∷ 3 ∷ 3 ∷ 0 ∷ 0 ∷ []

abbrev text : List ℕ
text = a ∷ space ∷ one ∷ []

abbrev pub saved_cases : List SavedCase
saved_cases =
    -- an empty text
    record { file = 0 ∷ 0 ∷ 0 ∷ 0 ∷ 0 ∷ 0 ∷ 0 ∷ 0 ∷ 0 ∷ 1 ∷ 0 ∷ 0 ∷ []; text = []; tokens = []; flag = whole_flag }
    -- `a 1`
    ∷ record { file = text ++ (records ++ (3 ∷ 0 ∷ 0 ∷ 0 ∷ 3 ∷ 0 ∷ 0 ∷ 0 ∷ 0 ∷ 1 ∷ 0 ∷ 0 ∷ [])); text = text; tokens = three; flag = whole_flag }
    -- all of it, as what starts before 3
    ∷ record { file = text ++ (records ++ (3 ∷ 0 ∷ 0 ∷ 0 ∷ 3 ∷ 0 ∷ 0 ∷ 0 ∷ 1 ∷ 1 ∷ 0 ∷ 0 ∷ [])); text = text; tokens = three; flag = partial_flag }
    -- what starts before 1
    ∷ record { file = text ++ (4 ∷ 1 ∷ 0 ∷ 0 ∷ 3 ∷ 0 ∷ 0 ∷ 0 ∷ 1 ∷ 0 ∷ 0 ∷ 0 ∷ 1 ∷ 1 ∷ 0 ∷ 0 ∷ []); text = text; tokens = token BareWord 0 1 ∷ []; flag = partial_flag }
    -- what starts before 0
    ∷ record { file = text ++ (3 ∷ 0 ∷ 0 ∷ 0 ∷ 0 ∷ 0 ∷ 0 ∷ 0 ∷ 1 ∷ 1 ∷ 0 ∷ 0 ∷ []); text = text; tokens = []; flag = partial_flag }
    -- a word of 258 bytes: the low byte comes first
    ∷ record { file = replicate 258 a ++ (4 ∷ 2 ∷ 1 ∷ 0 ∷ 2 ∷ 1 ∷ 0 ∷ 0 ∷ 1 ∷ 0 ∷ 0 ∷ 0 ∷ 0 ∷ 1 ∷ 0 ∷ 0 ∷ []); text = replicate 258 a; tokens = token BareWord 0 258 ∷ []; flag = whole_flag }
    ∷ []

-- A file that is refused.
pub record RefusedCase : Type 0 where
  pub file : List ℕ
  pub number : ℕ
  pub value : ℕ

abbrev pub AllRefused : List RefusedCase → Type 0
AllRefused [] = Unit {0}
AllRefused (c ∷ cs) = (opening c.file ≡ verdict c.number c.value) × AllRefused cs

abbrev refused : ℕ → ℕ → List ℕ → RefusedCase
refused number value file = record { file = file; number = number; value = value }

-- One byte of text, a record, and a trailer.
abbrev around : ℕ → ℕ → ℕ → List ℕ → List ℕ
around byte kind end trailer = byte ∷ kind ∷ end ∷ 0 ∷ 0 ∷ trailer

abbrev good : List ℕ
good = 1 ∷ 0 ∷ 0 ∷ 0 ∷ 1 ∷ 0 ∷ 0 ∷ 0 ∷ 0 ∷ 1 ∷ 0 ∷ 0 ∷ []

abbrev pub refused_cases : List RefusedCase
refused_cases =
    -- under 12 bytes
    refused Malformed 0 []
    ∷ refused Malformed 0 (0 ∷ 0 ∷ 0 ∷ 0 ∷ 0 ∷ 0 ∷ 0 ∷ 0 ∷ 0 ∷ 1 ∷ 0 ∷ [])
    -- version 2, also where the offset is 1,000,001, where the flag is 2 and where a zero byte is none
    ∷ refused NoVersion 0 (around a BareWord 1 (1 ∷ 0 ∷ 0 ∷ 0 ∷ 1 ∷ 0 ∷ 0 ∷ 0 ∷ 0 ∷ 2 ∷ 0 ∷ 0 ∷ []))
    ∷ refused NoVersion 0 (0x41 ∷ 0x42 ∷ 0x0F ∷ 0 ∷ 0 ∷ 0 ∷ 0 ∷ 0 ∷ 2 ∷ 2 ∷ 0 ∷ 1 ∷ [])
    -- that offset, also with that flag; one less is no longer too long, but it lies outside of the file
    ∷ refused TooLong 0 (0x41 ∷ 0x42 ∷ 0x0F ∷ 0 ∷ 0 ∷ 0 ∷ 0 ∷ 0 ∷ 2 ∷ 1 ∷ 0 ∷ 1 ∷ [])
    ∷ refused Malformed 0 (0x40 ∷ 0x42 ∷ 0x0F ∷ 0 ∷ 0 ∷ 0 ∷ 0 ∷ 0 ∷ 0 ∷ 1 ∷ 0 ∷ 0 ∷ [])
    -- flag 2, and each zero byte
    ∷ refused Malformed 0 (around a BareWord 1 (1 ∷ 0 ∷ 0 ∷ 0 ∷ 1 ∷ 0 ∷ 0 ∷ 0 ∷ 2 ∷ 1 ∷ 0 ∷ 0 ∷ []))
    ∷ refused Malformed 0 (around a BareWord 1 (1 ∷ 0 ∷ 0 ∷ 0 ∷ 1 ∷ 0 ∷ 0 ∷ 0 ∷ 0 ∷ 1 ∷ 1 ∷ 0 ∷ []))
    ∷ refused Malformed 0 (around a BareWord 1 (1 ∷ 0 ∷ 0 ∷ 0 ∷ 1 ∷ 0 ∷ 0 ∷ 0 ∷ 0 ∷ 1 ∷ 0 ∷ 1 ∷ []))
    -- one record more than there is, one less, and a byte before the text
    ∷ refused Malformed 0 (around a BareWord 1 (1 ∷ 0 ∷ 0 ∷ 0 ∷ 2 ∷ 0 ∷ 0 ∷ 0 ∷ 0 ∷ 1 ∷ 0 ∷ 0 ∷ []))
    ∷ refused Malformed 0 (around a BareWord 1 (1 ∷ 0 ∷ 0 ∷ 0 ∷ 0 ∷ 0 ∷ 0 ∷ 0 ∷ 1 ∷ 1 ∷ 0 ∷ 0 ∷ []))
    ∷ refused Malformed 0 (a ∷ around a BareWord 1 good)
    -- kinds 0, 39 and 48; an end that does not rise; an end beyond the text
    ∷ refused Malformed 0 (around a 0 1 good)
    ∷ refused Malformed 0 (around a EndOfStream 1 good)
    ∷ refused Malformed 0 (around a ErrorMaxQuerySizeExceeded 1 good)
    ∷ refused Malformed 0 (around a BareWord 0 good)
    ∷ refused Malformed 0 (around a BareWord 2 good)
    -- a full list that stops short, and one that is empty
    ∷ refused Malformed 0 (a ∷ around a BareWord 1 (2 ∷ 0 ∷ 0 ∷ 0 ∷ 1 ∷ 0 ∷ 0 ∷ 0 ∷ 0 ∷ 1 ∷ 0 ∷ 0 ∷ []))
    ∷ refused Malformed 0 (a ∷ 1 ∷ 0 ∷ 0 ∷ 0 ∷ 0 ∷ 0 ∷ 0 ∷ 0 ∷ 0 ∷ 1 ∷ 0 ∷ 0 ∷ [])
    -- a byte that is no character; it is malformed where the kind is none too
    ∷ refused NotUtf8 0 (around 0xFF ErrorToken 1 good)
    ∷ refused Malformed 0 (around 0xFF 0 1 good)
    ∷ []

-- Lists of `a 1` that the writer refuses by 8.
abbrev pub AllWrong : List (List Token) → Type 0
AllWrong [] = Unit {0}
AllWrong (ts ∷ more) = (accepted (length text) ts whole_flag ≡ false) × AllWrong more

abbrev pub wrong_lists : List (List Token)
wrong_lists =
    -- it does not begin at 0
    (token Number 2 3 ∷ [])
    -- a start that is not the end before it
    ∷ (token BareWord 0 1 ∷ token Number 2 3 ∷ [])
    ∷ (token BareWord 0 2 ∷ token Number 1 3 ∷ [])
    -- an end that does not rise
    ∷ (token BareWord 0 1 ∷ token Whitespace 1 1 ∷ token Number 1 3 ∷ [])
    -- an end beyond the text, and a full list that stops short
    ∷ (token BareWord 0 4 ∷ [])
    ∷ (token BareWord 0 1 ∷ [])
    -- the end of the stream
    ∷ (token BareWord 0 3 ∷ token EndOfStream 3 3 ∷ [])
    ∷ []
