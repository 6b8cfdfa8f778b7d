-- Document 02, #101: saved token lists. What a file is, what both its writer and its reader check, and what each of them answers.
use Rattle.std.specs.Prelude.{ℕ, zero, suc, ◌+◌, ◌-◌, ◌*◌, ◌%◌, List, [], ◌∷◌, ◌++◌, Bool, true, not, cond, ◌&&◌, ◌||◌, length, get_or, take, drop, ltb, leb, eqb}
use Rattle.rules.specs.Utf8.{within, valid_length, valid}
use Rattle.rules.specs.Kinds.{Whitespace, EndOfStream, ErrorToken}
use Rattle.rules.specs.Limits.{max_query_size, token_bytes}
use Rattle.rules.specs.Tokens.{Token, token}
use Rattle.rules.specs.Listing.{bytes_of32, pack, room, number_at, unpack}
use Rattle.rules.specs.Answers.{Done, TooLong, NotUtf8, NoRoom, too_long, Written, refused, filled, Part}

-- "8 malformed file or list, 9 unknown version"
abbrev pub Malformed : ℕ
Malformed = 8

abbrev pub NoVersion : ℕ
NoVersion = 9

-- "a flag byte (0 full list, 1 partial)"
abbrev pub whole_flag : ℕ
whole_flag = 0

-- "A partial list holds the tokens, white space included, that start before a position." Of that only what is checked below is asked: "neither lexes".
abbrev pub partial_flag : ℕ
partial_flag = 1

-- "version byte 1"
abbrev pub version : ℕ
version = 1

-- "the token's end in 24 bits": in so many bytes. What is said of records is said for any number of them.
abbrev pub end_bytes : ℕ
end_bytes = 3

-- "A record is a kind byte and the token's end". "All numbers are low byte first."
abbrev pub record_of : ℕ → Token → List ℕ
record_of width t = take 1 (bytes_of32 t.kind) ++ take width (bytes_of32 t.end)

abbrev pub record_bytes : ℕ → ℕ
record_bytes width = suc width

unfoldable pub records_of : ℕ → List Token → List ℕ
records_of width [] = []
records_of width (t ∷ ts) = record_of width t ++ records_of width ts

-- "a trailer of 12 bytes that points back: offset of the first record (32 bits), number of records (32 bits), a flag byte .., version byte 1, two zero bytes"
abbrev pub trailer_of : ℕ → ℕ → ℕ → List ℕ
trailer_of offset count flag = bytes_of32 offset ++ (bytes_of32 count ++ (flag ∷ version ∷ 0 ∷ 0 ∷ []))

abbrev pub trailer_bytes : ℕ
trailer_bytes = 12

-- "the query text first, then the records, then a trailer"
abbrev pub file_of : List ℕ → List Token → ℕ → List ℕ
file_of text ts flag = text ++ (records_of end_bytes ts ++ trailer_of (length text) (length ts) flag)

-- The same read: the token of the first of some records, and so many tokens. "its start is the end before it"
abbrev pub end_in : ℕ → List ℕ → ℕ
end_in width records = number_at (take width (drop 1 records)) 0

abbrev pub token_of_record : ℕ → ℕ → List ℕ → Token
token_of_record width start records = token (get_or records 0 0) start (end_in width records)

unfoldable pub tokens_in : ℕ → ℕ → ℕ → List ℕ → List Token
tokens_in width zero start records = []
tokens_in width (suc n) start records = token_of_record width start records ∷ tokens_in width n (end_in width records) (drop (record_bytes width) records)

-- And the trailer of a file of at least its bytes.
abbrev pub trailer_at : List ℕ → ℕ
trailer_at file = length file - trailer_bytes

abbrev pub offset_in : List ℕ → ℕ
offset_in file = number_at file (trailer_at file)

abbrev pub count_in : List ℕ → ℕ
count_in file = number_at file (trailer_at file + 4)

abbrev pub flag_in : List ℕ → ℕ
flag_in file = get_or file (trailer_at file + 8) 0

abbrev pub version_in : List ℕ → ℕ
version_in file = get_or file (trailer_at file + 9) 0

abbrev pub zeros_in : List ℕ → Bool
zeros_in file = eqb (get_or file (trailer_at file + 10) 0) 0 && eqb (get_or file (trailer_at file + 11) 0) 0

-- "its text is a part of the file"; "the first starts at 0"
abbrev pub text_in : List ℕ → List ℕ
text_in file = take (offset_in file) file

abbrev pub list_in : List ℕ → List Token
list_in file = tokens_in end_bytes (count_in file) 0 (drop (offset_in file) file)

-- "kinds are 1 to 47 without 39"
abbrev pub saved_kind : ℕ → Bool
saved_kind k = within Whitespace ErrorToken k && not (eqb k EndOfStream)

-- "starts chain, ends rise and stay in the text": a token after one that ended there, in a text of some length
abbrev pub goes_on : ℕ → ℕ → Token → Bool
goes_on size at t = eqb t.start at && ltb at t.end && leb t.end size && saved_kind t.kind

unfoldable pub chains : ℕ → ℕ → List Token → Bool
chains size at [] = true
chains size at (t ∷ ts) = goes_on size at t && chains size t.end ts

-- Where the last token ends.
unfoldable pub end_of : ℕ → List Token → ℕ
end_of at [] = at
end_of at (t ∷ ts) = end_of t.end ts

-- What "Both check". "a full list ends with it"; "a flag above 1" is none.
abbrev pub accepted : ℕ → List Token → ℕ → Bool
accepted size ts flag = leb flag partial_flag && chains size 0 ts && (eqb flag partial_flag || eqb (end_of 0 ts) size)

-- "The writer takes text, packed list and flag"; "an incomplete last token is 8"
abbrev pub tokens_of : List ℕ → List Token
tokens_of list = unpack (room list) list

abbrev pub writable : List ℕ → List ℕ → ℕ → Bool
writable text list flag = eqb (length list % token_bytes) 0 && accepted (length text) (tokens_of list) flag

-- 3: bytes needed; 0: bytes written.
abbrev pub stored_file : List ℕ → List ℕ → Written
stored_file saved file =
    cond (ltb (length file) (length saved)) (refused NoRoom (length saved) file)
    (record { number = Done; value = length saved; buffer = filled saved file })

-- The writer: "in the order 9, 1 .., 8, 2, 3", of which it has no 9.
unfoldable pub saving : List ℕ → List ℕ → ℕ → List ℕ → Written
saving text list flag file =
    cond (too_long text) (refused TooLong 0 file)
    (cond (not (writable text list flag)) (refused Malformed 0 file)
    (cond (not (valid text)) (refused NotUtf8 (valid_length text) file)
    (stored_file (file_of text (tokens_of list) flag) file)))

-- "The reader also checks lengths, flag and zero bytes".
abbrev pub readable : List ℕ → Bool
readable file = eqb (length file) (offset_in file + count_in file * record_bytes end_bytes + trailer_bytes) && zeros_in file && accepted (offset_in file) (list_in file) (flag_in file)

-- What is answered before any room is asked: a number and a value.
pub record Verdict : Type 0 where
  pub number : ℕ
  pub value : ℕ

abbrev pub verdict : ℕ → ℕ → Verdict
verdict number value = record { number = number; value = value }

-- "in the order 9, 1 (by the trailer's offset), 8, 2, 3; a file under 12 bytes is 8. Value 0"; where it is none of these, the text's length.
unfoldable pub opening : List ℕ → Verdict
opening file =
    cond (ltb (length file) trailer_bytes) (verdict Malformed 0)
    (cond (not (eqb (version_in file) version)) (verdict NoVersion 0)
    (cond (ltb max_query_size (offset_in file)) (verdict TooLong 0)
    (cond (not (readable file)) (verdict Malformed 0)
    (cond (not (valid (text_in file))) (verdict NotUtf8 (valid_length (text_in file)))
    (verdict Done (offset_in file))))))

abbrev pub opens : List ℕ → Bool
opens file = eqb (opening file).number Done

-- The list that is read: number, value, the flag, and what the lent buffer holds afterwards.
pub record Loaded : Type 0 where
  pub number : ℕ
  pub value : ℕ
  pub flag : ℕ
  pub buffer : List ℕ

abbrev pub refused_load : ℕ → ℕ → List ℕ → Loaded
refused_load number value list = record { number = number; value = value; flag = 0; buffer = list }

-- The reader: "its 3 counts tokens"; 0: tokens stored.
unfoldable pub loading : List ℕ → List ℕ → Loaded
loading file list =
    cond (not (opens file)) (refused_load (opening file).number (opening file).value list)
    (cond (ltb (room list) (count_in file)) (refused_load NoRoom (count_in file) list)
    (record { number = Done; value = count_in file; flag = flag_in file; buffer = filled (pack (list_in file)) list }))

-- Its text: the same tests but 3; "a refused part is empty".
unfoldable pub saved_text : List ℕ → Part
saved_text file = record { number = (opening file).number; value = (opening file).value; bytes = cond (opens file) (text_in file) [] }
