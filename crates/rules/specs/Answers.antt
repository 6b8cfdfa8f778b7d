-- Document 01, "Numbers that come back": for each entry point, what it answers and what each lent buffer holds afterwards.
use Rattle.std.specs.Prelude.{ℕ, ◌-◌, List, [], ◌∷◌, ◌++◌, Bool, not, cond, ◌||◌, length, get_or, take, drop, ltb, eqb}
use Rattle.rules.specs.Utf8.{utf8_tail, valid_length, valid}
use Rattle.rules.specs.Kinds.{NoToken, EndOfStream, ErrorMaxQuerySizeExceeded, hiding_kind, some_kind}
use Rattle.rules.specs.Limits.{max_query_size}
use Rattle.rules.specs.Tokens.{Token, token, token_at}
use Rattle.rules.specs.Listing.{lean, whole_list, list_up_to, pack, room}
use Rattle.rules.specs.Masking.{masked}
use Rattle.rules.specs.Places.{Place, place_of}

-- The table of numbers.
abbrev pub Done : ℕ
Done = 0

abbrev pub TooLong : ℕ
TooLong = 1

abbrev pub NotUtf8 : ℕ
NotUtf8 = 2

abbrev pub NoRoom : ℕ
NoRoom = 3

abbrev pub Beyond : ℕ
Beyond = 4

abbrev pub NoPart : ℕ
NoPart = 5

abbrev pub NoMode : ℕ
NoMode = 6

abbrev pub OtherLength : ℕ
OtherLength = 7

-- 1: "text over 1,000,000 bytes"
abbrev pub too_long : List ℕ → Bool
too_long text = ltb max_query_size (length text)

-- 4: "cursor or place beyond the text's length"
abbrev pub beyond : List ℕ → ℕ → Bool
beyond text at = ltb (length text) at

-- 5: "start above end, end beyond the text, start or end on a continuation byte (80 to BF)"
abbrev pub no_part : List ℕ → ℕ → ℕ → Bool
no_part text start end = ltb end start || ltb (length text) end || utf8_tail (get_or text start 0) || utf8_tail (get_or text end 0)

-- 6: "listing mode neither 0 (full) nor 1 (lean)"
abbrev pub no_mode : ℕ → Bool
no_mode mode = ltb lean mode

-- What a call that writes gives: number, value, and what the lent buffer holds afterwards.
pub record Written : Type 0 where
  pub number : ℕ
  pub value : ℕ
  pub buffer : List ℕ

-- "A refusal writes nothing".
abbrev pub refused : ℕ → ℕ → List ℕ → Written
refused number value buffer = record { number = number; value = value; buffer = buffer }

-- "fills the front of the buffer and keeps the rest"
abbrev pub filled : List ℕ → List ℕ → List ℕ
filled bytes buffer = bytes ++ drop (length bytes) buffer

-- 3: "output needs more room", with "tokens .. needed"; 0: "a listing: tokens stored".
unfoldable pub stored : List Token → ℕ → List ℕ → Written
stored ts number list =
    cond (ltb (room list) (length ts)) (refused NoRoom (length ts) list) (record { number = number; value = length ts; buffer = filled (pack ts) list })

-- "One exception: a whole listing of over-long text stores kind 48 at 0..0 and kind 39 at 0..0 and answers 1 with value 2; with room for fewer than two it answers 3 with value 2."
abbrev pub too_long_list : List Token
too_long_list = token ErrorMaxQuerySizeExceeded 0 0 ∷ token EndOfStream 0 0 ∷ []

-- "Checked in the order 6, 1, 2, 4, 5, 7, 3. Nothing else is a reason to refuse: a call to which none of its reasons applies answers 0." Whole listing; 2: "not UTF-8 (listings, masked copy)".
unfoldable pub listing : ℕ → List ℕ → List ℕ → Written
listing mode text list =
    cond (no_mode mode) (refused NoMode 0 list)
    (cond (too_long text) (stored too_long_list TooLong list)
    (cond (not (valid text)) (refused NotUtf8 (valid_length text) list)
    (stored (whole_list mode text) Done list)))

-- Listing up to a position.
unfoldable pub listing_up_to : ℕ → ℕ → List ℕ → List ℕ → Written
listing_up_to mode position text list =
    cond (no_mode mode) (refused NoMode 0 list)
    (cond (too_long text) (refused TooLong 0 list)
    (cond (not (valid text)) (refused NotUtf8 (valid_length text) list)
    (stored (list_up_to mode position text) Done list)))

-- A step: number, value, the token, and the cursor to go on from.
pub record Stepped : Type 0 where
  pub number : ℕ
  pub value : ℕ
  pub token : Token
  pub cursor : ℕ

-- "a refused step gives kind 0 at 0..0 and the cursor back"
abbrev pub refused_step : ℕ → ℕ → Stepped
refused_step number cursor = record { number = number; value = 0; token = token NoToken 0 0; cursor = cursor }

-- One token at a cursor; 0: "a step: the next cursor". "Steps, token text, shown text and place don't test the whole text for UTF-8."
unfoldable pub step : List ℕ → ℕ → Stepped
step text cursor =
    cond (too_long text) (refused_step TooLong cursor)
    (cond (beyond text cursor) (refused_step Beyond cursor)
    (record { number = Done; value = (token_at text cursor).end; token = token_at text cursor; cursor = (token_at text cursor).end }))

-- A part: number, value, and the part's bytes.
pub record Part : Type 0 where
  pub number : ℕ
  pub value : ℕ
  pub bytes : List ℕ

-- "a refused part is empty"
abbrev pub refused_part : ℕ → Part
refused_part number = record { number = number; value = 0; bytes = [] }

-- 0: "a copy or part: its bytes". "the part of the text from start to end"
abbrev pub part_of : List ℕ → ℕ → ℕ → Part
part_of text start end = record { number = Done; value = end - start; bytes = take (end - start) (drop start text) }

-- Token text.
unfoldable pub token_text : List ℕ → ℕ → ℕ → Part
token_text text start end =
    cond (too_long text) (refused_part TooLong)
    (cond (no_part text start end) (refused_part NoPart)
    (part_of text start end))

-- Shown text: "the part of the masked copy for a hiding kind (2, 5, 7, 40 to 43) and the part of the text otherwise".
unfoldable pub shown_text : List ℕ → List ℕ → ℕ → ℕ → ℕ → Part
shown_text text copy kind start end =
    cond (too_long text) (refused_part TooLong)
    -- 5: "for shown text also a kind outside 1 to 48"
    (cond (no_part text start end || not (some_kind kind)) (refused_part NoPart)
    -- 7: "copy's length is not the text's"
    (cond (not (eqb (length copy) (length text))) (refused_part OtherLength)
    (part_of (cond (hiding_kind kind) copy text) start end)))

-- Masked copy; 3: "bytes needed".
unfoldable pub masked_copy : List ℕ → List ℕ → Written
masked_copy text copy =
    cond (too_long text) (refused TooLong 0 copy)
    (cond (not (valid text)) (refused NotUtf8 (valid_length text) copy)
    (cond (ltb (length copy) (length text)) (refused NoRoom (length text) copy)
    (record { number = Done; value = length text; buffer = filled (masked text) copy })))

-- A place: number, value, and line and column.
pub record Placed : Type 0 where
  pub number : ℕ
  pub value : ℕ
  pub place : Place

-- "a refused place is line 0, column 0"
abbrev pub refused_place : ℕ → Placed
refused_place number = record { number = number; value = 0; place = record { line = 0; column = 0 } }

-- Place of a byte offset; 0: "a place: the offset".
unfoldable pub place_at : List ℕ → ℕ → Placed
place_at text offset =
    cond (too_long text) (refused_place TooLong)
    (cond (beyond text offset) (refused_place Beyond)
    (record { number = Done; value = offset; place = place_of text offset }))
