-- "Where an answer is an enum, the promises use a definition. The definition gives this paper's number and values for each of the enum's cases."
-- What is answered is a Result: its error is a refusal, and what Ok holds is each function's own.
use Rattle.std.specs.Prelude.{ℕ, ◌≡◌, List, [], length, Result, Ok, Err}
use Rattle.rules.specs.Answers as table
use Rattle.rules.specs.Saved as files
use Rattle.rules.specs.declared.refusal.Refusal.{Refusal}
use Rattle.rules.specs.declared.refusal.Refusal.TheVariants.{TooLong, NotUtf8, NoRoom, Beyond, NoPart, NoMode, OtherLength, Malformed, NoVersion}

abbrev pub refusal_number : Refusal → ℕ
refusal_number (TooLong n) = table.TooLong
refusal_number (NotUtf8 n) = table.NotUtf8
refusal_number (NoRoom n) = table.NoRoom
refusal_number Beyond = table.Beyond
refusal_number NoPart = table.NoPart
refusal_number NoMode = table.NoMode
refusal_number OtherLength = table.OtherLength
refusal_number Malformed = files.Malformed
refusal_number NoVersion = files.NoVersion

abbrev pub refusal_value : Refusal → ℕ
refusal_value (TooLong n) = n
refusal_value (NotUtf8 n) = n
refusal_value (NoRoom n) = n
refusal_value Beyond = 0
refusal_value NoPart = 0
refusal_value NoMode = 0
refusal_value OtherLength = 0
refusal_value Malformed = 0
refusal_value NoVersion = 0

-- What an answer's number is, whatever its Ok holds.
abbrev pub number_of : {T : Type 0} → Result T Refusal → ℕ
number_of (Ok x) = table.Done
number_of (Err refusal) = refusal_number refusal

-- And its value, where that of an Ok is read off what it holds.
abbrev pub value_by : {T : Type 0} → (T → ℕ) → Result T Refusal → ℕ
value_by value (Ok x) = value x
value_by value (Err refusal) = refusal_value refusal

-- An answer that holds a number: tokens stored, or bytes of a copy.
abbrev pub Answer : Type 0
Answer = Result ℕ Refusal

abbrev pub value_of : Answer → ℕ
value_of answer = value_by (λ n. n) answer

-- An answer, with what the lent buffer holds then.
abbrev pub written : Answer → List ℕ → table.Written
written answer buffer = record { number = number_of answer; value = value_of answer; buffer = buffer }

-- An answer has this number and this value.
abbrev pub says : Answer → ℕ → ℕ → Type 0
says answer number value = (number_of answer ≡ number) × (value_of answer ≡ value)

-- A part that is answered, by the bytes of what an Ok holds; "a refused part is empty".
abbrev pub part : {T : Type 0} → Result T Refusal → (T → List ℕ) → table.Part
part (Ok x) bytes = record { number = table.Done; value = length (bytes x); bytes = bytes x }
part (Err refusal) bytes = record { number = refusal_number refusal; value = refusal_value refusal; bytes = [] }
