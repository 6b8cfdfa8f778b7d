-- Document 01, "What the library offers": "Kind numbers are ours".
use Rattle.std.specs.Prelude.{ℕ, Bool, ◌||◌, eqb}
use Rattle.rules.specs.Utf8.{within}

-- "0 is no token."
abbrev pub NoToken : ℕ
NoToken = 0

abbrev pub Whitespace : ℕ
Whitespace = 1

abbrev pub Comment : ℕ
Comment = 2

abbrev pub Number : ℕ
Number = 3

abbrev pub BareWord : ℕ
BareWord = 4

abbrev pub StringToken : ℕ
StringToken = 5

abbrev pub QuotedIdentifier : ℕ
QuotedIdentifier = 6

abbrev pub HereDoc : ℕ
HereDoc = 7

abbrev pub OpeningRoundBracket : ℕ
OpeningRoundBracket = 8

abbrev pub ClosingRoundBracket : ℕ
ClosingRoundBracket = 9

abbrev pub OpeningSquareBracket : ℕ
OpeningSquareBracket = 10

abbrev pub ClosingSquareBracket : ℕ
ClosingSquareBracket = 11

abbrev pub OpeningCurlyBrace : ℕ
OpeningCurlyBrace = 12

abbrev pub ClosingCurlyBrace : ℕ
ClosingCurlyBrace = 13

abbrev pub Comma : ℕ
Comma = 14

abbrev pub Semicolon : ℕ
Semicolon = 15

abbrev pub Dot : ℕ
Dot = 16

abbrev pub Star : ℕ
Star = 17

abbrev pub DollarSign : ℕ
DollarSign = 18

abbrev pub Plus : ℕ
Plus = 19

abbrev pub Minus : ℕ
Minus = 20

abbrev pub Arrow : ℕ
Arrow = 21

abbrev pub Slash : ℕ
Slash = 22

abbrev pub Percent : ℕ
Percent = 23

abbrev pub QuestionMark : ℕ
QuestionMark = 24

abbrev pub Colon : ℕ
Colon = 25

abbrev pub DoubleColon : ℕ
DoubleColon = 26

abbrev pub Caret : ℕ
Caret = 27

abbrev pub Equals : ℕ
Equals = 28

abbrev pub Spaceship : ℕ
Spaceship = 29

abbrev pub NotEquals : ℕ
NotEquals = 30

abbrev pub Less : ℕ
Less = 31

abbrev pub LessOrEquals : ℕ
LessOrEquals = 32

abbrev pub Greater : ℕ
Greater = 33

abbrev pub GreaterOrEquals : ℕ
GreaterOrEquals = 34

abbrev pub Concatenation : ℕ
Concatenation = 35

abbrev pub At : ℕ
At = 36

abbrev pub DoubleAt : ℕ
DoubleAt = 37

abbrev pub VerticalDelimiter : ℕ
VerticalDelimiter = 38

abbrev pub EndOfStream : ℕ
EndOfStream = 39

abbrev pub ErrorMultilineCommentIsNotClosed : ℕ
ErrorMultilineCommentIsNotClosed = 40

abbrev pub ErrorSingleQuoteIsNotClosed : ℕ
ErrorSingleQuoteIsNotClosed = 41

abbrev pub ErrorDoubleQuoteIsNotClosed : ℕ
ErrorDoubleQuoteIsNotClosed = 42

abbrev pub ErrorBackQuoteIsNotClosed : ℕ
ErrorBackQuoteIsNotClosed = 43

abbrev pub ErrorWrongNumber : ℕ
ErrorWrongNumber = 44

abbrev pub ErrorSingleExclamationMark : ℕ
ErrorSingleExclamationMark = 45

abbrev pub ErrorSinglePipeMark : ℕ
ErrorSinglePipeMark = 46

abbrev pub ErrorToken : ℕ
ErrorToken = 47

abbrev pub ErrorMaxQuerySizeExceeded : ℕ
ErrorMaxQuerySizeExceeded = 48

-- "a hiding kind (2, 5, 7, 40 to 43)"
abbrev pub hiding_kind : ℕ → Bool
hiding_kind k = eqb k Comment || eqb k StringToken || eqb k HereDoc || within ErrorMultilineCommentIsNotClosed ErrorBackQuoteIsNotClosed k

-- "a kind outside 1 to 48" is refused
abbrev pub some_kind : ℕ → Bool
some_kind k = within Whitespace ErrorMaxQuerySizeExceeded k
