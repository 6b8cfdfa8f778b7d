-- The characters that document 01 names, by their codes.
use Rattle.std.specs.Prelude.{ℕ}

abbrev pub line_feed : ℕ
line_feed = 0x0A

abbrev pub carriage_return : ℕ
carriage_return = 0x0D

abbrev pub exclamation : ℕ
exclamation = 0x21

abbrev pub double_quote : ℕ
double_quote = 0x22

abbrev pub hash : ℕ
hash = 0x23

abbrev pub dollar : ℕ
dollar = 0x24

abbrev pub percent : ℕ
percent = 0x25

abbrev pub quote : ℕ
quote = 0x27

abbrev pub round_open : ℕ
round_open = 0x28

abbrev pub round_close : ℕ
round_close = 0x29

abbrev pub star : ℕ
star = 0x2A

abbrev pub plus : ℕ
plus = 0x2B

abbrev pub comma : ℕ
comma = 0x2C

abbrev pub dash : ℕ
dash = 0x2D

abbrev pub dot : ℕ
dot = 0x2E

abbrev pub slash : ℕ
slash = 0x2F

abbrev pub zero_digit : ℕ
zero_digit = 0x30

abbrev pub one_digit : ℕ
one_digit = 0x31

abbrev pub colon : ℕ
colon = 0x3A

abbrev pub semicolon : ℕ
semicolon = 0x3B

abbrev pub less : ℕ
less = 0x3C

abbrev pub equals : ℕ
equals = 0x3D

abbrev pub greater : ℕ
greater = 0x3E

abbrev pub question : ℕ
question = 0x3F

abbrev pub at : ℕ
at = 0x40

abbrev pub capital_b : ℕ
capital_b = 0x42

abbrev pub capital_e : ℕ
capital_e = 0x45

abbrev pub capital_g : ℕ
capital_g = 0x47

abbrev pub capital_p : ℕ
capital_p = 0x50

abbrev pub capital_x : ℕ
capital_x = 0x58

abbrev pub square_open : ℕ
square_open = 0x5B

abbrev pub backslash : ℕ
backslash = 0x5C

abbrev pub square_close : ℕ
square_close = 0x5D

abbrev pub caret : ℕ
caret = 0x5E

abbrev pub underscore : ℕ
underscore = 0x5F

abbrev pub back_quote : ℕ
back_quote = 0x60

abbrev pub small_b : ℕ
small_b = 0x62

abbrev pub small_e : ℕ
small_e = 0x65

abbrev pub small_g : ℕ
small_g = 0x67

abbrev pub small_p : ℕ
small_p = 0x70

abbrev pub small_x : ℕ
small_x = 0x78

abbrev pub curly_open : ℕ
curly_open = 0x7B

abbrev pub bar : ℕ
bar = 0x7C

abbrev pub curly_close : ℕ
curly_close = 0x7D

abbrev pub quote_open : ℕ
quote_open = 0x2018

abbrev pub quote_close : ℕ
quote_close = 0x2019

abbrev pub double_quote_open : ℕ
double_quote_open = 0x201C

abbrev pub double_quote_close : ℕ
double_quote_close = 0x201D

abbrev pub minus_sign : ℕ
minus_sign = 0x2212
