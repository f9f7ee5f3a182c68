-- Code points by name, for definitions that look at single characters; rows of them are texts (`codes "(?<"`).
-- Why: docs/DECISIONS.md, 96.
use Rattle.std.specs.Prelude.{ℕ}

abbrev pub backspace : ℕ
backspace = 8

abbrev pub tab : ℕ
tab = 9

abbrev pub line_feed : ℕ
line_feed = 10

abbrev pub vertical_tab : ℕ
vertical_tab = 11

abbrev pub form_feed : ℕ
form_feed = 12

abbrev pub carriage_return : ℕ
carriage_return = 13

abbrev pub exclamation_mark : ℕ
exclamation_mark = 33

abbrev pub quotation_mark : ℕ
quotation_mark = 34

abbrev pub number_sign : ℕ
number_sign = 35

abbrev pub dollar_sign : ℕ
dollar_sign = 36

abbrev pub percent_sign : ℕ
percent_sign = 37

abbrev pub ampersand : ℕ
ampersand = 38

abbrev pub apostrophe : ℕ
apostrophe = 39

abbrev pub left_parenthesis : ℕ
left_parenthesis = 40

abbrev pub right_parenthesis : ℕ
right_parenthesis = 41

abbrev pub asterisk : ℕ
asterisk = 42

abbrev pub plus : ℕ
plus = 43

abbrev pub comma : ℕ
comma = 44

abbrev pub hyphen : ℕ
hyphen = 45

abbrev pub full_stop : ℕ
full_stop = 46

abbrev pub slash : ℕ
slash = 47

abbrev pub zero : ℕ
zero = 48

abbrev pub one : ℕ
one = 49

abbrev pub three : ℕ
three = 51

abbrev pub four : ℕ
four = 52

abbrev pub seven : ℕ
seven = 55

abbrev pub eight : ℕ
eight = 56

abbrev pub nine : ℕ
nine = 57

abbrev pub colon : ℕ
colon = 58

abbrev pub semicolon : ℕ
semicolon = 59

abbrev pub less_than : ℕ
less_than = 60

abbrev pub equals : ℕ
equals = 61

abbrev pub greater_than : ℕ
greater_than = 62

abbrev pub question_mark : ℕ
question_mark = 63

abbrev pub at_sign : ℕ
at_sign = 64

abbrev pub A : ℕ
A = 65

abbrev pub B : ℕ
B = 66

abbrev pub D : ℕ
D = 68

abbrev pub F : ℕ
F = 70

abbrev pub P : ℕ
P = 80

abbrev pub S : ℕ
S = 83

abbrev pub W : ℕ
W = 87

abbrev pub Z : ℕ
Z = 90

abbrev pub left_bracket : ℕ
left_bracket = 91

abbrev pub backslash : ℕ
backslash = 92

abbrev pub right_bracket : ℕ
right_bracket = 93

abbrev pub caret : ℕ
caret = 94

abbrev pub underscore : ℕ
underscore = 95

abbrev pub grave_accent : ℕ
grave_accent = 96

abbrev pub a : ℕ
a = 97

abbrev pub b : ℕ
b = 98

abbrev pub c : ℕ
c = 99

abbrev pub d : ℕ
d = 100

abbrev pub f : ℕ
f = 102

abbrev pub g : ℕ
g = 103

abbrev pub i : ℕ
i = 105

abbrev pub k : ℕ
k = 107

abbrev pub m : ℕ
m = 109

abbrev pub n : ℕ
n = 110

abbrev pub p : ℕ
p = 112

abbrev pub q : ℕ
q = 113

abbrev pub r : ℕ
r = 114

abbrev pub s : ℕ
s = 115

abbrev pub t : ℕ
t = 116

abbrev pub u : ℕ
u = 117

abbrev pub v : ℕ
v = 118

abbrev pub w : ℕ
w = 119

abbrev pub x : ℕ
x = 120

abbrev pub y : ℕ
y = 121

abbrev pub z : ℕ
z = 122

abbrev pub left_brace : ℕ
left_brace = 123

abbrev pub vertical_bar : ℕ
vertical_bar = 124

abbrev pub right_brace : ℕ
right_brace = 125

abbrev pub tilde : ℕ
tilde = 126
