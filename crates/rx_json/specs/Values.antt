-- JSON values made of lists, and their tokens.
use Rattle.std.specs.Prelude.{ℕ, List, [], ◌∷◌, ◌++◌, Option, Some, None, encode_utf8_all}
use Rattle.std.specs.Fmt.{decimal}
use Rattle.json.specs.Token.{Token, key}
use Rattle.json.specs.Json as json
use Rattle.json.specs.Json.{Json, Items, Members, no_items, item, no_members, member}
use Rattle.json.specs.Tree.{json_tokens}

-- a text, by its characters
abbrev pub text : List ℕ → Json
text cs = json.string (encode_utf8_all cs)

abbrev pub number : ℕ → Json
number n = json.number (decimal n)

abbrev pub text_or_null : Option (List ℕ) → Json
text_or_null None = json.null
text_or_null (Some cs) = text cs

-- a text, by its bytes
abbrev pub bytes_or_null : Option (List ℕ) → Json
bytes_or_null None = json.null
bytes_or_null (Some bytes) = json.string bytes

abbrev pub number_or_null : Option ℕ → Json
number_or_null None = json.null
number_or_null (Some n) = number n

-- a name, in bytes, and a value
abbrev pub Field : Type 0
Field = List ℕ × Json

abbrev pub members_of : List Field → Members
members_of [] = no_members
members_of (f ∷ fs) = member f.0 f.1 (members_of fs)

abbrev pub items_of : List Json → Items
items_of [] = no_items
items_of (j ∷ js) = item j (items_of js)

abbrev pub object_of : List Field → Json
object_of fs = json.object (members_of fs)

abbrev pub list_of : List Json → Json
list_of js = json.array (items_of js)

-- the tokens of fields, without the braces
abbrev pub field_tokens : List Field → List Token
field_tokens [] = []
field_tokens (f ∷ fs) = key f.0 ∷ (json_tokens f.1 ++ field_tokens fs)

-- the tokens of values one after another
abbrev pub value_tokens : List Json → List Token
value_tokens [] = []
value_tokens (j ∷ js) = json_tokens j ++ value_tokens js
