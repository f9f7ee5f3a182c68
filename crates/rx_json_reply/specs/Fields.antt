-- The fields of a request. Texts are bytes here, as they stand in a JSON value.
use Rattle.std.specs.Prelude.{ℕ, List, [], ◌∷◌, codes, find, Option}
use Rattle.rx_base.specs.Texts.{are_same}
use Rattle.rx_json_reply.specs.declared.field.Field.{Field}
use Rattle.rx_json_reply.specs.declared.field.Field.TheVariants.{Id, Pattern, Form, Flags, Offset, FlagsOffset, DuplicateNames, BufferBoundaries, StandardStrings, Want}

-- what a field is called
abbrev pub field_name : Field → List ℕ
field_name Id = codes "id"
field_name Pattern = codes "pattern"
field_name Form = codes "form"
field_name Flags = codes "flags"
field_name Offset = codes "offset"
field_name FlagsOffset = codes "flagsOffset"
field_name DuplicateNames = codes "duplicateNames"
field_name BufferBoundaries = codes "bufferBoundaries"
field_name StandardStrings = codes "standardStrings"
field_name Want = codes "want"

abbrev pub fields : List Field
fields = Id ∷ Pattern ∷ Form ∷ Flags ∷ Offset ∷ FlagsOffset ∷ DuplicateNames ∷ BufferBoundaries ∷ StandardStrings ∷ Want ∷ []

-- the field of this name, if there is one
abbrev pub field_of : List ℕ → Option Field
field_of name = find (λ field. are_same (field_name field) name) fields

-- what a value of a field is to be
abbrev pub wanted_of : Field → List ℕ
wanted_of Id = codes "a value"
wanted_of Pattern = codes "a string"
wanted_of Form = codes "\"literal\" or \"constructor\""
wanted_of Flags = codes "a string"
wanted_of Offset = codes "a whole number below 4294967296"
wanted_of FlagsOffset = codes "a whole number below 4294967296"
wanted_of DuplicateNames = codes "true or false"
wanted_of BufferBoundaries = codes "true or false"
wanted_of StandardStrings = codes "true or false"
wanted_of Want = codes "a list"
