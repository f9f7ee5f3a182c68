-- What is wrong with the members of an object that is to be a request.
use Rattle.std.specs.Prelude.{ℕ, ◌^◌, ◌&&◌, Bool, true, nat_lt, nat_le, List, [], ◌∷◌, ◌++◌, map, length, codes, Option, Some, None, is_some, option_and_then, if◌then◌else◌}
use Rattle.std.specs.Char.{is_ascii_digit}
use Rattle.std.specs.List.{list_all}
use Rattle.std.specs.Option.{option_or}
use Rattle.std.specs.Str.Parse.{digits_value}
use Rattle.json.specs.Json.{Json, Items, Members, no_items, item, no_members, member}
use Rattle.json.specs.Find.{as_array, as_bool, as_number, as_object, as_str}
use Rattle.rx_base.specs.Texts.{are_same, is_among}
use Rattle.rx_model.specs.declared.form.Form.{Form}
use Rattle.rx_model.specs.declared.form.Form.TheVariants.{Literal, Constructor}
use Rattle.rx_json_reply.specs.declared.field.Field.{Field}
use Rattle.rx_json_reply.specs.declared.field.Field.TheVariants as field
use Rattle.rx_json_reply.specs.Fields.{field_of}
use Rattle.rx_json_reply.specs.Wants.{can_be_asked}
use Rattle.rx_json_reply.specs.Wrongs.{Wrong, unknown_field, twice, other_type, other_item, unknown_item, first_wrong, unless}

-- a name, in bytes, and its value
abbrev pub Member : Type 0
Member = List ℕ × Json

abbrev pub member_list : Members → List Member
member_list no_members = []
member_list (member name value more) = (name, value) ∷ member_list more

abbrev pub item_list : Items → List Json
item_list no_items = []
item_list (item value more) = value ∷ item_list more

abbrev pub members_if : Option Members → List Member
members_if None = []
members_if (Some members) = member_list members

-- the members of an object, none of another value
abbrev pub members_in : Json → List Member
members_in j = members_if (as_object j)

abbrev pub items_if : Option Items → List Json
items_if None = []
items_if (Some items) = item_list items

-- the items of a list, none of another value
abbrev pub items_in : Json → List Json
items_in j = items_if (as_array j)

-- the form that a string names
abbrev pub form_named : List ℕ → Option Form
form_named name = if are_same (codes "literal") name then Some Literal else (if are_same (codes "constructor") name then Some Constructor else None)

abbrev pub form_of : Json → Option Form
form_of j = option_and_then form_named (as_str j)

-- the number below 2 ^ 32 that a text writes in digits alone
abbrev pub small_number : List ℕ → Option ℕ
small_number text =
    if list_all is_ascii_digit text && (nat_le 1 (length text) && nat_lt (digits_value 10 text) (2 ^ 32)) then Some (digits_value 10 text) else None

abbrev pub offset_of : Json → Option ℕ
offset_of j = option_and_then small_number (as_number j)

-- the value is one that this field can have, but for the items of a list
abbrev pub is_of_type : Field → Json → Bool
is_of_type field.Id j = true
is_of_type field.Pattern j = is_some (as_str j)
is_of_type field.Form j = is_some (form_of j)
is_of_type field.Flags j = is_some (as_str j)
is_of_type field.Offset j = is_some (offset_of j)
is_of_type field.FlagsOffset j = is_some (offset_of j)
is_of_type field.DuplicateNames j = is_some (as_bool j)
is_of_type field.BufferBoundaries j = is_some (as_bool j)
is_of_type field.StandardStrings j = is_some (as_bool j)
is_of_type field.Want j = is_some (as_array j)

abbrev pub wrong_name : Option (List ℕ) → Option Wrong
wrong_name None = Some other_item
wrong_name (Some name) = unless (can_be_asked name) (unknown_item name)

-- what is wrong with an item of `want`: it is to be a string that can be asked for
abbrev pub wrong_item : Json → Option Wrong
wrong_item j = wrong_name (as_str j)

-- the items of a value, where it is that of `want`
abbrev pub wanted_items : Field → Json → List Json
wanted_items field.Want j = items_in j
wanted_items _ j = []

-- what is wrong with a value of a field: its type, or the first of its items that is wrong
abbrev pub wrong_value : Field → Json → Option Wrong
wrong_value f j = first_wrong (unless (is_of_type f j) (other_type f) ∷ map wrong_item (wanted_items f j))

abbrev pub wrong_if_field : List (List ℕ) → Member → Option Field → Option Wrong
wrong_if_field before m None = Some (unknown_field m.0)
wrong_if_field before m (Some f) = if is_among before m.0 then Some (twice f) else wrong_value f m.1

-- What is wrong with a member that stands after members of these names: no field is called so, or it stands there twice, or its value is wrong.
abbrev pub wrong_member : List (List ℕ) → Member → Option Wrong
wrong_member before m = wrong_if_field before m (field_of m.0)

-- the first of these members that is wrong, after members of these names
abbrev pub wrong_members : List (List ℕ) → List Member → Option Wrong
wrong_members before [] = None
wrong_members before (m ∷ more) = option_or (wrong_member before m) (wrong_members (before ++ m.0 ∷ []) more)
