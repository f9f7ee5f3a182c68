-- Why a line is no request.
use Rattle.std.specs.Prelude.{ℕ, Bool, List, [], ◌∷◌, ◌++◌, codes, Option, Some, None, if◌then◌else◌}
use Rattle.std.specs.Option.{option_or}
use Rattle.rx_json_reply.specs.declared.field.Field.{Field}
use Rattle.rx_json_reply.specs.declared.wrong.Wrong.{Wrong as Held}
use Rattle.rx_json_reply.specs.declared.wrong.Wrong.TheVariants as held
use Rattle.rx_json_reply.specs.Fields.{field_name, wanted_of}

pub data Wrong : Type 0 where
  long_line : Wrong
  not_utf8 : Wrong
  not_json : Wrong
  not_object : Wrong
  unknown_field : List ℕ → Wrong
  twice : Field → Wrong
  other_type : Field → Wrong
  other_item : Wrong
  unknown_item : List ℕ → Wrong
  missing : Wrong
  too_large : Field → Wrong
  features : Wrong

-- how a reply says it
abbrev pub why_text : Wrong → List ℕ
why_text long_line = codes "the line is longer than 1048576 bytes"
why_text not_utf8 = codes "the line is not UTF-8"
why_text not_json = codes "the line is not JSON, or it nests more than 128 deep"
why_text not_object = codes "the line is not an object"
why_text (unknown_field name) = codes "unknown field `" ++ name ++ codes "`"
why_text (twice field) = codes "field `" ++ field_name field ++ codes "` stands twice"
why_text (other_type field) = codes "field `" ++ field_name field ++ codes "` is not " ++ wanted_of field
why_text other_item = codes "field `want` has an item that is not a string"
why_text (unknown_item name) = codes "field `want` has an unknown string `" ++ name ++ codes "`"
why_text missing = codes "field `pattern` is missing"
why_text (too_large field) = codes "field `" ++ field_name field ++ codes "` is too large"
why_text features = codes "features are told of literals alone"

-- what is wrong where this is not so
abbrev pub unless : Bool → Wrong → Option Wrong
unless holds wrong = if holds then None else Some wrong

-- the first that is wrong, if something is
abbrev pub first_wrong : List (Option Wrong) → Option Wrong
first_wrong [] = None
first_wrong (wrong ∷ later) = option_or wrong (first_wrong later)

-- the reason of the code, whose names are lent
abbrev pub wrong_of : Held → Wrong
wrong_of held.LongLine = long_line
wrong_of held.NotUtf8 = not_utf8
wrong_of held.NotJson = not_json
wrong_of held.NotObject = not_object
wrong_of (held.UnknownField name) = unknown_field name.now
wrong_of (held.Twice field) = twice field
wrong_of (held.OtherType field) = other_type field
wrong_of held.OtherItem = other_item
wrong_of (held.UnknownItem name) = unknown_item name.now
wrong_of held.Missing = missing
wrong_of (held.TooLarge field) = too_large field
wrong_of held.Features = features
