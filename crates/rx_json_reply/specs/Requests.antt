-- What a JSON value asks for, or why it asks for nothing.
use Rattle.std.specs.Prelude.{ℕ, ◌+◌, ◌^◌, ◌||◌, Bool, true, false, not, nat_lt, max, List, [], ◌∷◌, length, chars, flat_map, Option, Some, None, is_some, option_and_then, option_map, option_to_list, unwrap_or, Result, Ok, Err}
use Rattle.json.specs.Json as json
use Rattle.json.specs.Json.{Json}
use Rattle.json.specs.Find.{as_bool, as_object, as_str, get}
use Rattle.rx_base.specs.Texts.{is_among}
use Rattle.rx_model.specs.declared.form.Form.{Form}
use Rattle.rx_model.specs.declared.form.Form.TheVariants.{Literal, Constructor}
use Rattle.rx_model.specs.declared.rules.Rules.{Rules}
use Rattle.rx_model.specs.Inputs.Inputs.{Input}
use Rattle.rx_parser.specs.Inputs.{stand_in_length}
use Rattle.rx_json_reply.specs.declared.field.Field.{Field}
use Rattle.rx_json_reply.specs.declared.field.Field.TheVariants as field
use Rattle.rx_json_reply.specs.Fields.{field_name}
use Rattle.rx_json_reply.specs.Faults.{form_of, items_in, members_in, offset_of, wrong_members}
use Rattle.rx_json_reply.specs.Wants.{has_features, usual}
use Rattle.rx_json_reply.specs.Wrongs.{Wrong, not_object, missing, too_large, features, first_wrong, unless}

-- What a request asks for: a text and its flags, in characters, and all else that an input has; and the names of what is to be told.
pub record Asked : Type 0 where
  pub form : Form
  pub pattern : List ℕ
  pub flags : Option (List ℕ)
  pub text_offset : ℕ
  pub flags_offset : ℕ
  pub rules : Rules
  pub standard_strings : Bool
  pub want : List (List ℕ)

-- ---- the values of fields, or what stands for them where they are absent

abbrev pub text_at : Field → Json → Option (List ℕ)
text_at f j = option_and_then as_str (get (field_name f) j)

abbrev pub form_at : Json → Form
form_at j = unwrap_or (option_and_then form_of (get (field_name field.Form) j)) Literal

abbrev pub offset_at : Field → Json → ℕ
offset_at f j = unwrap_or (option_and_then offset_of (get (field_name f) j)) 0

abbrev pub truth_at : Field → Bool → Json → Bool
truth_at f usually j = unwrap_or (option_and_then as_bool (get (field_name f) j)) usually

-- the strings among some values
abbrev pub strings_of : List Json → List (List ℕ)
strings_of js = flat_map (λ j. option_to_list (as_str j)) js

abbrev pub want_at : Json → List (List ℕ)
want_at j = unwrap_or (option_map (λ list. strings_of (items_in list)) (get (field_name field.Want) j)) usual

-- ---- requests

abbrev pub asked_of : Json → Asked
asked_of j = record {
  form = form_at j;
  pattern = chars (unwrap_or (text_at field.Pattern j) []);
  flags = option_map chars (text_at field.Flags j);
  text_offset = offset_at field.Offset j;
  flags_offset = offset_at field.FlagsOffset j;
  rules = record { duplicate_names = truth_at field.DuplicateNames true j; buffer_boundaries = truth_at field.BufferBoundaries true j };
  standard_strings = truth_at field.StandardStrings false j;
  want = want_at j;
}

-- how many bytes the text of a field has, none where it is absent
abbrev pub length_at : Field → Json → ℕ
length_at f j = length (unwrap_or (text_at f j) [])

-- the places of a text of this length fit 32 bits
abbrev pub fits : ℕ → ℕ → Bool
fits offset length = nat_lt (offset + length) (2 ^ 32)

abbrev pub is_literal : Form → Bool
is_literal Literal = true
is_literal Constructor = false

-- What is wrong with a request as a whole: it has no pattern; the places of its pattern or of its flags do not fit; features are asked for of a constructor.
abbrev pub whole_faults : Json → List (Option Wrong)
whole_faults j =
    unless (is_some (text_at field.Pattern j)) missing
    ∷ unless (fits (offset_at field.Offset j) (max (length_at field.Pattern j) (stand_in_length (form_at j)))) (too_large field.Offset)
    ∷ unless (fits (offset_at field.FlagsOffset j) (length_at field.Flags j)) (too_large field.FlagsOffset)
    ∷ unless (is_literal (form_at j) || not (has_features (want_at j))) features
    ∷ []

-- What is wrong with a value that is to be a request, in the order in which faults are told: it is no object, or one of its members is wrong, or the whole is.
abbrev pub faults_of : Json → List (Option Wrong)
faults_of j = unless (is_some (as_object j)) not_object ∷ wrong_members [] (members_in j) ∷ whole_faults j

abbrev pub asked_unless : Option Wrong → Asked → Result Asked Wrong
asked_unless None asked = Ok asked
asked_unless (Some wrong) asked = Err wrong

-- What a value asks for, or the first of its faults.
abbrev pub request_of : Json → Result Asked Wrong
request_of j = asked_unless (first_wrong (faults_of j)) (asked_of j)

-- the last member `id` of an object
abbrev pub id_of : Json → Json
id_of j = unwrap_or (get (field_name field.Id) j) json.null

-- what is to be read
abbrev pub input_of : Asked → Input
input_of asked = record {
  form = asked.form;
  text = asked.pattern;
  flags = asked.flags;
  text_offset = asked.text_offset;
  flags_offset = asked.flags_offset;
  rules = asked.rules;
  standard_strings = asked.standard_strings;
}

-- what has this name is asked for
abbrev pub wants : Asked → List ℕ → Bool
wants asked name = is_among asked.want name
