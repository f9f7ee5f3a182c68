-- What a request is, once some of its faults are ruled out.
use Rattle.std.proofs.Common.{◌≡◌, ◌∙◌, refl, sym, ap, ℕ, Bool, true, false, max, not, ◌||◌, length, List, [], ◌∷◌, Option, Some, None, Err}
use Rattle.std.specs.Borrow.{Bor}
use Rattle.std.specs.Option.{is_some, option_map, option_or, unwrap_or}
use Rattle.std.specs.Str.{chars}
use Rattle.json.specs.Json.{Json, Members, object}
use Rattle.json.specs.Find.{as_object}
use Rattle.rx_model.specs.declared.form.Form.{Form}
use Rattle.rx_model.specs.Inputs.Inputs.{Input}
use Rattle.rx_parser.specs.declared.options.Options.{Options}
use Rattle.rx_parser.specs.Inputs.{flags_chars, flags_length, stand_in_length, input_of as parser_input}
use Rattle.rx_json_reply.specs.declared.field.Field.TheVariants as field
use Rattle.rx_json_reply.specs.Faults.{members_in, wrong_members}
use Rattle.rx_json_reply.specs.Held.{options_asked}
use Rattle.rx_json_reply.specs.Requests.{asked_of, asked_unless, faults_of, fits, form_at, input_of, is_literal, length_at, offset_at, request_of, text_at, want_at, whole_faults}
use Rattle.rx_json_reply.specs.Wants.{has_features}
use Rattle.rx_json_reply.specs.Wrongs.{Wrong, not_object, missing, too_large, features, first_wrong, unless}

-- what is told first
told : (b : Bool) (wrong : Wrong) (later : List (Option Wrong)) → b ≡ false → first_wrong (unless b wrong ∷ later) ≡ Some wrong
told b wrong later is = ap (λ (b : Bool). option_or (unless b wrong) (first_wrong later)) is

-- and what is not
past : (b : Bool) (wrong : Wrong) (later : List (Option Wrong)) → b ≡ true → first_wrong (unless b wrong ∷ later) ≡ first_wrong later
past b wrong later is = ap (λ (b : Bool). option_or (unless b wrong) (first_wrong later)) is

pub not_object_told : (j : Json) → is_some (as_object j) ≡ false → request_of j ≡ Err not_object
not_object_told j is = ap (λ (o : Option Wrong). asked_unless o (asked_of j)) (told (is_some (as_object j)) not_object (wrong_members [] (members_in j) ∷ whole_faults j) is)

-- an object that has a wrong member, and one that has none
module _ (j : Json) (ms : Members) (is : j ≡ object ms) where
  members_first : first_wrong (faults_of j) ≡ option_or (wrong_members [] (members_in j)) (first_wrong (whole_faults j))
  members_first = past (is_some (as_object j)) not_object (wrong_members [] (members_in j) ∷ whole_faults j) (ap (λ (v : Json). is_some (as_object v)) is)

  pub member_told : (wrong : Wrong) → Some wrong ≡ wrong_members [] (members_in j) → request_of j ≡ Err wrong
  member_told wrong found = ap (λ (o : Option Wrong). asked_unless o (asked_of j)) (members_first ∙ ap (λ (o : Option Wrong). option_or o (first_wrong (whole_faults j))) (sym found))

  pub whole_told : (o : Option Wrong) → None ≡ wrong_members [] (members_in j) → first_wrong (whole_faults j) ≡ o → request_of j ≡ asked_unless o (asked_of j)
  whole_told o right found =
      ap (λ (o : Option Wrong). asked_unless o (asked_of j)) (members_first ∙ ap (λ (o : Option Wrong). option_or o (first_wrong (whole_faults j))) (sym right) ∙ found)

abbrev pub has_pattern : Json → Bool
has_pattern j = is_some (text_at field.Pattern j)

abbrev pub pattern_fits : Json → Bool
pattern_fits j = fits (offset_at field.Offset j) (max (length_at field.Pattern j) (stand_in_length (form_at j)))

abbrev pub flags_fit : Json → Bool
flags_fit j = fits (offset_at field.FlagsOffset j) (length_at field.Flags j)

abbrev pub can_tell : Json → Bool
can_tell j = is_literal (form_at j) || not (has_features (want_at j))

abbrev after_flags : Json → List (Option Wrong)
after_flags j = unless (can_tell j) features ∷ []

abbrev after_pattern : Json → List (Option Wrong)
after_pattern j = unless (flags_fit j) (too_large field.FlagsOffset) ∷ after_flags j

abbrev after_missing : Json → List (Option Wrong)
after_missing j = unless (pattern_fits j) (too_large field.Offset) ∷ after_pattern j

pub missing_told : (j : Json) → has_pattern j ≡ false → first_wrong (whole_faults j) ≡ Some missing
missing_told j is = told (has_pattern j) missing (after_missing j) is

module _ (j : Json) (has : has_pattern j ≡ true) where
  then_pattern : first_wrong (whole_faults j) ≡ first_wrong (after_missing j)
  then_pattern = past (has_pattern j) missing (after_missing j) has

  pub pattern_told : pattern_fits j ≡ false → first_wrong (whole_faults j) ≡ Some (too_large field.Offset)
  pattern_told is = then_pattern ∙ told (pattern_fits j) (too_large field.Offset) (after_pattern j) is

  module _ (fit : pattern_fits j ≡ true) where
    then_flags : first_wrong (whole_faults j) ≡ first_wrong (after_pattern j)
    then_flags = then_pattern ∙ past (pattern_fits j) (too_large field.Offset) (after_pattern j) fit

    pub flags_told : flags_fit j ≡ false → first_wrong (whole_faults j) ≡ Some (too_large field.FlagsOffset)
    flags_told is = then_flags ∙ told (flags_fit j) (too_large field.FlagsOffset) (after_flags j) is

    module _ (flags : flags_fit j ≡ true) where
      then_features : first_wrong (whole_faults j) ≡ first_wrong (after_flags j)
      then_features = then_flags ∙ past (flags_fit j) (too_large field.FlagsOffset) (after_flags j) flags

      pub features_told : can_tell j ≡ false → first_wrong (whole_faults j) ≡ Some features
      features_told is = then_features ∙ told (can_tell j) features [] is

      pub none_told : can_tell j ≡ true → first_wrong (whole_faults j) ≡ None
      none_told is = then_features ∙ past (can_tell j) features [] is

-- ---- what the code holds

text_lengths : (text : Option (Bor (List ℕ))) → flags_length text ≡ length (unwrap_or (option_map (λ t. t.now) text) [])
text_lengths None = refl
text_lengths (Some text) = refl

-- whether the places fit, by what the code read
pub pattern_held : (j : Json) {found : Bool} {pattern : List ℕ} {form : Form} {options : Options} → Some pattern ≡ text_at field.Pattern j → form ≡ form_at j → options ≡ options_asked j
    → found ≡ fits options.pattern_span_offset (max (length pattern) (stand_in_length form)) → found ≡ pattern_fits j
pattern_held j {pattern = pattern} {form = form} text form_is options_are is =
    is ∙ ap (λ (o : Options). fits o.pattern_span_offset (max (length pattern) (stand_in_length form))) options_are
    ∙ ap (λ (f : Form). fits (offset_at field.Offset j) (max (length pattern) (stand_in_length f))) form_is
    ∙ ap (λ (o : Option (List ℕ)). fits (offset_at field.Offset j) (max (length (unwrap_or o [])) (stand_in_length (form_at j)))) text

pub flags_held : (j : Json) (flags : Option (Bor (List ℕ))) {found : Bool} {options : Options} → option_map (λ t. t.now) flags ≡ text_at field.Flags j → options ≡ options_asked j
    → found ≡ fits options.flags_span_offset (flags_length flags) → found ≡ flags_fit j
flags_held j flags text options_are is =
    is ∙ ap (λ (o : Options). fits o.flags_span_offset (flags_length flags)) options_are
    ∙ ap (fits (offset_at field.FlagsOffset j)) (text_lengths flags ∙ ap (λ (o : Option (List ℕ)). length (unwrap_or o [])) text)

pub tell_held : (j : Json) {found unsupported : Bool} {form : Form} → form ≡ form_at j → unsupported ≡ has_features (want_at j) → found ≡ (is_literal form || not unsupported) → found ≡ can_tell j
tell_held j {unsupported = unsupported} form_is features_are is =
    is ∙ ap (λ (f : Form). is_literal f || not unsupported) form_is ∙ ap (λ (b : Bool). is_literal (form_at j) || not b) features_are

text_chars : (text : Option (Bor (List ℕ))) → flags_chars text ≡ option_map chars (option_map (λ t. t.now) text)
text_chars None = refl
text_chars (Some text) = refl

abbrev with_texts : Input → List ℕ → Option (List ℕ) → Input
with_texts input text flags = record input { text = text; flags = flags }

pub input_held : (j : Json) (form : Form) (pattern : List ℕ) (flags : Option (Bor (List ℕ))) (options : Options) → form ≡ form_at j → Some pattern ≡ text_at field.Pattern j
    → option_map (λ t. t.now) flags ≡ text_at field.Flags j → options ≡ options_asked j → parser_input form pattern flags options ≡ input_of (asked_of j)
input_held j form pattern flags options form_is text flags_are options_are =
    let asked = input_of (asked_of j) in
    ap (λ (f : Form). parser_input f pattern flags options) form_is
    ∙ ap (parser_input (form_at j) pattern flags) options_are
    ∙ ap (λ (o : Option (List ℕ)). with_texts asked (chars (unwrap_or o [])) (flags_chars flags)) text
    ∙ ap (with_texts asked (chars (unwrap_or (text_at field.Pattern j) []))) (text_chars flags ∙ ap (option_map chars) flags_are)
