-- What the code holds, as what the definitions speak of.
use Rattle.std.specs.Prelude.{◌≡◌, ℕ, List, codes, map, Option, Some, None, Result, Ok, Err, true, false}
use Rattle.std.specs.Borrow.{Bor}
use Rattle.json.specs.Json.{Json}
use Rattle.json.specs.Value.{value_view}
use Rattle.json.specs.declared.value.Value.{Value}
use Rattle.rx_base.specs.Texts.{is_among}
use Rattle.rx_command.specs.declared.features.Feature.{Feature}
use Rattle.rx_command.specs.Features.{feature_name, has_feature}
use Rattle.rx_parser.specs.Inputs as parser
use Rattle.rx_json_reply.specs.declared.request.Request.{Request}
use Rattle.rx_json_reply.specs.declared.want.Want.{Want}
use Rattle.rx_parser.specs.declared.options.Options.{Options}
use Rattle.rx_json_reply.specs.declared.field.Field.TheVariants as field
use Rattle.rx_json_reply.specs.declared.wrong.Wrong.{Wrong as Found}
use Rattle.rx_json_reply.specs.Faults.{Member}
use Rattle.rx_json_reply.specs.Requests.{Asked, input_of, offset_at, truth_at}
use Rattle.rx_json_reply.specs.Wants.{has_features}
use Rattle.rx_json_reply.specs.Wrongs.{Wrong, wrong_of}

-- These names are asked for, and no others.
pub record IsWant (want : Want) (names : List (List ℕ)) : Type 0 where
  pub spelling : want.spelling ≡ is_among names (codes "spelling")
  pub groups : want.groups ≡ is_among names (codes "groups")
  pub tree : want.tree ≡ is_among names (codes "tree")
  pub display : want.display ≡ is_among names (codes "display")
  pub unsupported : want.unsupported ≡ has_features names
  pub features : (feature : Feature) → has_feature want.features feature ≡ is_among names (feature_name feature)

-- The request holds what is asked.
pub record Holds (request : Request) (asked : Asked) : Type 0 where
  pub input : parser.input_of request.form request.pattern.now request.flags request.options ≡ input_of asked
  pub want : IsWant request.want asked.want

-- what a check found
abbrev pub fault_in : {T : Type 0} → Result T Found → Option Wrong
fault_in (Ok _) = None
fault_in (Err wrong) = Some (wrong_of wrong)

-- the members of an object, each a name and a value
abbrev pub pairs : {A : Type 0} → List (Bor (List ℕ) × Value A) → List Member
pairs members = map (λ m. (m.0.now, value_view m.1)) members

abbrev pub names : {A : Type 0} → List (Bor (List ℕ) × Value A) → List (List ℕ)
names members = map (λ m. m.0.now) members

abbrev pub options_asked : Json → Options
options_asked j = record {
  pattern_span_offset = offset_at field.Offset j;
  flags_span_offset = offset_at field.FlagsOffset j;
  duplicate_names = truth_at field.DuplicateNames true j;
  buffer_boundaries = truth_at field.BufferBoundaries true j;
  standard_strings = truth_at field.StandardStrings false j;
}
