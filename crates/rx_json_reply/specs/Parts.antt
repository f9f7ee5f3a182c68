-- What replies consist of: the fields of a reply to a pattern that is read, to one that is refused, and to a line that is no request.
use Rattle.std.specs.Prelude.{ℕ, ◌&&◌, ◌||◌, Bool, List, [], ◌∷◌, ◌++◌, codes, encode_utf8_all, filter, map, if◌then◌else◌}
use Rattle.json.specs.Json.{Json, string}
use Rattle.rx_base.specs.declared.diagnostic.Diagnostic.{Diagnostic}
use Rattle.rx_base.specs.Texts.{is_among}
use Rattle.rx_ast.specs.declared.term.Pattern.{Pattern}
use Rattle.rx_ast.specs.Forget.{bare}
use Rattle.rx_ast.specs.Kinds.{Kind, order, pattern as pattern_kind}
use Rattle.rx_ast.specs.Shown.{pattern_shown}
use Rattle.rx_ast.specs.Tree.{mirror}
use Rattle.rx_visit.specs.Flags.{are_refused_flags}
use Rattle.rx_model.specs.declared.mode.Mode.{Mode}
use Rattle.rx_model.specs.declared.mode.Mode.TheVariants.{Legacy, Unicode, Sets}
use Rattle.rx_model.specs.Inputs.Inputs.{Input}
use Rattle.rx_model.specs.Spelling.Spelling.{spelling}
use Rattle.rx_command.specs.declared.features.Feature.{Feature}
use Rattle.rx_command.specs.Features.{feature_name, needs_feature}
use Rattle.rx_refusal.specs.declared.field.Field.{Field as Side}
use Rattle.rx_refusal.specs.declared.field.Field.TheVariants.{Flags}
use Rattle.rx_refusal.specs.Fields.{offset_in, text_in}
use Rattle.rx_json.specs.Groups.{groups_fields}
use Rattle.rx_json.specs.Located.{place_fields}
use Rattle.rx_json.specs.Refusals.{refusal_fields}
use Rattle.rx_json.specs.Trees.{tree_json}
use Rattle.rx_json.specs.Values.{Field, list_of, text}
use Rattle.rx_json_reply.specs.Alone.{alone}
use Rattle.rx_json_reply.specs.Wants.{features, has_features}
use Rattle.rx_json_reply.specs.Wrongs.{Wrong, why_text}

-- what each reply begins with
abbrev pub begun : Json → List ℕ → List Field
begun id status = (codes "id", id) ∷ (codes "status", string status) ∷ []

-- ---- a pattern that is read

abbrev pub mode_name : Mode → List ℕ
mode_name Legacy = codes "legacy"
mode_name Unicode = codes "unicode"
mode_name Sets = codes "sets"

-- flags of these letters, or a pattern of these nodes, need the feature: an engine that lacks it alone does not support them
abbrev pub is_needed : List ℕ → List Kind → Feature → Bool
is_needed letters nodes feature = are_refused_flags (alone feature).flags letters || needs_feature (alone feature) nodes

-- the names of those among some features that are asked for and needed
abbrev pub needed_among : (Feature → Bool) → List ℕ → List Kind → List Feature → List Json
needed_among asks letters nodes some = map (λ feature. string (feature_name feature)) (filter (λ feature. asks feature && is_needed letters nodes feature) some)

-- fields that stand only where they are asked for
abbrev pub only_if : Bool → List Field → List Field
only_if asked fields = if asked then fields else []

abbrev pub spelling_fields : Mode → Pattern → List Field
spelling_fields mode pattern = (codes "spelling", text (spelling (bare pattern) mode)) ∷ []

-- what has places, so much being told
abbrev pub placed_fields : Input → Bool → Bool → Pattern → List Field
placed_fields input groups tree pattern =
    let place = place_fields input.text input.text_offset in
    let whole = pattern_kind (mirror pattern) in
    only_if groups (groups_fields place (order whole)) ++ only_if tree ((codes "tree", tree_json place whole) ∷ [])

-- the features that are asked for and needed, in the order in which they are told
abbrev pub unsupported_fields : Input → (Feature → Bool) → Pattern → List Field
unsupported_fields input asks pattern = (codes "unsupported", list_of (needed_among asks (encode_utf8_all (text_in input Flags)) (order (pattern_kind (mirror pattern))) features)) ∷ []

abbrev pub display_fields : Pattern → List Field
display_fields pattern = (codes "display", text (pattern_shown pattern)) ∷ []

-- what is told of an input that is read as this tree in this mode, where these names are asked for
abbrev pub read_fields : Input → List (List ℕ) → Mode → Pattern → List Field
read_fields input want mode pattern =
    (codes "mode", string (mode_name mode))
    ∷ (only_if (is_among want (codes "spelling")) (spelling_fields mode pattern)
    ++ (placed_fields input (is_among want (codes "groups")) (is_among want (codes "tree")) pattern
    ++ (only_if (has_features want) (unsupported_fields input (λ feature. is_among want (feature_name feature)) pattern)
    ++ only_if (is_among want (codes "display")) (display_fields pattern))))

-- ---- a pattern that is refused

-- what is told of a refusal whose spans lie in this text of the input
abbrev pub refused_fields : Input → Side → Diagnostic → List Field
refused_fields input side refusal = refusal_fields input.form (encode_utf8_all (text_in input side)) (offset_in input side) side refusal

-- ---- a line that is no request

abbrev pub bad_fields : Wrong → List Field
bad_fields wrong = (codes "why", string (why_text wrong)) ∷ []
