-- What is told of a refusal, as JSON.
use Rattle.std.specs.Prelude.{ℕ, List, [], ◌∷◌, map, Option, Some, None, codes}
use Rattle.std.specs.Str.{chars}
use Rattle.json.specs.Json as json
use Rattle.rx_base.specs.declared.span.Span.{Span}
use Rattle.rx_base.specs.declared.diagnostic.Diagnostic.{Diagnostic}
use Rattle.rx_base.specs.declared.diagnostic.Diagnostic.TheVariants.{UnknownFlag, DuplicatedFlags, InvalidIndexedReference, InvalidNamedReference, InvalidUnicodePropertyNameNegativeStrings, InvalidUnicodePropertyOfStrings}
use Rattle.rx_base.specs.Diagnostic.{name_of, first_span_of, second_span_of}
use Rattle.rx_base.specs.DiagnosticMessage.{flag_text, message_of}
use Rattle.rx_model.specs.declared.form.Form.{Form}
use Rattle.rx_refusal.specs.declared.field.Field.{Field as Texts}
use Rattle.rx_refusal.specs.Fields.{field_name}
use Rattle.rx_refusal.specs.Helps.{help_at}
use Rattle.rx_refusal.specs.Kinds.{kind_of}
use Rattle.rx_json.specs.Located.{place_fields}
use Rattle.rx_json.specs.Values.{Field, text, number, bytes_or_null, object_of, list_of}

-- what it holds besides its spans and its kind
abbrev pub values_of : Diagnostic → List Field
values_of (UnknownFlag _ flag) = (codes "flag", text (flag_text flag)) ∷ []
values_of (DuplicatedFlags _ flag) = (codes "flag", text (flag_text flag)) ∷ []
values_of (InvalidIndexedReference _ max) = (codes "max", number max) ∷ []
values_of (InvalidNamedReference _ names) = (codes "names", list_of (map text names)) ∷ []
values_of (InvalidUnicodePropertyNameNegativeStrings _ name) = (codes "name", text name) ∷ []
values_of (InvalidUnicodePropertyOfStrings _ name) = (codes "name", text name) ∷ []
values_of _ = []

-- the second span, where there is one
abbrev pub second_spans : (Span → List Field) → Option Span → List json.Json
second_spans place None = []
second_spans place (Some span) = object_of (place span) ∷ []

abbrev pub spans_of : (Span → List Field) → Diagnostic → json.Json
spans_of place refusal = list_of (object_of (place (first_span_of refusal)) ∷ second_spans place (second_span_of refusal))

-- All that is told of a refusal whose spans lie in a text of these bytes, in this form, so much being added to each place.
abbrev pub refusal_fields : Form → List ℕ → ℕ → Texts → Diagnostic → List Field
refusal_fields form bytes offset field refusal =
    (codes "name", json.string (name_of refusal)) ∷ (codes "kind", bytes_or_null (kind_of refusal)) ∷ (codes "values", object_of (values_of refusal))
    ∷ (codes "message", text (message_of refusal)) ∷ (codes "field", json.string (field_name field)) ∷ (codes "spans", spans_of (place_fields (chars bytes) offset) refusal)
    ∷ (codes "help", bytes_or_null (help_at form bytes offset refusal)) ∷ []
