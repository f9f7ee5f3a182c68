use Rattle.std.proofs.Common.{ap, subst, ℕ, List, [], ◌∷◌, Option, OnOk, codes}
use Rattle.std.specs.Str.{chars}
use Rattle.json.specs.Json.{Json, string}
use Rattle.rx_base.specs.Diagnostic.{name_of}
use Rattle.rx_base.specs.DiagnosticMessage.{message_of}
use Rattle.rx_json.specs.Adding.{Adds}
use Rattle.rx_json.specs.Located.{place_fields}
use Rattle.rx_refusal.specs.Fields.{field_name}
use Rattle.rx_refusal.specs.Helps.{help_at}
use Rattle.rx_refusal.specs.Kinds.{kind_of}
use Rattle.rx_json.specs.Refusals.{spans_of, values_of}
use Rattle.rx_json.specs.Values.{Field, bytes_or_null, field_tokens, object_of, text}
use Rattle.rx_json.proofs.Adding.{adds_one}
use Rattle.rx_json.proofs.Parts.{field_is, fields_added, fields_last, member_added, object_added}
use Rattle.rx_json.proofs.refusal.write_refusal.Goals as goal

abbrev named : List ℕ → Json → Field
named name j = (name, j)

pub returns : goal.returns
returns c =
    let refusal = c.args.refusal.now in
    let bytes = c.args.places.now.text.now in
    let offset = c.args.places.now.offset in
    let name = named (codes "name") (string (name_of refusal)) in
    let kind = named (codes "kind") (bytes_or_null (kind_of refusal)) in
    let values = named (codes "values") (object_of (values_of refusal)) in
    let message = named (codes "message") (text (message_of refusal)) in
    let field = named (codes "field") (string (field_name c.args.field)) in
    let spans = named (codes "spans") (spans_of (place_fields (chars bytes) offset) refusal) in
    let help = named (codes "help") (bytes_or_null (help_at c.args.form bytes offset refusal)) in
    let after_name = field_is (ap (λ (s : List ℕ). named (codes "name") (string s)) c.name.ensures) c.in_ok-write_text.ensures in
    let after_kind = field_is (ap (λ (s : Option (List ℕ)). named (codes "kind") (bytes_or_null s)) c.kind_of.ensures) c.in_ok-write_text_or_null.ensures in
    let after_values = member_added (codes "values") (object_of (values_of refusal)) (adds_one c.in_ok-key.ensures)
    (object_added (values_of refusal) (adds_one c.in_ok-begin_object.ensures) c.in_ok-write_values.ensures (adds_one c.in_ok-end_object.ensures)) in
    let after_field = field_is (ap (λ (s : List ℕ). named (codes "field") (string s)) c.name-2.ensures) c.in_ok-write_text-2.ensures in
    let first = fields_added (name ∷ []) (kind ∷ []) after_name after_kind in
    let second = fields_added (name ∷ kind ∷ []) (values ∷ []) first after_values in
    let third = fields_added (name ∷ kind ∷ values ∷ []) (message ∷ []) second c.in_ok-write_message.ensures in
    let fourth = fields_added (name ∷ kind ∷ values ∷ message ∷ []) (field ∷ []) third after_field in
    let fifth = fields_added (name ∷ kind ∷ values ∷ message ∷ field ∷ []) (spans ∷ []) fourth c.in_ok-write_spans.ensures in
    fields_last c.write_text_or_null-2.result c.args.writer.now c.write_spans.new.writer c.write_text_or_null-2.new.writer (name ∷ kind ∷ values ∷ message ∷ field ∷ spans ∷ []) (help ∷ []) fifth
    (subst (λ (s : Option (List ℕ)). OnOk c.write_text_or_null-2.result (Adds c.write_spans.new.writer c.write_text_or_null-2.new.writer (field_tokens ((codes "help", bytes_or_null s) ∷ [])))) c.help_for.ensures c.write_text_or_null-2.ensures)
