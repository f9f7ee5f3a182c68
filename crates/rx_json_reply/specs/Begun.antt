-- The `id` that a reply begins with, as the code holds it.
use Rattle.std.specs.Prelude.{Option, Some, None}
use Rattle.std.specs.Borrow.{Bor}
use Rattle.json.specs.Json as json
use Rattle.json.specs.Json.{Json}
use Rattle.json.specs.Value.{value_view}
use Rattle.json.specs.declared.value.Value.{Value}

abbrev pub id_json : {A : Type 0} → Option (Bor (Value A)) → Json
id_json None = json.null
id_json (Some id) = value_view id.now
