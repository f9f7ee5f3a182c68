-- What a frame of an open group says that the group began with.
use Rattle.std.specs.Prelude.{◌≡◌, ℕ, ◌+◌, ◌-◌, Some, None, List}
use Rattle.rx_units.specs.Cursor.{Cursor, rest}
use Rattle.rx_model.specs.declared.mode.Mode.{Mode}
use Rattle.rx_model.specs.Inputs.Environment.{is_unicode}
use Rattle.rx_model.specs.Refusals.Reached.{span_between}
use Rattle.rx_parser.specs.Found.{HoldsName}
use Rattle.rx_parser.specs.declared.found.OpenerFound.{OpenerFound}
use Rattle.rx_parser.specs.declared.found.OpenerFound.TheVariants as found
use Rattle.rx_parser.specs.declared.frame.GroupKind.{GroupKind}
use Rattle.rx_parser.specs.declared.frame.GroupKind.TheVariants.{Capturing, Ignoring, LookAround}

-- The kind of group, in a frame, that the n units which stand next begin, with `added` added to each offset: modifiers have the span of their text, between `(?` and `:`.
abbrev pub IsGroupKindOf : Mode → Cursor → ℕ → ℕ → OpenerFound → GroupKind → Type 0
IsGroupKindOf mode r added n found.Capturing it = it ≡ Capturing None
IsGroupKindOf mode r added n found.Named it = (name : List ℕ) × HoldsName (is_unicode mode) (rest r) name n × (it ≡ Capturing (Some name))
IsGroupKindOf mode r added n found.Ignoring it = it ≡ Ignoring None
IsGroupKindOf mode r added n (found.Modified enabling disabling) it =
    it ≡ Ignoring (Some (record { span = span_between r.units r.first added (r.place + 2) (r.place + (n - 1)); enabling = enabling; disabling = disabling }))
IsGroupKindOf mode r added n (found.LookAround kind) it = it ≡ LookAround kind
