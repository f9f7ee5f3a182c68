-- What is told of a pattern.
use Rattle.std.specs.Prelude.{◌≡◌, ℕ, if◌then◌else◌, List, Option, Some, None, true, false}
use Rattle.std.specs.List.{filter_map}
use Rattle.rx_ast.specs.declared.term.Pattern.{Pattern}
use Rattle.rx_ast.specs.Kinds.{Kind, pattern, look_around, capturing_group, order}
use Rattle.rx_ast.specs.Tree.{mirror}
use Rattle.rx_visit.specs.Patterns.{looks_behind}
use Rattle.rx_model.specs.declared.form.Form.TheVariants.{Literal}
use Rattle.rx_model.specs.declared.mode.Mode.{Mode}
use Rattle.rx_model.specs.Inputs.Inputs.{Input}
use Rattle.rx_model.specs.Reading.Headline.{IsReadAs}
use Rattle.rx_linter_example.specs.declared.note.Note.{Note}
use Rattle.rx_linter_example.specs.declared.note.Noted.TheVariants as noted
use Rattle.rx_model.specs.declared.rules.Rules.{Rules}

-- a lookbehind, or a group with a name, and its span
abbrev pub note_of : Kind → Option Note
note_of (look_around s kind d) = if looks_behind kind then Some (record { noted = noted.Lookbehind; span = s }) else None
note_of (capturing_group s (Some name) d) = Some (record { noted = noted.NamedGroup; span = s })
note_of _ = None

-- both rules
abbrev pub both_rules : Rules
both_rules = record { duplicate_names = true; buffer_boundaries = true }

-- a literal by itself: its text and its flags
abbrev pub literal : List ℕ → Option (List ℕ) → Input
literal text flags = record { form = Literal; text = text; flags = flags; text_offset = 0; flags_offset = 0; rules = both_rules; standard_strings = false }

-- The input is valid, and these are the notes of the nodes of its tree, in their order.
pub record HasNotes (input : Input) (notes : List Note) : Type 0 where
  pub tree : Pattern
  pub mode : Mode
  pub read : IsReadAs input mode tree
  pub notes_are : notes ≡ filter_map note_of (order (pattern (mirror tree)))
