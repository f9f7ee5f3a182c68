-- What the reading of a token depends on besides the text.
use Rattle.std.specs.Prelude.{ℕ, Bool, true, false, ◌||◌, List, [], ◌∷◌}
use Rattle.rx_ast.specs.declared.term.Pattern.{Pattern}
use Rattle.rx_model.specs.declared.mode.Mode.{Mode}
use Rattle.rx_model.specs.declared.mode.Mode.TheVariants.{Legacy, Unicode, Sets}
use Rattle.rx_model.specs.declared.rules.Rules.{Rules}
use Rattle.rx_model.specs.Trees.Names.{groups, names}

-- with `u` or `v` (the parameter UnicodeMode of the grammar)
abbrev pub is_unicode : Mode → Bool
is_unicode Legacy = false
is_unicode Unicode = true
is_unicode Sets = true

-- with `v` (the parameter UnicodeSetsMode of the grammar)
abbrev pub is_sets : Mode → Bool
is_sets Legacy = false
is_sets Unicode = false
is_sets Sets = true

abbrev pub has_some : List (List ℕ) → Bool
has_some [] = false
has_some (name ∷ names) = true

-- The mode, the number of capturing groups in the whole pattern, whether `\k` is a reference (the parameter NamedCaptureGroups:
-- in the unicode modes, or where some group has a name), and whether the buffer boundaries `\A`, `\z`, `\Z` are read.
pub record Environment : Type 0 where
  pub mode : Mode
  pub groups : ℕ
  pub named : Bool
  pub buffer_boundaries : Bool

-- with n groups, of which some have names or none has, where buffer boundaries are read or not
abbrev pub environment_with : Mode → Bool → ℕ → Bool → Environment
environment_with mode buffers groups has_names = record {
  mode = mode;
  groups = groups;
  named = is_unicode mode || has_names;
  buffer_boundaries = buffers;
}

-- the environment in which a whole pattern is spelled: by its own groups and names
abbrev pub environment : Mode → Rules → Pattern → Environment
environment mode rules p = environment_with mode rules.buffer_boundaries (groups p) (has_some (names p))

-- The environment in which a class of the pattern is spelled. No boundary stands in a class, so it is the same whatever the rules say.
-- Why: docs/DECISIONS.md, 65.
abbrev pub for_classes : Environment → Environment
for_classes e = record { mode = e.mode; groups = e.groups; named = e.named; buffer_boundaries = true }
