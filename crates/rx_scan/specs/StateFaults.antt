-- The mode of a state, what counting the groups makes of it, and which fault tells that two names clash.
use Rattle.std.specs.Prelude.{◌≡◌, ℕ, ◌-◌, ◌^◌, Bool, ◌||◌, min, Result, IfErr, OnErr, OnOk}
use Rattle.rx_units.specs.Cursor.{Cursor}
use Rattle.rx_units.specs.Units.{offset_at, values}
use Rattle.rx_model.specs.declared.mode.Mode.{Mode}
use Rattle.rx_model.specs.FirstPass.Marks.{IsFirstClash, marks, name_places}
use Rattle.rx_model.specs.Inputs.Environment.{has_some, is_unicode}
use Rattle.rx_model.specs.Inputs.Modes.{mode_by}
use Rattle.rx_model.specs.Refusals.Reached.{HasNoClash, text_groups, text_names}
use Rattle.rx_scan.specs.declared.state.State.{State}
use Rattle.rx_scan.specs.declared.state.StateFault.{StateFault}
use Rattle.rx_scan.specs.declared.state.StateFault.TheVariants.{OutOfMemory, Duplicated}

-- the mode that a state stands for
abbrev pub mode_of_state : State → Mode
mode_of_state state = mode_by state.unicode_mode state.unicode_sets_mode

-- the offsets of the reader at two places
abbrev pub offsets_at : Cursor → ℕ × ℕ → ℕ × ℕ
offsets_at r span = (offset_at r.first r.units span.0, offset_at r.first r.units span.1)

-- the offsets around the name of the mark with this index
abbrev pub name_offsets : Mode → Cursor → ℕ → ℕ × ℕ
name_offsets mode r k = offsets_at r (name_places mode (values r.units) k)

-- The fault tells the first clash of the reader's text: the second of the two openings is the least, and then the first.
abbrev pub IsStateFault : Mode → Bool → Cursor → StateFault → Type 0
IsStateFault mode duplicate_names r OutOfMemory = Unit {0}
IsStateFault mode duplicate_names r (Duplicated first second) =
    (a : ℕ) × (b : ℕ) × IsFirstClash mode duplicate_names (marks mode (values r.units)) a b × (first ≡ name_offsets mode r a) × (second ≡ name_offsets mode r b)

-- The groups of the reader's text are counted (CountLeftCapturingParensWithin, 22.2.1.2) and their names listed, or two names clash and the state stays.
pub record CountsGroups (old new : State) (r : Cursor) (result : Result (Unit {0}) StateFault) : Type 0 where
  pub unicode_mode : new.unicode_mode ≡ old.unicode_mode
  pub unicode_sets_mode : new.unicode_sets_mode ≡ old.unicode_sets_mode
  pub duplicate_names : new.duplicate_names ≡ old.duplicate_names
  pub groups : OnOk result (new.num_of_capturing_groups ≡ min (text_groups (mode_of_state old) r.units) (2 ^ 32 - 1))
  pub names : OnOk result (new.capturing_group_names ≡ text_names (mode_of_state old) r.units)
  pub named : OnOk result (new.named_capture_groups ≡ (is_unicode (mode_of_state old) || has_some (text_names (mode_of_state old) r.units)))
  pub apart : OnOk result (HasNoClash (mode_of_state old) old.duplicate_names r.units)
  pub refused : IfErr result (IsStateFault (mode_of_state old) old.duplicate_names r)
  pub unchanged : OnErr result (new ≡ old)
