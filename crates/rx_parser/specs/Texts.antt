-- An input of the code as an input of the model, and a reader of one of its texts.
use Rattle.std.specs.Prelude.{◌≡◌, ℕ, Bool, List, Result, MatchResult, ◌⊎◌}
use Rattle.rx_units.specs.Cursor.{Cursor}
use Rattle.rx_class.specs.Fitting.{AreFitting}
use Rattle.rx_model.specs.Inputs.Inputs as model
use Rattle.rx_model.specs.Inputs.Texts.{AreUnits, HasNoUnits, first_offset}
use Rattle.rx_model.specs.declared.form.Form.{Form}
use Rattle.rx_units.specs.declared.reader_fault.ReaderFault.{ReaderFault}
use Rattle.rx_units.specs.declared.reader_fault.ReaderFault.TheVariants.{OutOfMemory}
use Rattle.rx_parser.specs.Inputs.{input_of}
use Rattle.rx_parser.specs.declared.input.Input.{Input}

-- an input of the code, by its form, its texts and its options
abbrev pub seen_input : Input → model.Input
seen_input it = input_of it.form it.pattern_text.now it.flags_text it.options

-- The reader stands before the units of a text in the form of the input, and its offsets fit 32 bits after so much is added.
pub record StandsBefore (input : model.Input) (joined : Bool) (text : List ℕ) (added : ℕ) (r : Cursor) : Type 0 where
  pub units : AreUnits input.standard_strings joined text input.form r.units
  pub start : r.place ≡ 0
  pub first : r.first ≡ first_offset input.form
  pub fits : AreFitting added r

-- A text is read to its units, or memory is wanting, or it has none.
abbrev pub GivesUnits : Bool → Bool → List ℕ → Form → Result Cursor ReaderFault → Type 0
GivesUnits standard joined text form answer =
    MatchResult answer (λ r. AreUnits standard joined text form r.units) (λ it. (it ≡ OutOfMemory) ⊎ HasNoUnits standard joined text form)
