-- The numbers that stand for what C has no type for.
use Rattle.std.specs.Prelude.{ℕ, zero, suc, Option, Some, None}
use Rattle.rx_model.specs.declared.form.Form.{Form}
use Rattle.rx_model.specs.declared.form.Form.TheVariants.{Literal, Constructor}
use Rattle.rx_model.specs.declared.mode.Mode.{Mode}
use Rattle.rx_model.specs.declared.mode.Mode.TheVariants.{Legacy, Unicode, Sets}
use Rattle.rx_refusal.specs.declared.field.Field.{Field}
use Rattle.rx_refusal.specs.declared.field.Field.TheVariants.{Flags, Pattern}

abbrev pub mode_code : Mode → ℕ
mode_code Legacy = 0
mode_code Unicode = 1
mode_code Sets = 2

abbrev pub field_code : Field → ℕ
field_code Pattern = 0
field_code Flags = 1

-- the form that a number stands for
abbrev pub form_by : ℕ → Option Form
form_by zero = Some Literal
form_by (suc zero) = Some Constructor
form_by (suc (suc n)) = None
