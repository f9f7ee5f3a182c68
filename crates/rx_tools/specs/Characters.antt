-- How a character is spelled, by its form.
use Rattle.std.specs.Prelude.{ℕ, ◌∷◌, List, []}
use Rattle.std.specs.Char.{IsScalar}
use Rattle.rx_base.specs.Ascii as ascii
use Rattle.rx_model.specs.Spelling.CharacterText as text
use Rattle.rx_model.specs.Spelling.CharacterText.{control_letter, two_digits, four_digits, in_braces_text}
use Rattle.rx_tools.specs.declared.character.Place.{Place}
use Rattle.rx_tools.specs.declared.character.Place.TheVariants.{Outside, InClass}
use Rattle.rx_tools.specs.declared.character.CharacterForm.{CharacterForm}
use Rattle.rx_tools.specs.declared.character.CharacterForm.TheVariants.{Control, TwoDigits, FourDigits, Braced, Escaped, Digit, Raw}

abbrev pub place_of : Place → text.Place
place_of (Outside after_reference) = text.outside after_reference
place_of InClass = text.in_class

abbrev pub form_text : CharacterForm → ℕ → List ℕ
form_text Control c = ascii.backslash ∷ control_letter c ∷ []
form_text TwoDigits c = two_digits c
form_text FourDigits c = four_digits c
form_text Braced c = in_braces_text c
form_text Escaped c = ascii.backslash ∷ c ∷ []
form_text Digit c = ascii.backslash ∷ ascii.x ∷ ascii.three ∷ c ∷ []
form_text Raw c = c ∷ []

-- Where the form writes the value as it is, this is a character.
abbrev pub IsWritable : CharacterForm → ℕ → Type 0
IsWritable Control c = Unit {0}
IsWritable TwoDigits c = Unit {0}
IsWritable FourDigits c = Unit {0}
IsWritable Braced c = Unit {0}
IsWritable Escaped c = IsScalar c
IsWritable Digit c = IsScalar c
IsWritable Raw c = IsScalar c
