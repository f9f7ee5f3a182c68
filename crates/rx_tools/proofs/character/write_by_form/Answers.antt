use Rattle.std.proofs.Common.{ap, sym, ◌∙◌, ◌∷◌, []}
use Rattle.std.specs.Str.{chars}
use Rattle.rx_tools.proofs.Pieces.{same_text}
use Rattle.rx_tools.proofs.character.write_by_form.Goals as goal

pub returns-in-Control : goal.returns-in-Control
unfolding chars
returns-in-Control g c = same_text (sym c.in-Control.ensures.text ∙ ap (λ l. 92 ∷ l ∷ []) (sym c.control_letter.ensures)) c.write_escape.ensures

pub returns-in-TwoDigits : goal.returns-in-TwoDigits
returns-in-TwoDigits g c = same_text (sym c.in-TwoDigits.ensures.text) c.write_two_digits.ensures

pub returns-in-FourDigits : goal.returns-in-FourDigits
returns-in-FourDigits g c = same_text (sym c.in-FourDigits.ensures.text) c.write_four_digits.ensures

pub returns-in-Braced : goal.returns-in-Braced
returns-in-Braced g c = same_text (sym c.in-Braced.ensures.text) c.write_braced.ensures

pub returns-in-Escaped : goal.returns-in-Escaped
unfolding chars
returns-in-Escaped g c = same_text (sym c.in-Escaped.ensures.text ∙ ap (λ l. 92 ∷ l ∷ []) (sym c.character.ensures)) c.write_escape-in-Escaped.ensures

pub returns-in-Digit : goal.returns-in-Digit
unfolding chars
returns-in-Digit g c = same_text (sym c.in-Digit.ensures.text ∙ ap (λ l. 92 ∷ 120 ∷ 51 ∷ l ∷ []) (sym c.character-in-Digit.ensures)) c.write_escape-in-Digit.ensures

pub returns-in-Raw : goal.returns-in-Raw
returns-in-Raw g c = same_text (sym c.in-Raw.ensures.text ∙ ap (λ l. l ∷ []) (sym c.character-in-Raw.ensures)) c.write_char.ensures
