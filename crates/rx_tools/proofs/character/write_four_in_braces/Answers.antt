use Rattle.rx_model.specs.Spelling.CharacterText.{in_braces_text}
use Rattle.rx_tools.proofs.Hexadecimal.{hex_four}
use Rattle.rx_tools.proofs.character.write_four_in_braces.Goals as goal

pub returns : goal.returns
unfolding in_braces_text
returns g c =
    rw (hex_four c.args.c c.requires.low c.requires.high, ← c.hex_digit.ensures.text, ← c.hex_digit-2.ensures.text, ← c.hex_digit-3.ensures.text, ← c.hex_digit-4.ensures.text) c.write_ascii.ensures
