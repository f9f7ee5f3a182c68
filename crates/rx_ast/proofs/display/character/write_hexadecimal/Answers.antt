use Rattle.std.proofs.Common.{ap, ◌∙◌, Some, codes}
use Rattle.std.specs.Fmt.{◌++?◌, styled_digits_output}
use Rattle.rx_ast.specs.Shown.{hexadecimal, hexadecimal_shown}
use Rattle.rx_ast.proofs.Characters.{bytes_of_two}
use Rattle.rx_ast.proofs.OwnBytes.{padded_output}
use Rattle.rx_ast.proofs.FormatterWrites.{displayed}
use Rattle.rx_ast.proofs.display.character.write_hexadecimal.Goals as goal

pub returns : goal.returns
returns g c =
    let shown = ap (λ s. styled_digits_output c.in_radix.result s) c.laid_out.ensures ∙ padded_output c.in_radix.result.base 2 _ (hexadecimal c.args.value) c.in_radix.ensures in
    displayed _ (hexadecimal_shown c.args.value) (ap (λ o. Some (codes "\\x") ++? o) shown) (bytes_of_two c.args.value c.ranges.value.fits) c.write.ensures.writes
