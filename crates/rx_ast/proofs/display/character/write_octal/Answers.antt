use Rattle.std.proofs.Common.{ap, ◌∙◌, Some, codes}
use Rattle.std.specs.Fmt.{◌++?◌, styled_digits_output}
use Rattle.rx_ast.specs.Shown.{octal, octal_shown}
use Rattle.rx_ast.proofs.Characters.{bytes_of_octal}
use Rattle.rx_ast.proofs.OwnBytes.{padded_output}
use Rattle.rx_ast.proofs.FormatterWrites.{displayed}
use Rattle.rx_ast.proofs.display.character.write_octal.Goals as goal

pub returns : goal.returns
returns g c =
    let shown = ap (λ s. styled_digits_output c.in_radix.result s) c.laid_out.ensures ∙ padded_output c.in_radix.result.base c.args.least _ (octal c.args.value) c.in_radix.ensures in
    displayed _ (octal_shown c.args.least c.args.value) (ap (λ o. Some (codes "\\") ++? o) shown) (bytes_of_octal c.args.least c.args.value c.ranges.value.fits) c.write.ensures.writes
