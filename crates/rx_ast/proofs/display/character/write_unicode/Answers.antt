use Rattle.std.proofs.Common.{ap, ◌∙◌, Some, codes}
use Rattle.std.specs.Fmt.{◌++?◌, styled_digits_output}
use Rattle.rx_ast.specs.Shown.{hexadecimal, unicode_shown}
use Rattle.rx_ast.proofs.Characters.{bytes_of_four, bytes_in_braces}
use Rattle.rx_ast.proofs.OwnBytes.{padded_output}
use Rattle.rx_ast.proofs.FormatterWrites.{displayed}
use Rattle.rx_ast.proofs.display.character.write_unicode.Goals as goal

pub returns-then-value-le65535 : goal.returns-then-value-le65535
returns-then-value-le65535 g c =
    let shown = ap (λ s. styled_digits_output c.in_radix.result s) c.laid_out.ensures ∙ padded_output c.in_radix.result.base 4 _ (hexadecimal c.args.value) c.in_radix.ensures in
    displayed _ (unicode_shown c.args.value) (ap (λ o. Some (codes "\\u") ++? o) shown) (bytes_of_four c.args.value c.if-value-le65535.true) c.write.ensures.writes

pub returns-else-value-le65535 : goal.returns-else-value-le65535
returns-else-value-le65535 g c =
    let shown = ap (λ o. Some (codes "\\u{") ++? o ++? Some (codes "}")) c.in_radix-else-value-le65535.ensures in
    displayed _ (unicode_shown c.args.value) shown (bytes_in_braces c.args.value c.ranges.value.fits c.if-value-le65535.false) c.write-else-value-le65535.ensures.writes
