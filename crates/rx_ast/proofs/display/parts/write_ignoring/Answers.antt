use Rattle.std.proofs.Common.{sym, ap, ◌∙◌, codes}
use Rattle.std.specs.Char.{encode_utf8}
use Rattle.std.specs.Str.{encode_utf8_all}
use Rattle.rx_base.proofs.Messages.{encoded_between}
use Rattle.rx_ast.specs.Texts.{modifiers_text, opener_text}
use Rattle.rx_ast.specs.Tree.{ignoring}
use Rattle.rx_ast.proofs.FormatterWrites.{other_bytes}
use Rattle.rx_ast.proofs.display.parts.write_ignoring.Goals as goal

pub returns-in-Some : goal.returns-in-Some
unfolding encode_utf8
returns-in-Some g c =
    let text = sym (encoded_between (codes "(?") (modifiers_text c.in-Some.modifiers) (codes ":")) ∙ ap (λ m. encode_utf8_all (opener_text (ignoring m))) (sym c.in-Some.is) in
    other_bytes _ text c.write.ensures.writes
