use Rattle.std.proofs.Common.{sym, ap, ◌∙◌, codes}
use Rattle.std.specs.Char.{encode_utf8}
use Rattle.std.specs.Str.{encode_utf8_all}
use Rattle.rx_base.proofs.Messages.{named_between}
use Rattle.rx_ast.specs.Texts.{opener_text}
use Rattle.rx_ast.specs.Tree.{capturing}
use Rattle.rx_ast.proofs.FormatterWrites.{other_bytes}
use Rattle.rx_ast.proofs.display.parts.write_capturing.Goals as goal

pub returns-in-Some : goal.returns-in-Some
unfolding encode_utf8
returns-in-Some g c =
    let text = named_between (codes "(?<") (codes ">") c.as_str.result.now _ c.as_str.utf8 c.as_str.ensures ∙ ap (λ n. encode_utf8_all (opener_text (capturing n))) (sym c.in-Some.is) in
    other_bytes _ text c.write.ensures.writes
