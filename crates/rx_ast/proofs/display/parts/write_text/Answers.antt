use Rattle.std.proofs.Common.{refl, sym}
use Rattle.std.specs.Str.{chars}
use Rattle.rx_ast.proofs.FormatterWrites.{encoded, other_bytes}
use Rattle.rx_ast.proofs.display.parts.write_text.Goals as goal

pub returns : goal.returns
returns g c = other_bytes _ (sym (encoded c.args.text.now (chars c.args.text.now) c.utf8.text refl)) c.write_str.ensures.writes
