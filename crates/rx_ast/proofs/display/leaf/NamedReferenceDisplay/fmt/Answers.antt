use Rattle.std.proofs.Common.{codes}
use Rattle.std.specs.Char.{encode_utf8}
use Rattle.rx_base.proofs.Messages.{named_between}
use Rattle.rx_ast.proofs.FormatterWrites.{other_bytes}
use Rattle.rx_ast.proofs.display.leaf.NamedReferenceDisplay.fmt.Goals as goal

pub returns-clause-writes : goal.returns-clause-writes
unfolding encode_utf8
returns-clause-writes g c = other_bytes _ (named_between (codes "\\k<") (codes ">") c.as_str.result.now _ c.as_str.utf8 c.as_str.ensures) c.write.ensures.writes
