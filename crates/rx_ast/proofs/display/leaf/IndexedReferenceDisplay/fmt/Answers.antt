use Rattle.std.proofs.Common.{refl, sym, arith, codes}
use Rattle.std.specs.Char.{encode_utf8}
use Rattle.std.specs.Fmt.{decimal}
use Rattle.rx_ast.proofs.OwnBytes.{own_bytes_then, own_bytes_decimal}
use Rattle.rx_ast.proofs.FormatterWrites.{other_bytes}
use Rattle.rx_ast.proofs.display.leaf.IndexedReferenceDisplay.fmt.Goals as goal

pub returns-clause-writes : goal.returns-clause-writes
unfolding encode_utf8
returns-clause-writes g c =
    let index = c.args.self.now.index in
    other_bytes _ (sym (own_bytes_then (codes "\\") (decimal index) refl (own_bytes_decimal index (omega arith)))) c.write.ensures.writes
