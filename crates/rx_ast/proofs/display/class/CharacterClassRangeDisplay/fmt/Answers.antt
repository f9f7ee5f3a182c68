use Rattle.std.proofs.Common.{sym, codes}
use Rattle.std.specs.Char.{encode_utf8}
use Rattle.rx_ast.specs.Shown.{character_shown}
use Rattle.rx_ast.proofs.FormatterWrites.{encoded_three, other_bytes}
use Rattle.rx_ast.proofs.display.class.CharacterClassRangeDisplay.fmt.Goals as goal

pub returns-clause-writes : goal.returns-clause-writes
unfolding encode_utf8
returns-clause-writes g c =
    let it = c.args.self.now in
    other_bytes _ (sym (encoded_three (character_shown it.min) (codes "-") (character_shown it.max))) c.write.ensures.writes
