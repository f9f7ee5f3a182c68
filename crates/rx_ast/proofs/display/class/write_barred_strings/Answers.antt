use Rattle.std.proofs.Common.{◌++◌, codes}
use Rattle.std.specs.Char.{encode_utf8}
use Rattle.rx_ast.specs.Shown.{characters_shown}
use Rattle.rx_ast.proofs.ClassShown.{strings_next}
use Rattle.rx_ast.proofs.FormatterWrites.{left_then}
use Rattle.rx_ast.proofs.display.class.write_barred_strings.Goals as goal

pub loop-string-preserved : goal.loop-string-preserved
unfolding encode_utf8
loop-string-preserved g c =
    let next = strings_next c.args.strings.now c.loop-string.string-index c.string-item.result c.loop-string-test.true c.string-item.is in
    left_then (codes "|" ++ characters_shown c.string-item.result.body) _ c.loop-string.invariant next c.in_ok-write.ensures.writes
