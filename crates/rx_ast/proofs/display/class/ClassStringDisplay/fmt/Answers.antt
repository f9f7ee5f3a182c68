use Rattle.rx_ast.proofs.ClassShown.{characters_next}
use Rattle.rx_ast.proofs.FormatterWrites.{left_then}
use Rattle.rx_ast.proofs.display.class.ClassStringDisplay.fmt.Goals as goal

pub loop-character-preserved : goal.loop-character-preserved
loop-character-preserved g c =
    let next = characters_next c.as_slice-character-items.result.now c.loop-character.character-index _ c.loop-character-test.true in
    left_then _ _ c.loop-character.invariant next c.in_ok-fmt.ensures.writes
