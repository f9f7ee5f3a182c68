use Rattle.std.proofs.Common.{drop}
use Rattle.rx_ast.specs.Shown.{characters_shown}
use Rattle.rx_ast.proofs.FormatterWrites.{Left}
use Rattle.rx_ast.proofs.display.class.ClassStringDisplay.fmt.Given as goal

abbrev pub invariant-loop-character : goal.invariant-loop-character
invariant-loop-character g l =
    Left g.W.Write.write_str_gives l.fn.f l.f (characters_shown l.character-items) (characters_shown (drop l.character-index l.character-items))
