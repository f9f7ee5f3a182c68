use Rattle.std.proofs.Common.{◌≡◌, take}
use Rattle.rx_ast.proofs.class.ClassString.clone.Given as goal

abbrev pub invariant-loop-character : goal.invariant-loop-character
invariant-loop-character l = l.body ≡ take l.character-index l.characters
