use Rattle.std.proofs.Common.{◌≡◌, take}
use Rattle.rx_ast.proofs.class.ClassStringDisjunction.clone.Given as goal

abbrev pub invariant-loop-string : goal.invariant-loop-string
invariant-loop-string l = l.body ≡ take l.string-index l.strings
