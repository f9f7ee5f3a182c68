use Rattle.std.proofs.Common.{take, map}
use Rattle.rx_ast.specs.Kinds.{character}
use Rattle.rx_visit.specs.Visits.{VisitedAll}
use Rattle.rx_visit.proofs.class.walk_character_class_string.Given as goal

abbrev pub invariant-loop-character : goal.invariant-loop-character
invariant-loop-character g l = VisitedAll g.V.Visit.entered g.V.Visit.left l.initial.visitor (map character (take l.character-index l.characters)) l.visitor
