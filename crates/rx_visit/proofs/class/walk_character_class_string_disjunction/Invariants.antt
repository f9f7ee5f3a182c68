use Rattle.std.proofs.Common.{take, map}
use Rattle.rx_ast.specs.Kinds.{class_string}
use Rattle.rx_visit.specs.Visits.{VisitedAll}
use Rattle.rx_visit.proofs.class.walk_character_class_string_disjunction.Given as goal

abbrev pub invariant-loop-string : goal.invariant-loop-string
invariant-loop-string g l = VisitedAll g.V.Visit.entered g.V.Visit.left l.initial.visitor (map class_string (take l.string-index l.strings)) l.visitor
