-- All that has been built is well made.
use Rattle.std.specs.Prelude.{List}
use Rattle.std.specs.List.{AllByRecursion}
use Rattle.rx_ast.specs.declared.term.Alternative.{Alternative}
use Rattle.rx_ast.specs.declared.term.Disjunction.{Disjunction}
use Rattle.rx_ast.specs.declared.term.Term.{Term}
use Rattle.rx_ast.specs.Tree.{mirror_term, mirror_alternative, mirror_disjunction}
use Rattle.rx_model.specs.declared.mode.Mode.{Mode}
use Rattle.rx_model.specs.Trees.Shapes.{IsNode, AreNodes, HasAlternatives}
use Rattle.rx_parser.specs.declared.builder.Builder.{Builder}
use Rattle.rx_parser.specs.declared.frame.Frame.{Frame}
use Rattle.rx_parser.specs.declared.level.Level.{Level}

-- A term is well made: its quantifiers have bodies that they may have (Term, 22.2.1), and each disjunction in it has an alternative.
abbrev pub IsGoodTerm : Mode → Term → Type 0
IsGoodTerm mode t = IsNode mode (mirror_term t)

-- A disjunction has an alternative, and the terms of each are well made (Disjunction, 22.2.1).
abbrev pub IsGoodDisjunction : Mode → Disjunction → Type 0
IsGoodDisjunction mode d = HasAlternatives mode (mirror_disjunction d).1

-- All terms are well made: those of a list,
abbrev pub AreGoodTerms : Mode → List Term → Type 0
AreGoodTerms mode ts = AllByRecursion (IsGoodTerm mode) ts

-- those of an alternative (Alternative, 22.2.1),
abbrev pub IsGoodAlternative : Mode → Alternative → Type 0
IsGoodAlternative mode a = AreNodes mode (mirror_alternative a).1

-- those of each of these alternatives,
abbrev pub AreGoodAlternatives : Mode → List Alternative → Type 0
AreGoodAlternatives mode all = AllByRecursion (IsGoodAlternative mode) all

-- those of a disjunction that is not yet at its end (Disjunction, 22.2.1),
unfoldable pub IsGoodLevel : Mode → Level → Type 0
IsGoodLevel mode l = AreGoodAlternatives mode l.alternatives × AreGoodTerms mode l.terms

-- those that stand before an open group in its outer disjunction,
abbrev pub IsGoodFrame : Mode → Frame → Type 0
IsGoodFrame mode f = IsGoodLevel mode f.outer

-- and before each of these groups,
abbrev pub AreGoodFrames : Mode → List Frame → Type 0
AreGoodFrames mode fs = AllByRecursion (IsGoodFrame mode) fs

-- and those of all that has been read, in the builder's mode.
unfoldable pub IsGood : Builder → Type 0
IsGood b = AreGoodFrames b.mode b.frames × IsGoodLevel b.mode b.level
