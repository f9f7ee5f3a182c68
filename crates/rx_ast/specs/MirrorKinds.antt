-- A reference to a node as plain data.
use Rattle.rx_ast.specs.declared.ast_kind.RegExpAstKind.{RegExpAstKind}
use Rattle.rx_ast.specs.declared.ast_kind.RegExpAstKind.TheVariants as to
use Rattle.rx_ast.specs.declared.term.CapturingGroup.{CapturingGroup, out-CapturingGroup}
use Rattle.rx_ast.specs.declared.term.IgnoreGroup.{IgnoreGroup, out-IgnoreGroup}
use Rattle.rx_ast.specs.declared.term.LookAroundAssertion.{LookAroundAssertion, out-LookAroundAssertion}
use Rattle.rx_ast.specs.declared.term.Quantifier.{Quantifier}
use Rattle.rx_ast.specs.ClassTree.{mirror_contents, mirror_class}
use Rattle.rx_ast.specs.Tree.{mirror, mirror_term, mirror_alternative, mirror_disjunction}
use Rattle.rx_ast.specs.Kinds.{Kind, pattern, disjunction, alternative, term, look_around, quantifier, capturing_group, ignore_group, boundary_assertion, character, dot, class_escape, property_escape, class, class_contents, class_range, string_disjunction, class_string, indexed_reference, named_reference}

abbrev pub look_kind : LookAroundAssertion → Kind
look_kind a = let it = out-LookAroundAssertion a in look_around it.span it.kind (mirror_disjunction it.body)

abbrev pub quantifier_kind : Quantifier → Kind
quantifier_kind q = quantifier q.span q.min q.max q.greedy (mirror_term q.body)

abbrev pub capturing_kind : CapturingGroup → Kind
capturing_kind g = let it = out-CapturingGroup g in capturing_group it.span it.name (mirror_disjunction it.body)

abbrev pub ignore_kind : IgnoreGroup → Kind
ignore_kind g = let it = out-IgnoreGroup g in ignore_group it.span it.modifiers (mirror_disjunction it.body)

abbrev pub mirror_kind : RegExpAstKind → Kind
mirror_kind (to.Pattern p) = pattern (mirror p.now)
mirror_kind (to.Disjunction d) = disjunction (mirror_disjunction d.now)
mirror_kind (to.Alternative a) = alternative (mirror_alternative a.now)
mirror_kind (to.Term t) = term (mirror_term t.now)
mirror_kind (to.LookAroundAssertion a) = look_kind a.now
mirror_kind (to.Quantifier q) = quantifier_kind q.now
mirror_kind (to.CapturingGroup g) = capturing_kind g.now
mirror_kind (to.IgnoreGroup g) = ignore_kind g.now
mirror_kind (to.BoundaryAssertion b) = boundary_assertion b.now
mirror_kind (to.Character c) = character c.now
mirror_kind (to.Dot d) = dot d.now
mirror_kind (to.CharacterClassEscape e) = class_escape e.now
mirror_kind (to.UnicodePropertyEscape p) = property_escape p.now
mirror_kind (to.CharacterClass c) = class (mirror_class c.now)
mirror_kind (to.CharacterClassContents c) = class_contents (mirror_contents c.now)
mirror_kind (to.CharacterClassRange r) = class_range r.now
mirror_kind (to.CharacterClassStringDisjunction d) = string_disjunction d.now
mirror_kind (to.CharacterClassString s) = class_string s.now
mirror_kind (to.IndexedReference r) = indexed_reference r.now
mirror_kind (to.NamedReference r) = named_reference r.now
