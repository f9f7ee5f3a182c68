use Rattle.std.proofs.Common.{refl, sym, ap, ◌∙◌, ◌==◌, ◌||◌, not, false}
use Rattle.std.proofs.lemmas.Result.{on_ok_weaker}
use Rattle.rx_ast.specs.ClassTree.{mirror_class}
use Rattle.rx_ast.specs.Tree as tree
use Rattle.rx_ast.specs.Tree.{mirror_capturing, mirror_ignore, mirror_look, mirror_quantifier, mirror_term}
use Rattle.rx_ast.proofs.Equations.{boundary_is, character_is, dot_is, escape_is, property_is, class_is, indexed_is, named_is, look_term_is, quantifier_term_is, capturing_term_is, ignore_term_is}
use Rattle.rx_program.specs.Codes as code
use Rattle.rx_trace.specs.Groups.{slot_of, slot_named}
use Rattle.rx_trace.specs.Holding.{is_line_terminator, escape_holds}
use Rattle.rx_program.proofs.Performing.{about_node, builds_node, leaf_done, class_done, some_row}
use Rattle.rx_program.proofs.builder.Builder.term.Goals as goal

pub returns-in-BoundaryAssertion : goal.returns-in-BoundaryAssertion
returns-in-BoundaryAssertion c =
    on_ok_weaker c.assert.result
    (leaf_done c.args.self.now c.assert.new.self c.args.context (mirror_term c.args.term.now) (tree.boundary c.in-BoundaryAssertion.it) (code.assert c.in-BoundaryAssertion.it.kind c.args.context.settings.multiline) (ap mirror_term c.in-BoundaryAssertion.is ∙ boundary_is _) (λ next. refl) (λ before. refl) c.requires.sound) c.assert.ensures

pub returns-in-Character : goal.returns-in-Character
returns-in-Character c =
    on_ok_weaker c.consume.result
    (leaf_done c.args.self.now c.consume.new.self c.args.context (mirror_term c.args.term.now) (tree.character c.in-Character.it) (code.consume (λ u. u == c.in-Character.it.value)) (ap mirror_term c.in-Character.is ∙ character_is _) (λ next. refl) (λ before. refl) c.requires.sound) c.consume.ensures

pub returns-in-Dot : goal.returns-in-Dot
returns-in-Dot c =
    on_ok_weaker c.consume-in-Dot.result
    (leaf_done c.args.self.now c.consume-in-Dot.new.self c.args.context (mirror_term c.args.term.now) (tree.dot c.in-Dot.field-0) (code.consume (λ u. c.args.context.settings.dot_all || not (is_line_terminator u))) (ap mirror_term c.in-Dot.is ∙ dot_is _) (λ next. refl) (λ before. refl) c.requires.sound) c.consume-in-Dot.ensures

pub returns-in-CharacterClassEscape : goal.returns-in-CharacterClassEscape
returns-in-CharacterClassEscape c =
    on_ok_weaker c.consume-in-CharacterClassEscape.result
    (leaf_done c.args.self.now c.consume-in-CharacterClassEscape.new.self c.args.context (mirror_term c.args.term.now) (tree.class_escape c.in-CharacterClassEscape.it) (code.consume (escape_holds c.in-CharacterClassEscape.it.kind)) (ap mirror_term c.in-CharacterClassEscape.is ∙ escape_is _) (λ next. refl) (λ before. refl) c.requires.sound) c.consume-in-CharacterClassEscape.ensures

pub returns-in-UnicodePropertyEscape : goal.returns-in-UnicodePropertyEscape
returns-in-UnicodePropertyEscape c =
    on_ok_weaker c.consume-in-UnicodePropertyEscape.result
    (leaf_done c.args.self.now c.consume-in-UnicodePropertyEscape.new.self c.args.context (mirror_term c.args.term.now) (tree.property c.in-UnicodePropertyEscape.field-0.value) (code.consume (λ u. false)) (ap mirror_term c.in-UnicodePropertyEscape.is ∙ property_is _) (λ next. refl) (λ before. refl) c.requires.sound) c.consume-in-UnicodePropertyEscape.ensures

pub returns-in-IndexedReference : goal.returns-in-IndexedReference
returns-in-IndexedReference c =
    on_ok_weaker c.refer.result
    (leaf_done c.args.self.now c.refer.new.self c.args.context (mirror_term c.args.term.now) (tree.indexed c.in-IndexedReference.it) (code.refer (λ slots. slot_of slots c.in-IndexedReference.it.index)) (ap mirror_term c.in-IndexedReference.is ∙ indexed_is _) (λ next. refl) (λ before. refl) c.requires.sound) c.refer.ensures

pub pop_row-row-requires : goal.pop_row-row-requires
pop_row-row-requires c =
    some_row c.args.self.now c.args.context (mirror_term c.args.term.now) (mirror_class c.in-CharacterClass.field-0.value) (ap mirror_term c.in-CharacterClass.is ∙ class_is _) c.requires.sound

pub returns-in-CharacterClass : goal.returns-in-CharacterClass
returns-in-CharacterClass c =
    on_ok_weaker c.consume-in-CharacterClass.result
    (class_done c.args.self.now c.pop_row-row.new.self c.consume-in-CharacterClass.new.self c.args.context (mirror_term c.args.term.now) (mirror_class c.in-CharacterClass.field-0.value) c.pop_row-row.result.now
    (ap mirror_term c.in-CharacterClass.is ∙ class_is _) c.pop_row-row.ensures c.requires.sound)
    c.consume-in-CharacterClass.ensures

pub returns-in-NamedReference : goal.returns-in-NamedReference
returns-in-NamedReference c =
    let r = c.deref-in-NamedReference.result.now in
    on_ok_weaker c.refer_by_name.result
    (leaf_done c.args.self.now c.refer_by_name.new.self c.args.context (mirror_term c.args.term.now) (tree.named r) (code.refer (slot_named r.name c.args.self.now.names.now))
    (ap mirror_term c.in-NamedReference.is ∙ named_is c.in-NamedReference.it ∙ ap (λ b. tree.leaf (tree.named b)) (sym c.deref-in-NamedReference.ensures)) (λ next. refl) (λ before. refl) c.requires.sound) c.refer_by_name.ensures

pub look_around_body-requires : goal.look_around_body-requires
look_around_body-requires c = record { sound = about_node c.args.self.now c.args.context _ _ (ap mirror_term c.in-LookAroundAssertion.is ∙ look_term_is c.in-LookAroundAssertion.it ∙ ap mirror_look (sym c.deref.ensures)) c.requires.sound }

pub returns-in-LookAroundAssertion : goal.returns-in-LookAroundAssertion
returns-in-LookAroundAssertion c =
    on_ok_weaker c.look_around_body.result (builds_node c.args.self.now c.look_around_body.new.self c.args.context _ _ (ap mirror_term c.in-LookAroundAssertion.is ∙ look_term_is c.in-LookAroundAssertion.it ∙ ap mirror_look (sym c.deref.ensures))) c.look_around_body.ensures

pub quantifier_body-requires : goal.quantifier_body-requires
quantifier_body-requires c = record { sound = about_node c.args.self.now c.args.context _ _ (ap mirror_term c.in-Quantifier.is ∙ quantifier_term_is c.in-Quantifier.it ∙ ap mirror_quantifier (sym c.deref-in-Quantifier.ensures)) c.requires.sound }

pub returns-in-Quantifier : goal.returns-in-Quantifier
returns-in-Quantifier c =
    on_ok_weaker c.quantifier_body.result (builds_node c.args.self.now c.quantifier_body.new.self c.args.context _ _ (ap mirror_term c.in-Quantifier.is ∙ quantifier_term_is c.in-Quantifier.it ∙ ap mirror_quantifier (sym c.deref-in-Quantifier.ensures))) c.quantifier_body.ensures

pub capturing_body-requires : goal.capturing_body-requires
capturing_body-requires c = record { sound = about_node c.args.self.now c.args.context _ _ (ap mirror_term c.in-CapturingGroup.is ∙ capturing_term_is c.in-CapturingGroup.it ∙ ap mirror_capturing (sym c.deref-in-CapturingGroup.ensures)) c.requires.sound }

pub returns-in-CapturingGroup : goal.returns-in-CapturingGroup
returns-in-CapturingGroup c =
    on_ok_weaker c.capturing_body.result (builds_node c.args.self.now c.capturing_body.new.self c.args.context _ _ (ap mirror_term c.in-CapturingGroup.is ∙ capturing_term_is c.in-CapturingGroup.it ∙ ap mirror_capturing (sym c.deref-in-CapturingGroup.ensures))) c.capturing_body.ensures

pub ignored_body-requires : goal.ignored_body-requires
ignored_body-requires c = record { sound = about_node c.args.self.now c.args.context _ _ (ap mirror_term c.in-IgnoreGroup.is ∙ ignore_term_is c.in-IgnoreGroup.it ∙ ap mirror_ignore (sym c.deref-in-IgnoreGroup.ensures)) c.requires.sound }

pub returns-in-IgnoreGroup : goal.returns-in-IgnoreGroup
returns-in-IgnoreGroup c =
    on_ok_weaker c.ignored_body.result (builds_node c.args.self.now c.ignored_body.new.self c.args.context _ _ (ap mirror_term c.in-IgnoreGroup.is ∙ ignore_term_is c.in-IgnoreGroup.it ∙ ap mirror_ignore (sym c.deref-in-IgnoreGroup.ensures))) c.ignored_body.ensures
