use Rattle.std.proofs.Common.{refl, ap, ◌∙◌}
use Rattle.rx_ast.specs.declared.term.LookAroundAssertion.{out-LookAroundAssertion}
use Rattle.rx_ast.specs.Shown.{node_shown}
use Rattle.rx_ast.specs.Texts.{opener_text}
use Rattle.rx_ast.specs.Tree.{looking, mirror_term}
use Rattle.rx_ast.proofs.Equations.{class_is, tree_of_capturing, tree_of_ignore, tree_of_look, tree_of_quantifier}
use Rattle.rx_display.proofs.Writers.{no_text, spelled}
use Rattle.rx_tasks.proofs.Texts.{goes_all, goes_none, goes_past}
use Rattle.rx_display.proofs.printing.write_term.Goals as goal

pub returns-in-Quantifier-clause-text : goal.returns-in-Quantifier-clause-text
returns-in-Quantifier-clause-text g c =
    goes_none (no_text c.requires) (rw (c.deref.ensures, c.deref-in-Quantifier.ensures) (ap (λ t. node_shown (mirror_term t)) c.in-Quantifier.is ∙ ap node_shown (tree_of_quantifier c.in-Quantifier.it)))

pub returns-in_ok-write_str-in-LookAroundAssertion-clause-text : goal.returns-in_ok-write_str-in-LookAroundAssertion-clause-text
returns-in_ok-write_str-in-LookAroundAssertion-clause-text g c =
    let opener = opener_text (looking (out-LookAroundAssertion c.in-LookAroundAssertion.it.value).kind) in
    let written = spelled _ _ c.look_text.utf8 c.look_text.ensures (c.in_ok-write_str-in-LookAroundAssertion.ensures.writes c.requires refl) in
    goes_past opener (ap (λ t. node_shown (mirror_term t)) c.in-LookAroundAssertion.is ∙ ap node_shown (tree_of_look c.in-LookAroundAssertion.it))
    (rw c.deref-in-LookAroundAssertion-2.ensures at c.group_body.ensures.text) (rw c.deref-in-LookAroundAssertion.ensures at written)

pub returns-in_ok-write_capturing-in-CapturingGroup-clause-text : goal.returns-in_ok-write_capturing-in-CapturingGroup-clause-text
returns-in_ok-write_capturing-in-CapturingGroup-clause-text g c =
    goes_past _ (ap (λ t. node_shown (mirror_term t)) c.in-CapturingGroup.is ∙ ap node_shown (tree_of_capturing c.in-CapturingGroup.it))
    (rw c.deref-in-CapturingGroup-2.ensures at c.group_body-in-CapturingGroup.ensures.text) (rw c.deref-in-CapturingGroup.ensures at (c.in_ok-write_capturing-in-CapturingGroup.ensures c.requires refl))

pub returns-in_ok-write_ignoring-in-IgnoreGroup-clause-text : goal.returns-in_ok-write_ignoring-in-IgnoreGroup-clause-text
returns-in_ok-write_ignoring-in-IgnoreGroup-clause-text g c =
    goes_past _ (ap (λ t. node_shown (mirror_term t)) c.in-IgnoreGroup.is ∙ ap node_shown (tree_of_ignore c.in-IgnoreGroup.it))
    (rw c.deref-in-IgnoreGroup-2.ensures at c.group_body-in-IgnoreGroup.ensures.text) (rw c.deref-in-IgnoreGroup.ensures at (c.in_ok-write_ignoring-in-IgnoreGroup.ensures c.requires refl))

pub returns-in_ok-write_class-in-CharacterClass-clause-text : goal.returns-in_ok-write_class-in-CharacterClass-clause-text
returns-in_ok-write_class-in-CharacterClass-clause-text g c =
    goes_all (ap (λ t. node_shown (mirror_term t)) c.in-CharacterClass.is ∙ ap node_shown (class_is c.in-CharacterClass.it)) (rw c.deref-in-CharacterClass.ensures at c.in_ok-write_class-in-CharacterClass.ensures)

pub returns-in_ok-fmt-in_default-clause-text : goal.returns-in_ok-fmt-in_default-clause-text
returns-in_ok-fmt-in_default-clause-text g c = goes_all refl (c.in_ok-fmt-in_default.ensures.writes c.requires refl)
