use Rattle.std.proofs.Common.{refl, ap, ◌∙◌}
use Rattle.rx_ast.specs.ClassTree.{mirror_contents}
use Rattle.rx_ast.specs.Shown.{member_shown}
use Rattle.rx_ast.proofs.ClassEquations.{nested_is}
use Rattle.rx_display.proofs.Writers.{no_text}
use Rattle.rx_tasks.proofs.Texts.{goes_all, goes_none}
use Rattle.rx_display.proofs.class_task.write_contents.Goals as goal

pub returns-in-NestedCharacterClass-clause-text : goal.returns-in-NestedCharacterClass-clause-text
returns-in-NestedCharacterClass-clause-text g c =
    goes_none (no_text c.requires) (rw c.deref.ensures (ap (λ m. member_shown (mirror_contents m)) c.in-NestedCharacterClass.is ∙ ap member_shown (nested_is c.in-NestedCharacterClass.class)))

pub returns-clause-text : goal.returns-clause-text
returns-clause-text g c = goes_all refl (c.in_ok-fmt.ensures.writes c.requires refl)
