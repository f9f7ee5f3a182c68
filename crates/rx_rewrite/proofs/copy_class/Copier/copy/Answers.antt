use Rattle.std.proofs.Common.{ap, sym, ◌∙◌}
use Rattle.std.proofs.lemmas.Result.{on_ok_weaker}
use Rattle.rx_ast.specs.ClassTree.{nested, mirror_class, mirror_contents}
use Rattle.rx_ast.proofs.ClassEquations.{nested_is}
use Rattle.rx_rewrite.specs.ClassWorks.{one}
use Rattle.rx_rewrite.proofs.ClassCopies.{copies_is}
use Rattle.rx_rewrite.proofs.copy_class.Copier.copy.Goals as goal

pub returns-in-NestedCharacterClass : goal.returns-in-NestedCharacterClass
returns-in-NestedCharacterClass c =
    on_ok_weaker c.open_class.result
    (copies_is c.args.self.now c.open_class.new.self (one (mirror_contents c.args.contents.now)) (one (nested (mirror_class c.deref.result.now)))
    (ap (λ x. one (mirror_contents x)) c.in-NestedCharacterClass.is ∙ ap one (nested_is c.in-NestedCharacterClass.it) ∙ ap (λ x. one (nested (mirror_class x))) (sym c.deref.ensures)))
    c.open_class.ensures
