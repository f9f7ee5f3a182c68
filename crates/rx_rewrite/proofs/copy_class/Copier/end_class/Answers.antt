use Rattle.std.proofs.Common.{ap, ◌∙◌, ◌++◌, ◌∷◌, [], map}
use Rattle.std.proofs.lemmas.Result.{on_ok_weaker}
use Rattle.rx_ast.specs.declared.class.CharacterClassContents.TheVariants as contents
use Rattle.rx_ast.specs.ClassTree.{nested, class, members, mirror_class, mirror_contents}
use Rattle.rx_ast.proofs.ClassEquations.{nested_is}
use Rattle.rx_rewrite.proofs.ClassCopies.{ends_class}
use Rattle.rx_rewrite.proofs.copy_class.Copier.end_class.Goals as goal

pub returns : goal.returns
returns c =
    let k = c.args.class.now in
    let x = contents.NestedCharacterClass c.in_ok-copy.copy in
    on_ok_weaker c.push.result
    (λ pushed. ends_class c.args.self.now k.span k.negative k.strings k.kind c.args.before c.push.new.self x
    (nested_is c.in_ok-copy.copy ∙ ap (λ y. nested (mirror_class y)) c.in_ok-copy.ensures.ok ∙ ap nested c.with_body-copy.ensures
    ∙ ap (λ b. nested (class k.span k.negative k.strings k.kind (members (map mirror_contents b)))) c.replace-body.ensures.value)
    (pushed ∙ ap (λ b. b ++ (x ∷ [])) c.replace-body.ensures.after))
    c.push.ensures.ok
