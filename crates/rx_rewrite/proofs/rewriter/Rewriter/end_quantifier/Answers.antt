use Rattle.std.proofs.Common.{refl, ap, ◌∙◌, subst}
use Rattle.std.proofs.lemmas.Result.{on_ok_weaker}
use Rattle.rx_ast.specs.declared.term.Term.TheVariants as term
use Rattle.rx_ast.specs.Tree.{quantified, mirror_term}
use Rattle.rx_ast.proofs.Equations.{tree_of_quantifier}
use Rattle.rx_rewrite.specs.declared.rewriter.Rewriter.{Rewriter}
use Rattle.rx_rewrite.specs.RewriterState.{AddsTerm}
use Rattle.rx_rewrite.proofs.Performing.{adds_term, performs_quantifier}
use Rattle.rx_rewrite.proofs.rewriter.Rewriter.end_quantifier.Goals as goal

pub returns : goal.returns
returns c =
    let r = c.args.self.now in
    let q = c.args.it.now in
    let d : Rewriter = record r { terms = c.pop.new.self } in
    let after : Rewriter = record r { terms = c.push.new.self } in
    let mirrors = tree_of_quantifier c.in_ok-copy.copy ∙ ap (λ x. quantified x.span x.min x.max x.greedy (mirror_term x.body)) c.in_ok-copy.ensures.ok in
    on_ok_weaker c.push.result
    (λ pushed. performs_quantifier r d after c.pop.new.self c.in-Some.body q.span q.min q.max q.greedy c.in-Some.ensures refl
    (subst (λ n. AddsTerm d n after) mirrors (adds_term d c.push.new.self (term.Quantifier c.in_ok-copy.copy) pushed)))
    c.push.ensures.ok
