use Rattle.std.proofs.Common.{ap, ◌∙◌, subst, map}
use Rattle.std.proofs.lemmas.Result.{on_ok_weaker}
use Rattle.rx_ast.specs.Tree.{group, alternatives, mirror_alternative, mirror_term}
use Rattle.rx_ast.proofs.Equations.{disjunction_roll}
use Rattle.rx_rewrite.specs.declared.rewriter.Rewriter.{Rewriter}
use Rattle.rx_rewrite.specs.RewriterState.{AddsTerm, opener_of}
use Rattle.rx_rewrite.proofs.Performing.{adds_term}
use Rattle.rx_rewrite.proofs.Cutting.{ends_group}
use Rattle.rx_rewrite.proofs.rewriter.Rewriter.end_group.Goals as goal

pub returns : goal.returns
returns c =
    let r = c.args.self.now in
    let o = opener_of c.args.opener in
    let t = c.in_ok-term.term in
    let after : Rewriter = record r { alternatives = c.replace-alternatives.new.dest; terms = c.push.new.self } in
    on_ok_weaker c.push.result
    (λ pushed. ends_group r after c.args.span c.args.body o c.args.outer t
    (c.in_ok-term.ensures ∙ ap (λ d. group c.args.span o d.0 d.1) (disjunction_roll _) ∙ ap (λ b. group c.args.span o c.args.body (alternatives (map mirror_alternative b))) c.replace-alternatives.ensures.value)
    (subst (λ outer. AddsTerm (record r { alternatives = outer }) (mirror_term t) after) c.replace-alternatives.ensures.after (adds_term (record r { alternatives = c.replace-alternatives.new.dest }) c.push.new.self t pushed)))
    c.push.ensures.ok
