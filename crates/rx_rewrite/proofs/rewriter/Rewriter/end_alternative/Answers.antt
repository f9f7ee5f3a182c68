use Rattle.std.proofs.Common.{ap, ◌∙◌, map}
use Rattle.std.proofs.lemmas.Result.{on_ok_weaker}
use Rattle.rx_ast.specs.Tree.{mirror_term, nodes}
use Rattle.rx_ast.proofs.Equations.{alternative_is}
use Rattle.rx_rewrite.proofs.Cutting.{ends_alternative}
use Rattle.rx_rewrite.proofs.rewriter.Rewriter.end_alternative.Goals as goal

pub returns : goal.returns
returns c =
    let r = c.args.self.now in
    on_ok_weaker c.push.result
    (λ pushed. ends_alternative r (record r { terms = c.replace-body.new.dest; alternatives = c.push.new.self }) c.args.span c.args.outer _
    (alternative_is _ ∙ ap (λ ts. (c.args.span, nodes (map mirror_term ts))) c.replace-body.ensures.value)
    (ap (λ ts. record r { terms = ts; alternatives = c.push.new.self }) c.replace-body.ensures.after ∙ ap (λ more. record r { terms = c.args.outer; alternatives = more }) pushed))
    c.push.ensures.ok
