use Rattle.std.proofs.Common.{ap}
use Rattle.rx_ast.proofs.Equations.{quantifier_is}
use Rattle.rx_model.specs.Spelling.Spelling.{node_text}
use Rattle.rx_tools.proofs.Pieces.{same_text, text_then, text_stop, failed_from}
use Rattle.rx_tools.proofs.leaf.write_quantified_leaf.Goals as goal

pub returns-in_err-write_leaf : goal.returns-in_err-write_leaf
returns-in_err-write_leaf g c =
    same_text (ap (λ n. node_text c.args.mode c.args.after_reference n) (quantifier_is c.args.it.now)) (text_stop _ _ c.in_err-write_leaf.ensures (failed_from _ _ c.from_residual.ensures.1))

pub returns : goal.returns
returns g c = same_text (ap (λ n. node_text c.args.mode c.args.after_reference n) (quantifier_is c.args.it.now)) (text_then _ _ c.in_ok-write_leaf.ensures c.write_quantifier.ensures)
