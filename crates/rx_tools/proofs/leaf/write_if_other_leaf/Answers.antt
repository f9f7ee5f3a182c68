use Rattle.std.proofs.Common.{ap, sym, ◌∙◌, true}
use Rattle.rx_ast.specs.Tree.{mirror_term, mirror_quantifier}
use Rattle.rx_ast.proofs.Equations.{quantifier_term_is}
use Rattle.rx_model.specs.Spelling.Spelling.{node_text}
use Rattle.rx_tools.proofs.Leaves.{nothing_written, other_answer, unless_failed}
use Rattle.rx_tools.proofs.Pieces.{same_text, failed_from}
use Rattle.rx_tools.proofs.leaf.write_if_other_leaf.Goals as goal

pub returns-in_err-write_quantified_leaf-in-Quantifier :
    goal.returns-in_err-write_quantified_leaf-in-Quantifier
returns-in_err-write_quantified_leaf-in-Quantifier g c =
    let is = ap mirror_term c.in-Quantifier.is ∙ quantifier_term_is c.in-Quantifier.it ∙ ap mirror_quantifier (sym c.deref-in-Quantifier.ensures) in
    unless_failed _ (same_text (ap (λ n. node_text c.args.mode c.args.after_reference n) is) c.in_err-write_quantified_leaf-in-Quantifier.ensures) (failed_from _ _ c.from_residual-in_err-write_quantified_leaf-in-Quantifier.ensures.1)

pub returns-in_ok-write_quantified_leaf-in-Quantifier :
    goal.returns-in_ok-write_quantified_leaf-in-Quantifier
returns-in_ok-write_quantified_leaf-in-Quantifier g c =
    let is = ap mirror_term c.in-Quantifier.is ∙ quantifier_term_is c.in-Quantifier.it ∙ ap mirror_quantifier (sym c.deref-in-Quantifier.ensures) in
    other_answer true (same_text (ap (λ n. node_text c.args.mode c.args.after_reference n) is) c.in_ok-write_quantified_leaf-in-Quantifier.ensures)

pub returns-in_default : goal.returns-in_default
returns-in_default g c = nothing_written

pub returns-in_default-2 : goal.returns-in_default-2
returns-in_default-2 g c = nothing_written
