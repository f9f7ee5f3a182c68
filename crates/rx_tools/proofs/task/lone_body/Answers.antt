use Rattle.std.proofs.Common.{[], ap, ◌∙◌, ◌++◌, append-nil, arith, map}
use Rattle.rx_ast.proofs.Sizes.{no_alternatives, no_terms}
use Rattle.rx_ast.proofs.TermShown.{terms_cons}
use Rattle.rx_ast.specs.Size.{terms_size}
use Rattle.rx_ast.specs.Tree.{mirror_term, nodes}
use Rattle.rx_model.specs.Spelling.Spelling.{node_text, nodes_text}
use Rattle.rx_tools.proofs.task.lone_body.Goals as goal

pub returns-clause-text : goal.returns-clause-text
returns-clause-text c =
    let own = node_text c.args.mode c.args.after_reference (mirror_term c.args.term.now) in
    ap (λ ts. nodes_text c.args.mode c.args.after_reference (nodes (map mirror_term ts)) ++ []) c.from_ref.ensures.value ∙ append-nil (own ++ []) ∙ append-nil own

pub returns-clause-weight : goal.returns-clause-weight
returns-clause-weight c =
    let sized = ap terms_size c.from_ref.ensures.value ∙ terms_cons c.args.term.now [] in
    omega (arith, no_terms, no_alternatives)
