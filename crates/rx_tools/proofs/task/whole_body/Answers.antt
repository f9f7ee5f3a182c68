use Rattle.std.proofs.Common.{ap, sym, ◌∙◌, ◌++◌, arith, false, length, map}
use Rattle.std.proofs.lemmas.List.{nil_from_length}
use Rattle.rx_ast.proofs.Sizes.{no_alternatives, no_terms}
use Rattle.rx_ast.specs.Size.{all_alternatives_size, terms_size}
use Rattle.rx_ast.specs.Tree.{mirror_term, nodes}
use Rattle.rx_display.proofs.Tasks.{alternatives_first}
use Rattle.rx_display.specs.Tasks.{tree_of}
use Rattle.rx_model.specs.Spelling.Spelling.{alternatives_text, barred_text, nodes_text}
use Rattle.rx_tools.proofs.Tasks.{disjunction_cut}
use Rattle.rx_tools.proofs.task.whole_body.Goals as goal

pub returns-clause-text : goal.returns-clause-text
returns-clause-text c =
    ap (λ ts. nodes_text c.args.mode false (nodes (map mirror_term ts)) ++ barred_text c.args.mode (tree_of c.in-Some.more.now)) c.as_slice.ensures
    ∙ sym (disjunction_cut c.args.mode c.args.alternatives.now c.in-Some.first.now c.in-Some.more.now c.in-Some.ensures.cases.0)

pub returns-clause-weight : goal.returns-clause-weight
returns-clause-weight c =
    let sized = ap all_alternatives_size c.in-Some.ensures.cases.0 ∙ alternatives_first c.in-Some.first.now c.in-Some.more.now in
    let same = ap terms_size c.as_slice.ensures in
    omega arith

pub returns-clause-shorter : goal.returns-clause-shorter
returns-clause-shorter c = let cut = ap length c.in-Some.ensures.cases.0 in omega arith

pub returns-in_default-clause-text : goal.returns-in_default-clause-text
returns-in_default-clause-text c = sym (ap (λ as'. alternatives_text c.args.mode (tree_of as')) (nil_from_length c.args.alternatives.now c.in_default.ensures.cases))

pub returns-in_default-clause-weight : goal.returns-in_default-clause-weight
returns-in_default-clause-weight c = omega (arith, no_terms, no_alternatives)
