use Rattle.std.proofs.Common.{ap, sym, ◌∙◌, ◌++◌, arith, false, map}
use Rattle.std.proofs.lemmas.List.{nil_from_length}
use Rattle.rx_ast.specs.Shown.{alternatives_shown, barred_shown, nodes_shown}
use Rattle.rx_ast.specs.Size.{all_alternatives_size, terms_size}
use Rattle.rx_ast.specs.Tree.{mirror_term, nodes}
use Rattle.rx_display.specs.Tasks.{tree_of}
use Rattle.rx_display.proofs.Tasks.{alternatives_first, disjunction_cut}
use Rattle.rx_display.proofs.task.split_disjunction.Goals as goal

pub returns-clause-text : goal.returns-clause-text
returns-clause-text c =
    ap (λ ts. nodes_shown false (nodes (map mirror_term ts)) ++ barred_shown (tree_of c.in-Some.more.now)) c.as_slice.ensures
    ∙ sym (disjunction_cut c.args.alternatives.now c.in-Some.first.now c.in-Some.more.now c.in-Some.ensures.cases.0)

pub returns-clause-lighter : goal.returns-clause-lighter
returns-clause-lighter c =
    let sized = ap all_alternatives_size c.in-Some.ensures.cases.0 ∙ alternatives_first c.in-Some.first.now c.in-Some.more.now in
    let same = ap terms_size c.as_slice.ensures in
    omega arith

pub returns-in_default-clause-text : goal.returns-in_default-clause-text
returns-in_default-clause-text c = sym (ap (λ as'. alternatives_shown (tree_of as')) (nil_from_length c.args.alternatives.now c.in_default.ensures.cases))
