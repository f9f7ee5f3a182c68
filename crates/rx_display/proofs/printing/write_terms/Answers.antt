use Rattle.std.proofs.Common.{ap, ◌∙◌, arith, map}
use Rattle.std.proofs.lemmas.List.{nil_from_length}
use Rattle.std.specs.Option.{is_some}
use Rattle.std.proofs.lemmas.Result.{IfOk-weaker}
use Rattle.rx_ast.specs.Shown.{nodes_shown}
use Rattle.rx_ast.specs.Size.{terms_size}
use Rattle.rx_ast.specs.Tree.{mirror_term, nodes}
use Rattle.rx_ast.proofs.Sizes.{term_positive}
use Rattle.rx_ast.proofs.TermShown.{terms_cons}
use Rattle.rx_display.specs.Tasks.{task_text, task_weight}
use Rattle.rx_display.proofs.Tasks.{joined_cut, terms_cut}
use Rattle.rx_display.proofs.Writers.{composes, no_text}
use Rattle.rx_tasks.proofs.Texts.{goes_last, goes_none}
use Rattle.rx_display.proofs.printing.write_terms.Goals as goal

pub returns-then-joined-clause-text : goal.returns-then-joined-clause-text
returns-then-joined-clause-text g c =
    goes_none (no_text c.requires) (joined_cut _ _ _ _ _ c.in-Some.ensures.cases.0 (c.is_some.ensures ∙ ap is_some c.term_pair-pair.ensures) c.if-joined.true)

pub returns-then-joined-clause-lighter : goal.returns-then-joined-clause-lighter
returns-then-joined-clause-lighter g c =
    let sized = ap terms_size c.in-Some.ensures.cases.0 ∙ terms_cons c.in-Some.first.now c.in-Some.following.now in
    let some = term_positive c.in-Some.first.now in
    omega arith

pub returns-clause-text : goal.returns-clause-text
returns-clause-text g c =
    let cut = terms_cut _ _ _ _ _ c.in-Some.ensures.cases.0 (c.is_some.ensures ∙ ap is_some c.term_pair-pair.ensures) c.if-joined.false in
    goes_last c.write_pair_or.result task_text _ composes (goes_none (no_text c.requires) cut) (rw c.term_pair-pair.ensures at (c.write_pair_or.ensures.text task_text))

pub returns-clause-lighter : goal.returns-clause-lighter
returns-clause-lighter g c =
    let sized = ap terms_size c.in-Some.ensures.cases.0 ∙ terms_cons c.in-Some.first.now c.in-Some.following.now in
    let some = term_positive c.in-Some.first.now in
    IfOk-weaker c.write_pair_or.result _ _ (λ next within. omega arith) (c.write_pair_or.ensures.lighter task_weight)

pub returns-in_default-clause-text : goal.returns-in_default-clause-text
returns-in_default-clause-text g c = goes_none (no_text c.requires) (ap (λ ts. nodes_shown c.args.joined (nodes (map mirror_term ts))) (nil_from_length c.args.terms.now c.in_default.ensures.cases))
