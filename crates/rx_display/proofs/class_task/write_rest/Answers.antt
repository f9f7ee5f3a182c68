use Rattle.std.proofs.Common.{refl, ap, ◌∙◌, arith}
use Rattle.std.proofs.lemmas.List.{nil_from_length}
use Rattle.std.specs.Char.{encode_utf8}
use Rattle.std.specs.Option.{is_some}
use Rattle.std.proofs.lemmas.Result.{IfOk-weaker}
use Rattle.rx_ast.specs.Texts.{operator_text}
use Rattle.rx_ast.proofs.ClassSizes.{contents_positive}
use Rattle.rx_display.specs.ClassTasks.{class_task_text, class_task_weight}
use Rattle.rx_display.proofs.ClassTasks.{first_contents_size, joined_rest_cut, rest_cut, rest_of_class}
use Rattle.rx_display.proofs.Writers.{composes, no_text, spelled}
use Rattle.rx_tasks.proofs.Texts.{goes_all, goes_last, goes_none}
use Rattle.rx_display.proofs.class_task.write_rest.Goals as goal

pub returns-then-joined-clause-text : goal.returns-then-joined-clause-text
returns-then-joined-clause-text g c =
    goes_none (no_text c.requires) (joined_rest_cut _ _ _ _ c.in-Some.ensures.cases.0 (c.is_some.ensures ∙ ap is_some c.contents_pair-pair.ensures) (operator_text c.args.kind) c.args.joined c.if-joined.true)

pub returns-then-joined-clause-lighter : goal.returns-then-joined-clause-lighter
returns-then-joined-clause-lighter g c =
    let sized = first_contents_size c.args.contents.now c.in-Some.first.now c.in-Some.following.now c.in-Some.ensures.cases.0 in
    let some = contents_positive c.in-Some.first.now in
    omega arith

pub returns-clause-text : goal.returns-clause-text
returns-clause-text g c =
    let cut = rest_cut _ _ _ _ c.in-Some.ensures.cases.0 (c.is_some.ensures ∙ ap is_some c.contents_pair-pair.ensures) (operator_text c.args.kind) c.args.joined c.if-joined.false in
    let written = spelled _ _ c.operator_text.utf8 c.operator_text.ensures (c.in_ok-write_str-2.ensures.writes c.requires refl) in
    goes_last c.write_pair_or.result class_task_text _ composes (record { front = operator_text c.args.kind; cut = cut; written = written }) (rw c.contents_pair-pair.ensures at (c.write_pair_or.ensures.text class_task_text))

pub returns-clause-lighter : goal.returns-clause-lighter
returns-clause-lighter g c =
    let sized = first_contents_size c.args.contents.now c.in-Some.first.now c.in-Some.following.now c.in-Some.ensures.cases.0 in
    let some = contents_positive c.in-Some.first.now in
    IfOk-weaker c.write_pair_or.result _ _ (λ next within. omega arith) (c.write_pair_or.ensures.lighter class_task_weight)

pub returns-in_default-clause-text : goal.returns-in_default-clause-text
unfolding encode_utf8
returns-in_default-clause-text g c =
    goes_all (ap (rest_of_class (operator_text c.args.kind) c.args.joined) (nil_from_length c.args.contents.now c.in_default.ensures.cases)) (c.in_ok-write_str.ensures.writes c.requires refl)
