use Rattle.std.proofs.Common.{refl, ap, ◌∙◌, arith}
use Rattle.std.proofs.lemmas.List.{nil_from_length}
use Rattle.std.specs.Char.{encode_utf8}
use Rattle.std.specs.Option.{is_some}
use Rattle.std.proofs.lemmas.Result.{IfOk-weaker}
use Rattle.rx_ast.specs.Size.{all_contents_size}
use Rattle.rx_ast.specs.Texts.{class_opener}
use Rattle.rx_ast.proofs.ClassSizes.{contents_positive}
use Rattle.rx_display.specs.ClassTasks.{class_task_text, class_task_weight}
use Rattle.rx_display.proofs.ClassTasks.{class_cut, class_none, first_contents_size}
use Rattle.rx_display.proofs.Writers.{composes, spelled}
use Rattle.rx_tasks.proofs.Texts.{goes_all, goes_last, goes_then}
use Rattle.rx_display.proofs.class_task.open_class.Goals as goal

pub returns-clause-text : goal.returns-clause-text
returns-clause-text g c =
    let cut = class_cut _ _ _ _ c.in-Some.ensures.cases.0 (c.is_some.ensures ∙ ap is_some c.contents_pair-pair.ensures) c.args.class.now c.as_slice.ensures in
    let written = spelled _ _ c.class_opener.utf8 c.class_opener.ensures (c.in_ok-write_str.ensures.writes c.requires refl) in
    goes_last c.write_pair_or.result class_task_text _ composes (record { front = class_opener c.args.class.now.negative; cut = cut; written = written }) (rw c.contents_pair-pair.ensures at (c.write_pair_or.ensures.text class_task_text))

pub returns-clause-lighter : goal.returns-clause-lighter
returns-clause-lighter g c =
    let sized = first_contents_size c.as_slice.result.now c.in-Some.first.now c.in-Some.contents.now c.in-Some.ensures.cases.0 in
    let same = ap all_contents_size c.as_slice.ensures in
    let some = contents_positive c.in-Some.first.now in
    IfOk-weaker c.write_pair_or.result _ _ (λ next within. omega arith) (c.write_pair_or.ensures.lighter class_task_weight)

pub returns-in_default-clause-text : goal.returns-in_default-clause-text
unfolding encode_utf8
returns-in_default-clause-text g c =
    let cut = class_none c.args.class.now c.as_slice.result.now c.as_slice.ensures (nil_from_length c.as_slice.result.now c.in_default.ensures.cases) in
    let written = spelled _ _ c.class_opener.utf8 c.class_opener.ensures (c.in_ok-write_str.ensures.writes c.requires refl) in
    goes_then composes (record { front = class_opener c.args.class.now.negative; cut = cut; written = written }) (goes_all refl (c.in_ok-write_str-2.ensures.writes written.plain refl))
