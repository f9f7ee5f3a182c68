use Rattle.std.proofs.Common.{ap, arith}
use Rattle.std.proofs.lemmas.List.{nil_from_length}
use Rattle.std.proofs.lemmas.Result.{IfOk-weaker}
use Rattle.rx_ast.specs.Texts.{operator_text}
use Rattle.rx_display.proofs.ClassTasks.{first_contents_size}
use Rattle.rx_tools.specs.ClassTasks.{class_task_text}
use Rattle.rx_tools.proofs.ClassTasks.{rest_cut, rest_of_class}
use Rattle.rx_tools.proofs.Writes.{composes}
use Rattle.rx_tasks.proofs.Texts.{goes_all, goes_last}
use Rattle.rx_tools.proofs.class_task.write_rest.Goals as goal

pub returns-clause-text : goal.returns-clause-text
returns-clause-text g c =
    let operator = operator_text c.args.kind in
    let cut = rest_cut c.args.mode _ _ _ c.in-Some.ensures.cases.0 operator in
    let written = rw c.operator_text.ensures at c.in_ok-write_str.ensures.whole in
    goes_last c.write_or_put_back.result class_task_text _ (composes g.W.TextSink.taken) (record { front = operator; cut = cut; written = written }) c.write_or_put_back.ensures.text

pub returns-clause-lighter : goal.returns-clause-lighter
returns-clause-lighter g c =
    let sized = first_contents_size c.args.contents.now c.in-Some.first.now c.in-Some.others.now c.in-Some.ensures.cases.0 in
    IfOk-weaker c.write_or_put_back.result _ _ (λ next within. omega arith) c.write_or_put_back.ensures.lighter

pub returns-in_default-clause-text : goal.returns-in_default-clause-text
returns-in_default-clause-text g c =
    goes_all (ap (rest_of_class c.args.mode (operator_text c.args.kind)) (nil_from_length c.args.contents.now c.in_default.ensures.cases)) c.in_ok-write_char.ensures.whole
