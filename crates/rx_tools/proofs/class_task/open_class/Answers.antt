use Rattle.std.proofs.Common.{refl, ap, arith}
use Rattle.std.proofs.lemmas.List.{nil_from_length}
use Rattle.std.proofs.lemmas.Result.{IfOk-weaker}
use Rattle.rx_ast.specs.Size.{all_contents_size}
use Rattle.rx_ast.specs.Texts.{class_opener}
use Rattle.rx_display.proofs.ClassTasks.{first_contents_size}
use Rattle.rx_tools.specs.ClassTasks.{class_task_text}
use Rattle.rx_tools.proofs.ClassTasks.{class_cut, class_none}
use Rattle.rx_tools.proofs.Writes.{composes}
use Rattle.rx_tasks.proofs.Texts.{goes_all, goes_last, goes_then}
use Rattle.rx_tools.proofs.class_task.open_class.Goals as goal

pub returns-clause-text : goal.returns-clause-text
returns-clause-text g c =
    let cut = class_cut c.args.mode _ _ _ c.in-Some.ensures.cases.0 c.args.class.now c.as_slice.ensures in
    let written = c.in_ok-write_opener.ensures.whole in
    goes_last c.write_or_put_back.result class_task_text _ (composes g.W.TextSink.taken) (record { front = class_opener c.args.class.now.negative; cut = cut; written = written }) c.write_or_put_back.ensures.text

pub returns-clause-lighter : goal.returns-clause-lighter
returns-clause-lighter g c =
    let sized = first_contents_size c.as_slice.result.now c.in-Some.first.now c.in-Some.others.now c.in-Some.ensures.cases.0 in
    let same = ap all_contents_size c.as_slice.ensures in
    IfOk-weaker c.write_or_put_back.result _ _ (λ next within. omega arith) c.write_or_put_back.ensures.lighter

pub returns-in_default-clause-text : goal.returns-in_default-clause-text
returns-in_default-clause-text g c =
    let cut = class_none c.args.mode c.args.class.now c.as_slice.result.now c.as_slice.ensures (nil_from_length c.as_slice.result.now c.in_default.ensures.cases) in
    let written = c.in_ok-write_opener.ensures.whole in
    goes_then (composes g.W.TextSink.taken) (record { front = class_opener c.args.class.now.negative; cut = cut; written = written }) (goes_all refl c.in_ok-write_char.ensures.whole)
