use Rattle.std.proofs.Common.{refl, ap, ◌∙◌, ◌++◌, arith, map}
use Rattle.std.proofs.lemmas.List.{nil_from_length}
use Rattle.rx_ast.proofs.TermShown.{terms_cons}
use Rattle.rx_ast.specs.Size.{terms_size}
use Rattle.rx_ast.specs.Tree.{mirror_term, nodes}
use Rattle.rx_display.specs.Tasks.{tree_of}
use Rattle.rx_model.specs.Spelling.Spelling.{barred_text, nodes_text}
use Rattle.rx_tools.proofs.Tasks.{terms_cut}
use Rattle.rx_tools.proofs.Writes.{composes}
use Rattle.rx_tasks.proofs.Texts.{goes_then, goes_to}
use Rattle.rx_tools.proofs.printing.write_body.Goals as goal

pub returns-clause-text : goal.returns-clause-text
returns-clause-text g c =
    let left = c.in_ok-left.left in
    let cut = terms_cut left.mode left.after_reference left.terms.now c.in-Some.first.now c.in-Some.terms.now (barred_text left.mode (tree_of left.more.now)) c.in-Some.ensures.cases.0 in
    let tasks = rw c.refers.ensures at c.tasks_after.ensures.text in
    goes_then (composes g.W.TextSink.taken) (goes_to c.in_ok-left.ensures.text (cut ∙ tasks)) (record { front = _; cut = refl; written = c.in_ok-write_opening.ensures })

pub returns-clause-lighter : goal.returns-clause-lighter
returns-clause-lighter g c =
    let sized = ap terms_size c.in-Some.ensures.cases.0 ∙ terms_cons c.in-Some.first.now c.in-Some.terms.now in
    let less = c.in_ok-left.ensures.lighter in
    let tasks = c.tasks_after.ensures.lighter in
    omega arith

pub returns-in_default-clause-text : goal.returns-in_default-clause-text
returns-in_default-clause-text g c =
    let left = c.in_ok-left.left in
    let none = c.in_default.ensures.cases in
    let terms = ap (λ ts. nodes_text left.mode left.after_reference (nodes (map mirror_term ts)) ++ barred_text left.mode (tree_of left.more.now)) (nil_from_length left.terms.now none) in
    let more = ap (λ as'. barred_text left.mode (tree_of as')) (nil_from_length left.more.now (c.in_ok-left.ensures.ends none)) in
    goes_to c.in_ok-left.ensures.text (terms ∙ more)
