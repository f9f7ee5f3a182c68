use Rattle.std.proofs.Common.{◌≡◌, ◌∙◌, ap, subst, Err}
use Rattle.rx_base.specs.declared.fault.Fault.TheVariants as fault
use Rattle.rx_model.specs.Reading.Headline.{IsAnswered}
use Rattle.rx_tools.specs.Spelled.{read_of}
use Rattle.rx_parser.specs.Texts.{seen_input}
use Rattle.rx_c.specs.Told.{read, refused}
use Rattle.rx_c.proofs.exports.answer.Goals as goal

pub returns-in_ok-tell_tree-in-Ok-clause-told : goal.returns-in_ok-tell_tree-in-Ok-clause-told
returns-in_ok-tell_tree-in-Ok-clause-told c = read (c.in-Ok.pattern, c.in-Ok.mode) c.in-Ok.ensures.headline c.in_ok-tell_tree-in-Ok.ensures.told

pub returns-in_ok-tell_refusal-in-Err-Diagnostic-clause-told : goal.returns-in_ok-tell_refusal-in-Err-Diagnostic-clause-told
returns-in_ok-tell_refusal-in-Err-Diagnostic-clause-told c =
    let cause = c.in-Err-Diagnostic.cause in
    let is : c.read_pattern.result ≡ Err (fault.Diagnostic cause) = c.in-Err-Diagnostic.is ∙ ap Err c.in-Err-Diagnostic.field-0-is in
    refused cause (subst (IsAnswered read_of (seen_input c.args.it.now.input)) is c.read_pattern.ensures.headline) c.in_ok-tell_refusal-in-Err-Diagnostic.ensures.told
