use Rattle.std.proofs.Common.{◌≡◌, ◌∙◌, ap, subst, codes, List, ◌++◌, Err}
use Rattle.rx_base.specs.declared.fault.Fault.TheVariants as fault
use Rattle.rx_model.specs.Reading.Headline.{IsAnswered}
use Rattle.rx_tools.specs.Spelled.{read_of}
use Rattle.rx_json.specs.Values.{Field}
use Rattle.rx_parser.specs.Inputs as parser
use Rattle.rx_json_reply.specs.Begun.{id_json}
use Rattle.rx_json_reply.specs.Parts.{begun, read_fields, refused_fields}
use Rattle.rx_json_reply.proofs.Answering.{read_is, refused_is}
use Rattle.rx_json_reply.proofs.Joining.{object_goes_on}
use Rattle.rx_json_reply.proofs.answer.write_answer.Goals as goal

pub returns-in_ok-write_read-in-Ok : goal.returns-in_ok-write_read-in-Ok
returns-in_ok-write_read-in-Ok c = λ asked holds.
    let it = c.args.request.now in
    let input = parser.input_of it.form it.pattern.now it.flags it.options in
    let id = id_json c.args.id in
    let front : List Field = begun id (codes "ok") in
    let told : List Field = read_fields input asked.want c.in-Ok.mode c.in-Ok.pattern in (
      front ++ told,
      read_is id asked input (c.in-Ok.pattern, c.in-Ok.mode) holds.input c.in-Ok.ensures.headline,
      object_goes_on _ _ _ front told c.in_ok-begin_reply-in-Ok.ensures (c.in_ok-write_read-in-Ok.ensures asked.want holds.want),
    )

pub returns-in_ok-write_refused-in-Err-Diagnostic : goal.returns-in_ok-write_refused-in-Err-Diagnostic
returns-in_ok-write_refused-in-Err-Diagnostic c = λ asked holds.
    let it = c.args.request.now in
    let input = parser.input_of it.form it.pattern.now it.flags it.options in
    let id = id_json c.args.id in
    let front : List Field = begun id (codes "refused") in
    let refusal = c.in-Err-Diagnostic.refusal in
    let is : c.read_pattern.result ≡ Err (fault.Diagnostic refusal) = c.in-Err-Diagnostic.is ∙ ap Err c.in-Err-Diagnostic.field-0-is in
    let answered : IsAnswered read_of input (Err (fault.Diagnostic refusal)) = subst (IsAnswered read_of input) is c.read_pattern.ensures.headline in
    let written = c.in_ok-write_refused-in-Err-Diagnostic.ensures in
    let told : List Field = refused_fields input written.0 refusal in (
      front ++ told,
      refused_is id asked input refusal written.0 holds.input answered written.1,
      object_goes_on _ _ _ front told c.in_ok-begin_reply-in-Err-Diagnostic.ensures written.2,
    )
