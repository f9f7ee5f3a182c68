use Rattle.std.proofs.Common.{◌≡◌, ◌∙◌, refl, sym, ap, subst, Result, Ok, Err, Bool, false, ◌&&◌, List, ℕ, length, arith, rules}
use Rattle.std.specs.Str.{chars}
use Rattle.std.proofs.lemmas.Bool.{and_right}
use Rattle.std.proofs.lemmas.Result.{on_ok_weaker}
use Rattle.rx_base.specs.declared.fault.Fault.{Fault}
use Rattle.rx_base.specs.declared.fault.Fault.TheVariants as fault
use Rattle.rx_base.specs.declared.span.Span.{Span}
use Rattle.rx_ast.specs.declared.term.Pattern.{Pattern}
use Rattle.rx_model.specs.declared.form.Form.TheVariants.{Literal}
use Rattle.rx_model.specs.declared.mode.Mode.{Mode}
use Rattle.rx_model.specs.Inputs.Texts.{literal_text}
use Rattle.rx_model.specs.Reading.Headline.{IsAnswered}
use Rattle.rx_parser.specs.declared.options.Options.{Options}
use Rattle.rx_parser.specs.Inputs.{flags_chars, rules_of}
use Rattle.rx_paint_reply.proofs.Nesting.{read_nested, read_span}
use Rattle.rx_tools.specs.Spelled.{read_of}
use Rattle.rx_tools.proofs.CanonicalAnswers.{by_itself, read_as}
use Rattle.rx_command.specs.declared.dialect.Dialect.{Dialect}
use Rattle.rx_command.specs.Dialects.{is_standard, rules_for}
use Rattle.rx_run.specs.Request.{Request}
use Rattle.rx_run.specs.Reply.{IsAnswerable, bad, bad_reply, begins_ok, err_reply, input_of}
use Rattle.rx_run.proofs.Answering.{err_reply_is, said_is}
use Rattle.rx_run.proofs.replies.RepliesReplyingService.add.Goals as goal

-- a refusal turns the flag
turned : (new old : Bool) → new ≡ false → new ≡ (old && false)
turned new old e = e ∙ sym (and_right old false refl)

-- what is answered with the options of a dialect is answered to the request by itself
own_answer : (dialect : Dialect) (request : Request) (options : Options) (text : List ℕ) (r : Result (Pattern × Mode) Fault) → options.pattern_span_offset ≡ 0 → options.flags_span_offset ≡ 0
    → rules_of options ≡ rules_for dialect → options.standard_strings ≡ is_standard dialect → chars text ≡ request.text
    → IsAnswered read_of (record { form = request.form; text = chars text; flags = request.flags; text_offset = options.pattern_span_offset; flags_offset = options.flags_span_offset; rules = rules_of options; standard_strings = options.standard_strings }) r
    → IsAnswered read_of (input_of dialect request) r
own_answer dialect request options text r text_at flags_at rules standard text_is answered =
    by_itself read_of request.form request.text request.flags r options.pattern_span_offset options.flags_span_offset (rules_of options) (rules_for dialect) options.standard_strings (is_standard dialect)
    text_at flags_at rules standard
    (subst (λ t. IsAnswered read_of (record { form = request.form; text = t; flags = request.flags; text_offset = options.pattern_span_offset; flags_offset = options.flags_span_offset; rules = rules_of options; standard_strings = options.standard_strings }) r)
    text_is answered)

pub returns-in_default : goal.returns-in_default
returns-in_default c =
    let add = c.add_refusal in
    on_ok_weaker add.result (λ added. (bad_reply, false, (bad c.in_default.ensures.asked, refl), added, turned add.new.self.all_ok c.args.self.now.all_ok add.ensures.all_ok)) add.ensures.bytes

pub add_said-requires-clause-early : goal.add_said-requires-clause-early
add_said-requires-clause-early c =
    let request : Request = record { form = c.in-Some.request.form; flags = flags_chars c.in-Some.request.flags; text = chars c.in-Some.request.text.now } in
    let dialect = c.args.with.now.dialect in
    let it : Pattern × Mode = (c.in-Ok.pattern, c.in-Ok.mode) in
    let options = c.options-options.ensures in
    let read = read_as read_of (input_of dialect request) it (own_answer dialect request c.options-options.result c.text_field-text.result.now (Ok it)
    options.pattern_span_offset options.flags_span_offset options.rules options.standard_strings (ap chars c.text_field-text.ensures) c.in-Ok.ensures.headline) in
    read.reads.early

pub add_said-requires-clause-nested : goal.add_said-requires-clause-nested
add_said-requires-clause-nested c =
    let request : Request = record { form = c.in-Some.request.form; flags = flags_chars c.in-Some.request.flags; text = chars c.in-Some.request.text.now } in
    let dialect = c.args.with.now.dialect in
    let it : Pattern × Mode = (c.in-Ok.pattern, c.in-Ok.mode) in
    let options = c.options-options.ensures in
    read_nested (input_of dialect request) c.in-Ok.mode c.in-Ok.pattern c.text_field-text.result.now c.text_field-text.utf8 (ap chars (sym c.text_field-text.ensures))
    (read_as read_of (input_of dialect request) it (own_answer dialect request c.options-options.result c.text_field-text.result.now (Ok it)
    options.pattern_span_offset options.flags_span_offset options.rules options.standard_strings (ap chars c.text_field-text.ensures) c.in-Ok.ensures.headline))

pub add_said-requires-clause-within : goal.add_said-requires-clause-within
add_said-requires-clause-within c = λ in_color.
    let request : Request = record { form = c.in-Some.request.form; flags = flags_chars c.in-Some.request.flags; text = chars c.in-Some.request.text.now } in
    let dialect = c.args.with.now.dialect in
    let it : Pattern × Mode = (c.in-Ok.pattern, c.in-Ok.mode) in
    let options = c.options-options.ensures in
    let literal : request.form ≡ Literal = subst (λ answering. IsAnswerable answering request.form) in_color c.in-Some.ensures.asked.answerable in
    let span = ap (λ (s : Span). s.end) (read_span (input_of dialect request) c.in-Ok.mode c.in-Ok.pattern c.text_field-text.result.now c.text_field-text.utf8 (ap chars (sym c.text_field-text.ensures)) literal refl
    (read_as read_of (input_of dialect request) it (own_answer dialect request c.options-options.result c.text_field-text.result.now (Ok it)
    options.pattern_span_offset options.flags_span_offset options.rules options.standard_strings (ap chars c.text_field-text.ensures) c.in-Ok.ensures.headline))) in
    let same = ap (λ (t : List ℕ). length (literal_text t)) c.text_field-text.ensures in
    omega (arith, span, same)

pub returns-in-Ok : goal.returns-in-Ok
returns-in-Ok c =
    let request : Request = record { form = c.in-Some.request.form; flags = flags_chars c.in-Some.request.flags; text = chars c.in-Some.request.text.now } in
    let dialect = c.args.with.now.dialect in
    let it : Pattern × Mode = (c.in-Ok.pattern, c.in-Ok.mode) in
    let options = c.options-options.ensures in
    let answered = own_answer dialect request c.options-options.result c.text_field-text.result.now (Ok it)
    options.pattern_span_offset options.flags_span_offset options.rules options.standard_strings (ap chars c.text_field-text.ensures) c.in-Ok.ensures.headline in
    on_ok_weaker c.add_said.result (λ added. (added.0, begins_ok added.0, (said_is c.args.line.now request it added.0 c.in-Some.ensures.asked answered added.1, refl), added.2, added.3)) c.add_said.ensures

pub returns-in-Err-Diagnostic : goal.returns-in-Err-Diagnostic
returns-in-Err-Diagnostic c =
    let request : Request = record { form = c.in-Some.request.form; flags = flags_chars c.in-Some.request.flags; text = chars c.in-Some.request.text.now } in
    let dialect = c.args.with.now.dialect in
    let cause = c.in-Err-Diagnostic.cause in
    let is : c.read_pattern.result ≡ Err (fault.Diagnostic cause) = c.in-Err-Diagnostic.is ∙ ap Err c.in-Err-Diagnostic.field-0-is in
    let given = c.options-options.result in
    let options = c.options-options.ensures in
    let answered = own_answer dialect request given c.text_field-text.result.now (Err (fault.Diagnostic cause))
    options.pattern_span_offset options.flags_span_offset options.rules options.standard_strings (ap chars c.text_field-text.ensures)
    (subst (λ r. IsAnswered read_of (record { form = request.form; text = chars c.text_field-text.result.now; flags = request.flags; text_offset = given.pattern_span_offset; flags_offset = given.flags_span_offset; rules = rules_of given; standard_strings = given.standard_strings }) r)
    is c.read_pattern.ensures.headline) in
    let add = c.add_err in
    on_ok_weaker add.result (λ added. (err_reply cause, false, (err_reply_is c.args.line.now request cause c.in-Some.ensures.asked answered, refl), added, turned add.new.self.all_ok c.args.self.now.all_ok add.ensures.all_ok))
    (rw c.in-Err-Diagnostic.field-0-is at add.ensures.bytes)
