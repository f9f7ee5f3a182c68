use Rattle.std.proofs.Common.{◌≡◌, ◌∙◌, ap, subst, false, Ok, Err}
use Rattle.std.specs.Str.{chars}
use Rattle.rx_base.specs.declared.fault.Fault.TheVariants as fault
use Rattle.rx_model.specs.declared.form.Form.TheVariants.{Literal}
use Rattle.rx_model.specs.Reading.Headline.{IsAnswered}
use Rattle.rx_parser.specs.Inputs.{flags_chars, rules_of}
use Rattle.rx_tools.specs.Spelled.{spelling_answer}
use Rattle.rx_tools.proofs.CanonicalAnswers.{by_itself, first_of, read_as}
use Rattle.rx_example.specs.Shown.{both_rules, literal}
use Rattle.rx_example.proofs.finding.inspect.Goals as goal

pub returns-in_ok-capturing_groups-in-Ok : goal.returns-in_ok-capturing_groups-in-Ok
returns-in_ok-capturing_groups-in-Ok c =
    let it = c.in-Ok.it in
    let at = c.default.ensures in
    let under : rules_of c.default.result ≡ both_rules = cc (at.duplicate_names, at.buffer_boundaries) in
    let answered =
    by_itself spelling_answer Literal (chars c.args.pattern.now) (flags_chars c.args.flags) (Ok it) c.default.result.pattern_span_offset c.default.result.flags_span_offset (rules_of c.default.result) both_rules
    c.default.result.standard_strings false at.pattern_span_offset at.flags_span_offset under at.standard_strings c.in-Ok.ensures.headline in
    record {
      valid = answered.parsed.valid;
      pattern = it.pattern;
      mode = it.mode;
      read = read_as spelling_answer (literal (chars c.args.pattern.now) (flags_chars c.args.flags)) it answered;
      count_is = c.in_ok-capturing_groups-in-Ok.ensures;
      spelled_is = answered.text_is;
    }

pub returns-in_ok-show_refusal-in-Err-Diagnostic : goal.returns-in_ok-show_refusal-in-Err-Diagnostic
returns-in_ok-show_refusal-in-Err-Diagnostic c =
    let cause = c.in-Err-Diagnostic.cause in
    let text = chars c.args.pattern.now in
    let flags = flags_chars c.args.flags in
    let options = c.default.result in
    let at = c.default.ensures in
    let under : rules_of options ≡ both_rules = cc (at.duplicate_names, at.buffer_boundaries) in
    let is : c.canonical.result ≡ Err (fault.Diagnostic cause) = c.in-Err-Diagnostic.is ∙ ap Err c.in-Err-Diagnostic.field-0-is in
    let answered : IsAnswered spelling_answer (literal text flags) (Err (fault.Diagnostic cause)) =
    by_itself spelling_answer Literal text flags (Err (fault.Diagnostic cause)) options.pattern_span_offset options.flags_span_offset (rules_of options) both_rules
    options.standard_strings false at.pattern_span_offset at.flags_span_offset under at.standard_strings
    (subst (λ r. IsAnswered spelling_answer (record { form = Literal; text = text; flags = flags; text_offset = options.pattern_span_offset; flags_offset = options.flags_span_offset; rules = rules_of options; standard_strings = options.standard_strings }) r)
    is c.canonical.ensures.headline) in
    (cause, first_of (literal text flags) cause answered.parsed.refused, c.in_ok-show_refusal-in-Err-Diagnostic.ensures)
