use Rattle.std.proofs.Common.{◌≡◌, ◌∙◌, ap, sym, subst, Err, rules}
use Rattle.std.proofs.lemmas.Result.{err_from_is_err_and}
use Rattle.rx_base.specs.declared.fault.Fault.TheVariants.{OutOfMemory}
use Rattle.rx_model.specs.Reading.Headline.{IsAnswered}
use Rattle.rx_parser.specs.Inputs.{input_of}
use Rattle.rx_tools.specs.Spelled.{spelling_answer}
use Rattle.rx_tools.proofs.CanonicalAnswers.{memory_wants, refused_too, with_text}
use Rattle.rx_tools.proofs.reading.canonical.Goals as goal

pub returns-in_err-pattern : goal.returns-in_err-pattern
returns-in_err-pattern c =
    let input = input_of c.args.form c.args.pattern_text.now c.args.flags_text c.args.options in
    let left = err_from_is_err_and c.from_residual.result c.from_residual.ensures.1 in
    record { headline = subst (IsAnswered spelling_answer input) (sym (left.1 ∙ ap Err left.2)) (refused_too input c.in_err-pattern.field-0.0 c.in_err-pattern.ensures.headline) }

pub returns-in_err-text : goal.returns-in_err-text
returns-in_err-text c =
    let input = input_of c.args.form c.args.pattern_text.now c.args.flags_text c.args.options in
    let is : c.from_residual-in_err-text.result ≡ Err OutOfMemory = search rules in
    record { headline = subst (IsAnswered spelling_answer input) (sym is) (memory_wants input) }

pub returns : goal.returns
returns c =
    let input = input_of c.args.form c.args.pattern_text.now c.args.flags_text c.args.options in
    let read = c.in_ok-pattern in
    record { headline = with_text input (record { pattern = read.pattern; mode = read.mode; text = c.in_ok-text.text }) c.in_ok-text.ensures read.ensures.headline }
