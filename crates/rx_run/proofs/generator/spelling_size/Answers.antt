use Rattle.std.proofs.Common.{true, false, ◌≡◌, ◌≤◌, ◌*◌, subst, ap, refl, Result, Ok, Err, Some, List, ℕ, [], ◌∷◌, length, codes, arith}
use Rattle.std.specs.Str.{chars}
use Rattle.rx_base.specs.declared.fault.Fault.{Fault}
use Rattle.rx_model.specs.declared.form.Form.TheVariants.{Literal}
use Rattle.rx_model.specs.Inputs.Inputs.{Input}
use Rattle.rx_model.specs.Reading.Headline.{IsAnswered}
use Rattle.rx_tools.specs.declared.outcome.Canonical.{Canonical}
use Rattle.rx_tools.specs.Spelled.{spelling_answer}
use Rattle.rx_run.specs.Generator.{unicode_literal}
use Rattle.rx_run.proofs.PatternsMade.{asked_is, none_refused, pattern_short, read_sized, text_short}
use Rattle.rx_run.proofs.generator.spelling_size.Goals as goal
use Rattle.rx_parser.specs.Inputs.{rules_of}
use Rattle.rx_parser.specs.declared.options.Options.{Options}
use Rattle.rx_command.specs.Dialects.{both_rules}
use Rattle.rx_run.specs.Reply.{}

flags_are : chars (codes "u") ≡ 117 ∷ []
unfolding chars
flags_are = refl

-- an answer to what was asked, as one to the literal alone
alone : (answer : Result Canonical Fault) (text bytes : List ℕ) (options : Options) → chars bytes ≡ text → options.pattern_span_offset ≡ 0 → options.flags_span_offset ≡ 0
    → options.duplicate_names ≡ true → options.buffer_boundaries ≡ true → options.standard_strings ≡ false
    → IsAnswered spelling_answer (record { form = Literal; text = chars bytes; flags = Some (chars (codes "u")); text_offset = options.pattern_span_offset; flags_offset = options.flags_span_offset; rules = rules_of options; standard_strings = options.standard_strings }) answer
    → IsAnswered spelling_answer (unicode_literal text) answer
alone answer text bytes options is a_is b_is names buffers standard answered =
    let under : rules_of options ≡ both_rules = cc in
    subst (λ (input : Input). IsAnswered spelling_answer input answer) (asked_is text bytes (chars (codes "u")) options.pattern_span_offset options.flags_span_offset (rules_of options) options.standard_strings is flags_are a_is b_is under standard) answered

pub canonical-requires-clause-pattern : goal.canonical-requires-clause-pattern
canonical-requires-clause-pattern c =
    let short : length c.as_str.result.now ≤ 4 * length c.args.pattern.now = text_short c.as_str.result.now c.args.pattern.now c.as_str.utf8 c.as_str.ensures in
    omega (arith, c.default.ensures.pattern_span_offset, ap (λ (w : List ℕ). length w) c.requires.1, pattern_short c.requires.0)

pub returns-in-Ok : goal.returns-in-Ok
returns-in-Ok c =
    let at = c.default.ensures in
    read_sized c.args.pattern.now c.in-Ok.it c.as_str-in-Ok.result.now c.as_str-in-Ok.utf8 c.as_str-in-Ok.ensures
    (alone (Ok c.in-Ok.it) c.args.pattern.now c.as_str.result.now c.default.result c.as_str.ensures at.pattern_span_offset at.flags_span_offset at.duplicate_names at.buffer_boundaries at.standard_strings c.in-Ok.ensures.headline)

pub unreachable-requires : goal.unreachable-requires
unreachable-requires c =
    let at = c.default.ensures in
    let arm = c.in-Err-Diagnostic in
    none_refused c.args.pattern.now arm.field-0-0 c.requires
    (subst (λ (f : Fault). IsAnswered spelling_answer (unicode_literal c.args.pattern.now) (Err f)) arm.field-0-is
    (alone (Err arm.field-0) c.args.pattern.now c.as_str.result.now c.default.result c.as_str.ensures at.pattern_span_offset at.flags_span_offset at.duplicate_names at.buffer_boundaries at.standard_strings arm.ensures.headline))
