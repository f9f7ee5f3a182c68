use Rattle.std.proofs.Common.{◌∙◌, sym, ap}
use Rattle.std.specs.Option.{is_some}
use Rattle.json.specs.Value.{value_view}
use Rattle.rx_json_reply.proofs.Requested.{features_told, flags_held, flags_told, input_held, missing_told, none_told, pattern_held, pattern_told, tell_held}
use Rattle.rx_json_reply.proofs.request.Request.read.Goals as goal

pub returns-in_default-clause-wrong : goal.returns-in_default-clause-wrong
returns-in_default-clause-wrong c =
    missing_told (value_view c.args.value.now) (ap is_some (sym c.in_default.ensures))

pub returns-then-not-pattern_fits-clause-wrong : goal.returns-then-not-pattern_fits-clause-wrong
returns-then-not-pattern_fits-clause-wrong c =
    let j = value_view c.args.value.now in
    let fit = pattern_held j c.in-Some.ensures c.form_at-form.ensures c.options_at-options.ensures c.pattern_fits.ensures in
    pattern_told j (ap is_some (sym c.in-Some.ensures)) (sym fit ∙ c.if-not-pattern_fits.true)

pub returns-then-not-flags_fit-clause-wrong : goal.returns-then-not-flags_fit-clause-wrong
returns-then-not-flags_fit-clause-wrong c =
    let j = value_view c.args.value.now in
    let fit = pattern_held j c.in-Some.ensures c.form_at-form.ensures c.options_at-options.ensures c.pattern_fits.ensures in
    let flags = flags_held j c.text_at-flags.result c.text_at-flags.ensures c.options_at-options.ensures c.flags_fit.ensures in
    flags_told j (ap is_some (sym c.in-Some.ensures)) (sym fit ∙ c.if-not-pattern_fits.false) (sym flags ∙ c.if-not-flags_fit.true)

pub returns-then-not-can_tell-clause-wrong : goal.returns-then-not-can_tell-clause-wrong
returns-then-not-can_tell-clause-wrong c =
    let j = value_view c.args.value.now in
    let fit = pattern_held j c.in-Some.ensures c.form_at-form.ensures c.options_at-options.ensures c.pattern_fits.ensures in
    let flags = flags_held j c.text_at-flags.result c.text_at-flags.ensures c.options_at-options.ensures c.flags_fit.ensures in
    let tell = tell_held j c.form_at-form.ensures c.at-want.ensures.unsupported c.can_tell.ensures in
    features_told j (ap is_some (sym c.in-Some.ensures)) (sym fit ∙ c.if-not-pattern_fits.false) (sym flags ∙ c.if-not-flags_fit.false) (sym tell ∙ c.if-not-can_tell.true)

pub returns-clause-asks : goal.returns-clause-asks
returns-clause-asks c =
    let j = value_view c.args.value.now in
    let fit = pattern_held j c.in-Some.ensures c.form_at-form.ensures c.options_at-options.ensures c.pattern_fits.ensures in
    let flags = flags_held j c.text_at-flags.result c.text_at-flags.ensures c.options_at-options.ensures c.flags_fit.ensures in
    let tell = tell_held j c.form_at-form.ensures c.at-want.ensures.unsupported c.can_tell.ensures in (
      none_told j (ap is_some (sym c.in-Some.ensures)) (sym fit ∙ c.if-not-pattern_fits.false) (sym flags ∙ c.if-not-flags_fit.false) (sym tell ∙ c.if-not-can_tell.false),
      record {
        input = input_held j c.form_at-form.result c.in-Some.pattern.now c.text_at-flags.result c.options_at-options.result c.form_at-form.ensures c.in-Some.ensures c.text_at-flags.ensures c.options_at-options.ensures;
        want = c.at-want.ensures;
      },
    )
