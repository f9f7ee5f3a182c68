use Rattle.std.proofs.Common.{◌≡◌, true, ap, ◌∙◌, sym, arith}
use Rattle.rx_class.proofs.Common.{values, seen_escape}
use Rattle.rx_model.specs.Reading.Fronts.{escape_at}
use Rattle.rx_scan.specs.Environments.{seen_environment}
use Rattle.rx_class.proofs.EscapeReading.Bounds.{any_read_within, in_legacy}
use Rattle.rx_class.proofs.EscapeReading.Steps.{stands_for_itself}
use Rattle.rx_class.proofs.escapes.found.any_escape_at.Goals as goal

pub returns-in-Nothing-clause-within : goal.returns-in-Nothing-clause-within
returns-in-Nothing-clause-within g c =
    let e = seen_environment c.args.environment in
    let read = c.character_escape_at-found.ensures.read ∙ ap (λ u. escape_at u (values c.args.units.now)) c.if-unicode_mode.false in
    let legacy = in_legacy c.args.inside e c.args.units.now (sym c.is_unicode-unicode_mode.ensures ∙ c.if-unicode_mode.false) (sym read ∙ ap seen_escape c.in-Nothing.is) in
    any_read_within c.args.inside e c.args.units.now c.legacy_escape_at.result (c.legacy_escape_at.ensures.read ∙ sym legacy)

pub returns-in-Nothing-clause-steps : goal.returns-in-Nothing-clause-steps
returns-in-Nothing-clause-steps g c =
    let first = rw c.in-Nothing.is at c.character_escape_at-found.ensures.few in
    let after = c.legacy_escape_at.ensures.steps in
    let legacy = sym c.is_unicode-unicode_mode.ensures ∙ c.if-unicode_mode.false in
    rw legacy (omega (arith, first.0, after.0), omega (arith, first.1, after.1))

pub returns-in-Nothing-clause-few : goal.returns-in-Nothing-clause-few
returns-in-Nothing-clause-few g c = λ inside.
    let yes : c.args.inside ≡ true = inside in
    let first = rw c.in-Nothing.is at c.character_escape_at-found.ensures.few in
    let after = rw yes at c.legacy_escape_at.ensures.steps in
    (omega (arith, first.0, after.0), omega (arith, first.1, after.1))

pub returns-in-Invalid : goal.returns-in-Invalid
returns-in-Invalid g c =
    let e = seen_environment c.args.environment in
    let read = c.character_escape_at-found.ensures.read ∙ ap (λ u. escape_at u (values c.args.units.now)) c.if-unicode_mode.false in
    let unread = sym read ∙ ap seen_escape c.in-Invalid.is in
    let legacy = in_legacy c.args.inside e c.args.units.now (sym c.is_unicode-unicode_mode.ensures ∙ c.if-unicode_mode.false) unread in
    let within = rw c.in-Invalid.is at c.character_escape_at-found.ensures.within in
    let most = rw (c.in-Invalid.is, c.if-unicode_mode.false) at c.character_escape_at-found.ensures.steps in
    rw c.character.ensures record {
      read = sym (legacy ∙ stands_for_itself c.args.inside e (values c.args.units.now) unread);
      within = λ small. (within, omega arith);
      steps = (omega (arith, most.0), omega (arith, most.1));
      few = λ inside. (omega (arith, most.0), omega (arith, most.1));
    }
