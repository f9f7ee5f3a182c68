use Rattle.std.proofs.Common.{refl, ap, sym, subst, ◌∙◌, ◌+◌, length, None, Some, arith}
use Rattle.std.specs.Result.{OnOk}
use Rattle.std.proofs.lemmas.Result.{IfOk-from_err, on_ok_weaker}
use Rattle.rx_units.specs.Units.{values}
use Rattle.rx_model.specs.Groups.GroupNameReading.{name_of}
use Rattle.rx_scan.specs.FirstPass.{Steps}
use Rattle.rx_scan.specs.MarkReading.{seen_capturing}
use Rattle.rx_scan.proofs.Captures.{captured_steps}
use Rattle.rx_scan.proofs.first_pass.FirstPass.capture.Goals as goal

pub returns-in_default-clause-ok : goal.returns-in_default-clause-ok
returns-in_default-clause-ok g c =
    let old = c.args.self.now in let new = c.capture_unnamed.new.self in let place = c.args.place in let index = c.args.index in
    subst (λ units. OnOk c.capture_unnamed.result (Steps old new (seen_capturing units) place index)) (sym c.in_default.is)
    (on_ok_weaker c.capture_unnamed.result (λ f. captured_steps old new None None place index refl (f (place + 3) (place + 3 + 0))) c.capture_unnamed.ensures.ok)

pub returns-in-None-clause-ok : goal.returns-in-None-clause-ok
returns-in-None-clause-ok g c =
    let old = c.args.self.now in let new = c.capture_unnamed-in-None.new.self in let place = c.args.place in let index = c.args.index in
    let spelled = values c.in-Some.units in
    subst (λ units. OnOk c.capture_unnamed-in-None.result (Steps old new (seen_capturing units) place index)) (sym c.in-Some.is)
    (on_ok_weaker c.capture_unnamed-in-None.result
    (λ f. captured_steps old new (Some spelled) None place index (ap (λ unicode_mode. name_of unicode_mode spelled) (sym c.is_unicode.ensures) ∙ sym c.in_ok-spelled_name.ensures.read ∙ c.in-None.is) (f (place + 3) (place + 3 + length spelled)))
    c.capture_unnamed-in-None.ensures.ok)

pub capture_unnamed-requires-clause-few : goal.capture_unnamed-requires-clause-few
capture_unnamed-requires-clause-few g c = c.requires.few

pub capture_unnamed-requires-clause-after : goal.capture_unnamed-requires-clause-after
capture_unnamed-requires-clause-after g c = c.requires.after

pub capture_unnamed-requires-clause-knows : goal.capture_unnamed-requires-clause-knows
capture_unnamed-requires-clause-knows g c = c.requires.knows

pub capture_unnamed-requires-in-None-clause-few : goal.capture_unnamed-requires-in-None-clause-few
capture_unnamed-requires-in-None-clause-few g c = c.requires.few

pub capture_unnamed-requires-in-None-clause-after : goal.capture_unnamed-requires-in-None-clause-after
capture_unnamed-requires-in-None-clause-after g c = c.requires.after

pub capture_unnamed-requires-in-None-clause-knows : goal.capture_unnamed-requires-in-None-clause-knows
capture_unnamed-requires-in-None-clause-knows g c = c.requires.knows

pub capture_named-requires-clause-few : goal.capture_named-requires-clause-few
capture_named-requires-clause-few g c = c.requires.few

pub capture_named-requires-clause-after : goal.capture_named-requires-clause-after
capture_named-requires-clause-after g c = c.requires.after

pub capture_named-requires-clause-tells : goal.capture_named-requires-clause-tells
capture_named-requires-clause-tells g c = c.requires.tells _

pub capture_named-requires-clause-nests : goal.capture_named-requires-clause-nests
capture_named-requires-clause-nests g c = c.requires.nests

pub capture_named-requires-clause-knows : goal.capture_named-requires-clause-knows
capture_named-requires-clause-knows g c = c.requires.knows

pub overflow_add-start : goal.overflow_add-start
overflow_add-start g c = omega (arith, c.requires.room)

pub returns-in_err-spelled_name-clause-ok : goal.returns-in_err-spelled_name-clause-ok
returns-in_err-spelled_name-clause-ok g c = IfOk-from_err c.from_residual.result _ c.from_residual.ensures.0
