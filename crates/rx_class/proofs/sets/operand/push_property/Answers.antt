use Rattle.std.proofs.Common.{ap, subst, sym, ◌∙◌, ◌++◌}
use Rattle.rx_class.proofs.Common.{IsSound, builder_events, member_events}
use Rattle.rx_class.proofs.sets.operand.push_property.Goals as goal

pub push-requires-clause-sound : goal.push-requires-clause-sound
push-requires-clause-sound c = subst IsSound (sym c.in_ok-contents.ensures) c.requires.sound

pub returns : goal.returns
returns c =
    let is = c.in_ok-push.ensures in
    record { events = is.events ∙ ap (λ m. builder_events c.args.builder.now ++ member_events m) c.in_ok-contents.ensures; holds = is.held; well = is.well }
