use Rattle.std.proofs.Common.{ap, ◌∙◌}
use Rattle.rx_class.proofs.Common.{with_strings, mirror_held}
use Rattle.rx_class.proofs.SetReading.OpenBrackets.{push_events, push_well}
use Rattle.rx_class.proofs.sets.open_bracket.OpenBracket.push.Goals as goal

pub returns-clause-events : goal.returns-clause-events
returns-clause-events c =
    push_events c.args.self.now c.push.new.self c.args.contents c.args.held c.with_strings-self.result c.in_ok-push.ensures.ok c.requires.held c.requires.well

pub returns-clause-well : goal.returns-clause-well
returns-clause-well c =
    let b = c.args.self.now in
    push_well b c.push.new.self c.args.contents c.args.held c.with_strings-self.result c.in_ok-push.ensures.ok c.requires.held c.requires.well c.requires.sound
    (c.with_strings-self.ensures ∙ ap (with_strings (mirror_held b.held) b.strings) c.requires.strings)
