use Rattle.std.proofs.Common.{◌∙◌, sym, ap, Some}
use Rattle.rx_parser.proofs.Common.{values, name_read_at, capturing, opener, found_front}
use Rattle.rx_parser.proofs.NameFound.{halt_answered, name_answered}
use Rattle.rx_parser.proofs.group.named_group.Goals as goal

pub returns-in-Name-clause-found : goal.returns-in-Name-clause-found
returns-in-Name-clause-found g c =
    let r = name_read_at c.args.unicode_mode (values c.args.units.now) in
    c.opens.ensures ∙ ap found_front (sym (name_answered (λ name. opener (capturing (Some name))) r c.in-Name.length c.in-Name.ensures.read).1)

pub returns-in-Halt-clause-found : goal.returns-in-Halt-clause-found
returns-in-Halt-clause-found g c = halt_answered (λ name. opener (capturing (Some name))) (name_read_at c.args.unicode_mode (values c.args.units.now)) c.in-Halt.halt c.in-Halt.ensures.read
