use Rattle.std.proofs.Common.{◌∙◌, ap, arith, length, length-drop, sym}
use Rattle.rx_parser.proofs.Common.{values, starts, read_after_name, read_from_row, found_name}
use Rattle.rx_parser.proofs.Looks.{name_steps}
use Rattle.rx_parser.proofs.name.name_at.Goals as goal

pub returns-clause-read : goal.returns-clause-read
returns-clause-read g c =
    let m = c.args.unicode_mode in
    let n = c.group_name_length_counted-length.result in
    let row = c.group_name_length_counted-length.ensures.read in
    c.after_name.ensures.read row.0
    ∙ ap (λ w. found_name (read_after_name m row.0 n w)) c.from.ensures.values
    ∙ ap (λ r. found_name (read_from_row m r (values c.args.units.now))) (sym row.1)

pub returns-clause-steps : goal.returns-clause-steps
returns-clause-steps g c =
    let us = c.args.units.now in
    let it = c.group_name_length_counted-length in
    let n = it.result in
    name_steps (length us) (length c.from.result) n (g.C.Counter.count c.args.steps.now) (g.C.Counter.count it.new.steps) (g.C.Counter.count c.after_name.new.steps)
    (starts 92 (values c.from.result)) c.after_name.result (λ h. it.ensures.ends (ap (starts 92) (sym c.from.ensures.values) ∙ h)) it.ensures.most it.ensures.least c.after_name.ensures.steps
    (omega (arith, ap length c.from.ensures.units, length-drop n us, it.ensures.within)) c.after_name.ensures.ends
