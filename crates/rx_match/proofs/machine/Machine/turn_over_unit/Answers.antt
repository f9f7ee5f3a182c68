use Rattle.std.proofs.Common.{◌≡◌, ◌∙◌, sym, suc, ◌-◌, arith, rules}
use Rattle.rx_match.proofs.UnitMoves.{takes_turn, takes_failed_turn}
use Rattle.rx_match.proofs.machine.Machine.turn_over_unit.Goals as goal

pub returns-in-None : goal.returns-in-None
returns-in-None c =
    let m = c.args.self.now in
    let some = c.requires.unit.payable in
    let paid : m.budget ≡ suc (m.budget - 1) = omega arith in
    takes_failed_turn m c.args.it.repeat c.args.it.parts c.args.test c.args.it.min c.args.it.max c.requires.stands.sound c.requires.stands.step c.requires.unit.unit (m.budget - 1) (sym c.unit_to.ensures ∙ c.in-None.is) paid

pub returns-in-Some : goal.returns-in-Some
returns-in-Some c =
    let m = c.args.self.now in
    let some = c.requires.unit.payable in
    let paid : m.budget ≡ suc (m.budget - 1) = omega arith in
    let less : c.saturating_sub.result ≡ c.args.it.min - 1 = search rules in
    takes_turn m c.args.it.repeat c.args.it.parts c.args.test c.args.it.min c.args.it.max c.requires.stands.sound c.requires.stands.step c.requires.unit.unit c.in-Some.place c.saturating_sub.result (m.budget - 1) c.one_less.result (sym c.unit_to.ensures ∙ c.in-Some.is) paid less c.one_less.ensures
