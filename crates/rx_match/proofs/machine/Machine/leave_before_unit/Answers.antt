use Rattle.std.proofs.Common.{◌≡◌, suc, ◌-◌, arith}
use Rattle.rx_match.proofs.UnitMoves.{takes_no_turn, takes_lost_turn}
use Rattle.rx_match.proofs.machine.Machine.leave_before_unit.Goals as goal

pub returns-then-it-gt0 : goal.returns-then-it-gt0
returns-then-it-gt0 c =
    let m = c.args.self.now in
    let some = c.requires.units.over_unit.payable in
    let paid : m.budget ≡ suc (m.budget - 1) = omega arith in
    takes_lost_turn m c.args.it.repeat c.args.it.parts c.args.test c.args.it.min c.args.it.max c.requires.stands.sound c.requires.stands.step c.requires.units (m.budget - 1) c.requires.none c.if-it-gt0.true paid

pub returns : goal.returns
returns c =
    let m = c.args.self.now in
    let some = c.requires.units.over_unit.payable in
    let paid : m.budget ≡ suc (m.budget - 1) = omega arith in
    let free : c.args.it.min ≡ 0 = omega arith in
    takes_no_turn m c.args.it.repeat c.args.it.parts c.args.test c.args.it.min c.args.it.max c.requires.stands.sound c.requires.stands.step c.requires.units (m.budget - 1) c.requires.none free paid
