use Rattle.std.proofs.Common.{◌≤◌, ◌+◌, ◌*◌, arith, rules, refl}
use Rattle.rx_units.specs.Pace.{IsBounded}
use Rattle.rx_parser.proofs.Common.{Fault, RefusesText}
use Rattle.rx_parser.proofs.ClassTurns.{property_never_none, property_refused, property_taken}
use Rattle.rx_parser.proofs.Moves.{next_bounded, next_paced, reading_paced}
use Rattle.rx_parser.proofs.Turns.{before, has_turned}
use Rattle.rx_parser.proofs.turn.Parse.property.Goals as goal

pub returns-in_err-escape-clause-refused : goal.returns-in_err-escape-clause-refused
returns-in_err-escape-clause-refused g c =
    let r = c.args.self.now.reader in
    let refused : RefusesText c.args.self.now c.in_err-escape.field-0.0 =
    property_refused (before c.requires.more) c.requires.more.under_way.pass c.advance_counted.ensures.reader c.in_err-escape.field-0.0 c.in_err-escape.ensures.gives in
    search rules

pub unreachable-requires : goal.unreachable-requires
unreachable-requires g c = property_never_none (before c.requires.more) c.requires.more.under_way.pass c.advance_counted.ensures.reader c.in_ok-escape.field-0 c.requires.found c.in-None.is c.in_ok-escape.ensures.gives

pub returns-clause-turned : goal.returns-clause-turned
returns-clause-turned g c =
    let it = c.in_ok-leaf-in-Some.ensures in
    let term = c.in_ok-property_term-in-Some in
    has_turned c.requires.more
    (property_taken (before c.requires.more) c.requires.more.under_way.pass c.advance_counted.ensures.reader c.leaf.new.self c.in_ok-escape.field-0 c.in-Some.escape term.field-0 c.offset-start.ensures.value c.in-Some.is c.in_ok-escape.ensures.gives term.ensures
    (record { events = it.events; openers_are = it.openers; ready_is = it.ready; good = it.good (term.ensures.good c.args.self.now.builder.mode); fixed = it.fixed })) refl refl

pub returns-in_err-escape-clause-steps : goal.returns-in_err-escape-clause-steps
returns-in_err-escape-clause-steps g c =
    let from = c.args.self.now.reader in
    let one = c.advance_counted.new.self in
    let read = c.parse_character_class_escape_unicode in
    let old = g.C.Counter.count c.args.steps.now in
    let mid = g.C.Counter.count c.advance_counted.new.steps in
    let new = g.C.Counter.count read.new.steps in
    let bounded : IsBounded 6 old new from = next_bounded old mid new from one read.new.reader c.advance_counted.ensures.reader c.advance_counted.ensures.steps c.in_err-escape.ensures.steps in
    search rules

pub returns-in_err-property_term-in-Some-clause-steps : goal.returns-in_err-property_term-in-Some-clause-steps
returns-in_err-property_term-in-Some-clause-steps g c =
    let from = c.args.self.now.reader in
    let one = c.advance_counted.new.self in
    let read = c.parse_character_class_escape_unicode in
    let old = g.C.Counter.count c.args.steps.now in
    let mid = g.C.Counter.count c.advance_counted.new.steps in
    let new = g.C.Counter.count read.new.steps in
    let paced = next_paced old mid new from one read.new.reader c.advance_counted.ensures.reader c.advance_counted.ensures.steps
    (reading_paced Fault 6 mid new one read.new.reader c.in_ok-escape.field-0 c.in-Some.escape c.in-Some.is c.in_ok-escape.ensures.steps) in
    let bounded : IsBounded 6 old new from = omega (arith, paced.1) in
    search rules

pub returns-in_err-leaf-in-Some-clause-steps : goal.returns-in_err-leaf-in-Some-clause-steps
returns-in_err-leaf-in-Some-clause-steps g c =
    let from = c.args.self.now.reader in
    let one = c.advance_counted.new.self in
    let read = c.parse_character_class_escape_unicode in
    let old = g.C.Counter.count c.args.steps.now in
    let mid = g.C.Counter.count c.advance_counted.new.steps in
    let new = g.C.Counter.count read.new.steps in
    let paced = next_paced old mid new from one read.new.reader c.advance_counted.ensures.reader c.advance_counted.ensures.steps
    (reading_paced Fault 6 mid new one read.new.reader c.in_ok-escape.field-0 c.in-Some.escape c.in-Some.is c.in_ok-escape.ensures.steps) in
    let bounded : IsBounded 6 old new from = omega (arith, paced.1) in
    search rules

pub returns-clause-steps : goal.returns-clause-steps
returns-clause-steps g c =
    let from = c.args.self.now.reader in
    let one = c.advance_counted.new.self in
    let read = c.parse_character_class_escape_unicode in
    let old = g.C.Counter.count c.args.steps.now in
    let mid = g.C.Counter.count c.advance_counted.new.steps in
    let new = g.C.Counter.count read.new.steps in
    next_paced old mid new from one read.new.reader c.advance_counted.ensures.reader c.advance_counted.ensures.steps
    (reading_paced Fault 6 mid new one read.new.reader c.in_ok-escape.field-0 c.in-Some.escape c.in-Some.is c.in_ok-escape.ensures.steps)
