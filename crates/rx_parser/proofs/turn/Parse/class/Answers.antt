use Rattle.std.proofs.Common.{sym, subst, rules, refl}
use Rattle.rx_parser.proofs.Common.{IsNode, RefusesText}
use Rattle.rx_parser.proofs.ClassTurns.{class_answer_refused, class_taken}
use Rattle.rx_parser.proofs.Turns.{before, has_turned}
use Rattle.rx_parser.proofs.turn.Parse.class.Goals as goal

pub returns-in_err-class-clause-refused : goal.returns-in_err-class-clause-refused
returns-in_err-class-clause-refused g c =
    let r = c.args.self.now.reader in
    let refused : RefusesText c.args.self.now c.in_err-class.field-0.0 =
    class_answer_refused (before c.requires.more) c.requires.more.under_way.pass c.parse_character_class_with_list.new.reader c.in_err-class.field-0.0 c.in_err-class.ensures.gives in
    search rules

pub returns-clause-turned : goal.returns-clause-turned
returns-clause-turned g c =
    let it = c.in_ok-leaf-in-Some.ensures in
    let term = c.in_ok-class_term-in-Some in
    let b = c.args.self.now.builder in
    has_turned c.requires.more
    (class_taken (before c.requires.more) c.requires.more.under_way.pass c.leaf.new.self c.parse_character_class_with_list.new.reader c.in_ok-class.field-0 c.in-Some.class term.field-0 c.in-Some.is c.in_ok-class.ensures.gives term.ensures
    (record { events = it.events; openers_are = it.openers; ready_is = it.ready; good = it.good (subst (IsNode b.mode) (sym term.ensures) tt); fixed = it.fixed })) refl refl
