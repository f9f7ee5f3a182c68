use Rattle.std.proofs.Common.{◌≡◌, sym, ◌∙◌, subst, true, false, Contains, rules, refl}
use Rattle.rx_parser.proofs.Common.{is_among, Diagnostic, InvalidNamedReference, named, RefusesText, found_among}
use Rattle.rx_parser.proofs.Turns.{before, has_turned, leaf_turned, name_refused, named_passed}
use Rattle.rx_parser.proofs.turn.Parse.named_reference.Goals as goal

pub returns-then-not-contains-clause-refused : goal.returns-then-not-contains-clause-refused
returns-then-not-contains-clause-refused g c =
    let none : is_among c.args.self.now.state.capturing_group_names c.in_ok-name.name ≡ false = search rules in
    let names_are = c.in_ok-names.ensures ∙ c.as_slice.ensures in
    let span = c.span_over-span in
    subst (λ names. RefusesText c.args.self.now (Diagnostic (InvalidNamedReference span.result names))) (sym names_are)
    (name_refused (before c.requires.more) c.requires.more.under_way.pass span.new.reader c.in_ok-name.name c.args.length span.result.start span.result.end
    (named_passed (before c.requires.more) c.requires.found c.ahead-units.ensures.units c.is_unicode-unicode_mode.ensures c.in_ok-name.ensures.name span.ensures.start span.ensures.end span.ensures.reader) none)

pub returns-clause-turned : goal.returns-clause-turned
returns-clause-turned g c =
    let name = c.in_ok-name.name in
    let it = c.in_ok-leaf.ensures in
    let its = c.in_ok-named_term.ensures in
    let span = c.span_over-span in
    let some : is_among c.args.self.now.state.capturing_group_names name ≡ true = search rules in
    has_turned c.requires.more
    (leaf_turned (before c.requires.more) c.leaf.new.self span.new.reader (named name) c.args.length span.result.start span.result.end c.in_ok-named_term.field-0
    (named_passed (before c.requires.more) c.requires.found c.ahead-units.ensures.units c.is_unicode-unicode_mode.ensures c.in_ok-name.ensures.name span.ensures.start span.ensures.end span.ensures.reader)
    (subst (λ names. Contains names name) c.requires.more.under_way.pass.names (found_among c.args.self.now.state.capturing_group_names name some)) its
    (record { events = it.events; openers_are = it.openers; ready_is = it.ready; good = it.good (its.good c.args.self.now.builder.mode); fixed = it.fixed })) refl refl
