use Rattle.std.proofs.Common.{ap, ◌∙◌, subst, sym, ◌++◌}
use Rattle.rx_class.proofs.Common.{on_ok_weaker, Member, mirror_contents, class_events, member_events, member_strings, bracket_events, class_of, with_member, mirror_held, IsSound}
use Rattle.std.specs.Option.{option_map}
use Rattle.rx_ast.specs.declared.class.CharacterClassContents.TheVariants.{NestedCharacterClass}
use Rattle.rx_class.proofs.SetReading.BuilderGrowth.{close_events, close_well}
use Rattle.rx_class.proofs.SetReading.OpenBrackets.{closed_events, closed_mirror, closed_sound}
use Rattle.rx_class.proofs.sets.builder.ClassBuilder.close.Goals as goal

pub push-requires-clause-sound : goal.push-requires-clause-sound
push-requires-clause-sound c =
    let inner = c.args.self.now.inner in
    subst IsSound (sym (closed_mirror c.in_ok-class.class _ _ inner c.args.end c.in_ok-class.ensures.ok c.finish.ensures c.replace-closed.ensures.value))
    (closed_sound inner c.args.end c.requires.whole c.requires.well.inner c.requires.no_strings)

pub push-requires-clause-strings : goal.push-requires-clause-strings
push-requires-clause-strings c =
    ap (λ b. b.strings) c.replace-closed.ensures.value
    ∙ sym (ap member_strings (closed_mirror c.in_ok-class.class _ _ c.args.self.now.inner c.args.end c.in_ok-class.ensures.ok c.finish.ensures c.replace-closed.ensures.value))

pub push-requires-clause-held : goal.push-requires-clause-held
push-requires-clause-held c =
    ap (λ b. with_member (mirror_contents (NestedCharacterClass c.in_ok-class.class)) (mirror_held b.held)) c.reserve_operand.ensures
    ∙ ap (λ m. with_member m (mirror_held c.replace-closed.new.dest.held))
    (closed_mirror c.in_ok-class.class _ _ c.args.self.now.inner c.args.end c.in_ok-class.ensures.ok c.finish.ensures c.replace-closed.ensures.value)
    ∙ sym c.with_operand.ensures ∙ ap (option_map mirror_held) c.in-Some-with_operand.is

pub returns-clause-events : goal.returns-clause-events
returns-clause-events c =
    let b = c.args.self.now in
    let around = c.in-Some.around in
    let m : Member = mirror_contents (NestedCharacterClass c.in_ok-class.class) in
    on_ok_weaker c.push.result
    (λ e. close_events b c.pop.new.self around c.in-Some.ensures c.push.new.self (class_events (class_of b.inner c.args.end)) _
    (closed_events b.inner c.args.end c.requires.whole c.requires.well.inner)
    (e ∙ ap (λ f. bracket_events f ++ member_events m) (c.reserve_operand.ensures ∙ c.replace-closed.ensures.after)
    ∙ ap (λ k. bracket_events around ++ member_events k) (closed_mirror c.in_ok-class.class _ _ b.inner c.args.end c.in_ok-class.ensures.ok c.finish.ensures c.replace-closed.ensures.value)))
    c.push.ensures.events

pub returns-clause-well : goal.returns-clause-well
returns-clause-well c =
    on_ok_weaker c.push.result (λ is. close_well c.args.self.now c.pop.new.self c.in-Some.around c.in-Some.ensures c.push.new.self c.requires.well is) c.push.ensures.well
