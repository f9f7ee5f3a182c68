use Rattle.std.proofs.Common.{ap, subst, sym, ◌∙◌, ◌++◌}
use Rattle.rx_class.proofs.Common.{Member, IsSound, bracket_events, member_events, member_strings, mirror_held, with_member, with_strings}
use Rattle.rx_class.specs.declared.sets.held.Held.TheVariants.{Several}
use Rattle.rx_class.proofs.Operators.{union_range}
use Rattle.rx_class.proofs.SetReading.OpenBrackets.{push_events, push_well, union_strings}
use Rattle.rx_class.proofs.sets.open_bracket.OpenBracket.add_range.Goals as goal

pub returns : goal.returns
returns c =
    let b = c.args.self.now in
    let is = c.in_ok-range_contents.ensures in
    let ranges = union_range (mirror_held b.held) c.requires.union in
    let with = ap (λ (m : Member). with_member m (mirror_held b.held)) is ∙ ranges in
    record {
      events = push_events b c.push.new.self _ Several b.strings c.in_ok-push.ensures.ok with c.requires.well ∙ ap (λ m. bracket_events b ++ member_events m) is;
      held = ranges;
      well =
          push_well b c.push.new.self _ Several b.strings c.in_ok-push.ensures.ok with c.requires.well (subst IsSound (sym is) c.requires.sound)
          (union_strings b c.requires.union c.requires.well ∙ sym (ap (λ m. with_strings (mirror_held b.held) b.strings (member_strings m)) is));
    }
