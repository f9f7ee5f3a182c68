use Rattle.std.proofs.Common.{ap, subst, sym, ◌∙◌, ◌++◌}
use Rattle.rx_class.proofs.Common.{Member, IsSound, bracket_events, character_is, member_events, member_strings, mirror_held, with_member, with_strings}
use Rattle.rx_class.proofs.SetReading.OpenBrackets.{push_events, push_well, union_strings}
use Rattle.rx_class.proofs.sets.open_bracket.OpenBracket.add_character.Goals as goal

pub returns : goal.returns
returns c =
    let b = c.args.self.now in
    let is = character_is c.args.character in
    let with = ap (λ (m : Member). with_member m (mirror_held b.held)) is ∙ c.with_member-self.ensures in
    record {
      events = push_events b c.push.new.self _ c.with_member-self.result b.strings c.in_ok-push.ensures.ok with c.requires.well ∙ ap (λ m. bracket_events b ++ member_events m) is;
      held = c.with_member-self.ensures;
      well =
          push_well b c.push.new.self _ c.with_member-self.result b.strings c.in_ok-push.ensures.ok with c.requires.well (subst IsSound (sym is) (record { fitting = tt; flagged = tt; early = c.requires.code_point }))
          (union_strings b c.requires.union c.requires.well ∙ sym (ap (λ m. with_strings (mirror_held b.held) b.strings (member_strings m)) is));
    }
