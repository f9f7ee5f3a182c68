use Rattle.std.proofs.Common.{ap, sym, ◌∙◌, not, refl, ◌||◌}
use Rattle.std.specs.List.{flat_map}
use Rattle.std.proofs.Math.Bool.{not-not}
use Rattle.rx_lint.specs.Items.{range_of}
use Rattle.rx_lint.proofs.HeldItems.{character_added}
use Rattle.rx_lint.proofs.items.Items.add_character.Goals as goal

pub returns-then-is_covered : goal.returns-then-is_covered
returns-then-is_covered c = λ before are.
    let there = not c.in_ok-is_new.is_new in
    character_added c.args.it.now c.covers-is_covered.result there c.covers-is_covered.result (c.covers-is_covered.ensures (flat_map range_of before) are.ranges) (ap not c.in_ok-is_new.ensures.added ∙ not-not _)
    (c.if-is_covered.true ∙ sym (ap (λ b. b || there) c.if-is_covered.true)) c.in_ok-is_new.ensures.updates refl refl are

pub returns-else-is_covered : goal.returns-else-is_covered
returns-else-is_covered c = λ before are.
    let there = not c.in_ok-is_new.is_new in
    character_added c.args.it.now c.covers-is_covered.result there there (c.covers-is_covered.ensures (flat_map range_of before) are.ranges) (ap not c.in_ok-is_new.ensures.added ∙ not-not _)
    (sym (ap (λ b. b || there) c.if-is_covered.false)) c.in_ok-is_new.ensures.updates refl refl are
