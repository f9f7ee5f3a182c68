use Rattle.std.proofs.Common.{◌≡◌, ap, ◌∙◌, min, max, refl}
use Rattle.std.specs.List.{flat_map, list_any}
use Rattle.rx_lint.specs.Coverage.{covers_both}
use Rattle.rx_lint.specs.Items.{range_of}
use Rattle.rx_lint.proofs.HeldItems.{range_kept_out, covered_range, range_added}
use Rattle.rx_lint.proofs.items.Items.add_range.Goals as goal
use Rattle.rx_lint.proofs.items.Items.add_range.Goals.{then-min-max-via-then-min-max, then-min-max-via-else-min-max+then-is_covered}

pub returns-then-min-max : goal.returns-then-min-max
returns-then-min-max c = λ before are.
    let r = c.args.it.now in
    let rs = flat_map range_of before in
    let answers : c.covers-is_covered.result ≡ list_any (covers_both (min r.min.value r.max.value) (max r.min.value r.max.value)) rs =
    c.covers-is_covered.ensures rs are.ranges ∙ ap (λ v. list_any (covers_both v c.max.result) rs) c.min.ensures ∙ ap (λ w. list_any (covers_both (min r.min.value r.max.value) w) rs) c.max.ensures in
    elim c.then-min-max.branch [
      | then-min-max-via-then-min-max w ↦ range_kept_out r c.covers-is_covered.result answers w.if-min-max.true are
      | then-min-max-via-else-min-max+then-is_covered w ↦ covered_range r c.covers-is_covered.result answers w.if-min-max.false w.if-is_covered.true are
    ]

pub returns : goal.returns
returns c = λ before are.
    let r = c.args.it.now in
    let rs = flat_map range_of before in
    let answers : c.covers-is_covered.result ≡ list_any (covers_both (min r.min.value r.max.value) (max r.min.value r.max.value)) rs =
    c.covers-is_covered.ensures rs are.ranges ∙ ap (λ v. list_any (covers_both v c.max.result) rs) c.min.ensures ∙ ap (λ w. list_any (covers_both (min r.min.value r.max.value) w) rs) c.max.ensures in
    range_added r c.covers-is_covered.result answers c.if-min-max.false c.if-is_covered.false c.in_ok-add.ensures refl refl are
