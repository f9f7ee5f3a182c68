use Rattle.std.proofs.Common.{refl, ap, ◌∙◌}
use Rattle.std.proofs.lemmas.Result.{on_ok_weaker}
use Rattle.rx_program.specs.declared.row_builder.Part.TheVariants as part
use Rattle.rx_program.specs.RowParts.{with_part}
use Rattle.rx_program.proofs.RowMaking.{led_subtraction, led_no_subtraction}
use Rattle.rx_program.proofs.row_builder.RowBuilder.subtraction.Goals as goal

pub returns-in_default : goal.returns-in_default
returns-in_default c = led_no_subtraction c.args.self.now _ c.args.items.now c.args.held c.args.not_held c.in_default.ensures.cases refl c.requires

pub returns : goal.returns
returns c =
    let p = part.Item c.in-Some.item c.args.not_held in
    let q = part.Any c.in-Some.items c.args.not_held in
    on_ok_weaker c.push_part-2.result
    (λ pushed. led_subtraction c.args.self.now c.push_part-2.new.self c.args.items.now c.in-Some.items.now c.in-Some.item.now c.args.held c.args.not_held p q c.in-Some.ensures.cases.0
    (record { answers = λ checks u made. refl; below = λ n h. h; weighs = refl }) (record { answers = λ checks u made. refl; below = λ n h. h; weighs = refl }) (pushed ∙ ap (λ y. with_part y q) c.in_ok-push_part.ensures) c.requires) c.push_part-2.ensures
