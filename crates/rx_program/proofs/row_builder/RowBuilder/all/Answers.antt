use Rattle.std.proofs.Common.{refl}
use Rattle.std.proofs.lemmas.Result.{on_ok_weaker}
use Rattle.rx_program.specs.declared.row_builder.Part.TheVariants as part
use Rattle.rx_program.proofs.RowMaking.{made_all, made_no_all, can_all_with}
use Rattle.rx_program.proofs.row_builder.RowBuilder.all.Goals as goal

pub returns-in_default : goal.returns-in_default
returns-in_default c =
    made_no_all c.args.self.now c.args.items.now c.args.not_held (part.All c.args.items c.args.not_held) c.in_default.ensures.cases (record { answers = λ checks u made. refl; below = λ n h. h; weighs = refl }) c.requires

pub item-requires : goal.item-requires
item-requires c = can_all_with c.args.self.now c.push_part.new.self (part.All c.in-Some.items c.args.not_held) c.args.not_held c.in_ok-push_part.ensures (λ n h. h) c.requires

pub returns : goal.returns
returns c =
    let p = part.All c.in-Some.items c.args.not_held in
    let q = part.All c.args.items c.args.not_held in
    on_ok_weaker c.item.result
    (made_all c.args.self.now c.push_part.new.self c.item.new.self c.args.items.now c.in-Some.items.now c.in-Some.last.now c.args.not_held p q c.in-Some.ensures.cases.0
    (record { answers = λ checks u made. refl; below = λ n h. h; weighs = refl }) (record { answers = λ checks u made. refl; below = λ n h. h; weighs = refl }) c.in_ok-push_part.ensures) c.item.ensures
