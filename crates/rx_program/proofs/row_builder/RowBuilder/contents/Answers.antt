use Rattle.std.proofs.Common.{refl, ap, sym, ◌+◌, ◌*◌, map, false, arith}
use Rattle.std.proofs.lemmas.Result.{on_ok_weaker}
use Rattle.rx_ast.specs.ClassTree.{class, members, mirror_contents}
use Rattle.rx_ast.specs.Forget.{nowhere}
use Rattle.rx_program.specs.declared.row_builder.Part.TheVariants as part
use Rattle.rx_trace.specs.Holding.{class_holds, any_holds, all_hold, first_holds}
use Rattle.rx_program.specs.SurveyState.{members_looks}
use Rattle.rx_program.proofs.RowMaking.{led_union, led_intersection, led_same}
use Rattle.rx_program.proofs.row_builder.RowBuilder.contents.Goals as goal

pub returns-in-Union : goal.returns-in-Union
returns-in-Union c =
    let ms = members (map mirror_contents c.args.items.now) in
    let most = 1 + 2 * members_looks ms in
    on_ok_weaker c.push_part.result
    (λ pushed. led_same c.args.self.now c.push_part.new.self (class_holds (class nowhere false false c.args.kind ms)) (any_holds ms) most most c.args.held c.args.not_held (λ u. ap (λ k. class_holds (class nowhere false false k ms) u) (sym c.in-Union.is)) (omega arith)
    (led_union c.args.self.now c.push_part.new.self ms c.args.held c.args.not_held (part.Any c.args.items c.args.held) (record { answers = λ checks u made. refl; below = λ n h. h; weighs = refl }) pushed c.requires)) c.push_part.ensures

pub returns-in-Intersection : goal.returns-in-Intersection
returns-in-Intersection c =
    let ms = members (map mirror_contents c.args.items.now) in
    let most = 1 + 2 * members_looks ms in
    on_ok_weaker c.push_part-in-Intersection.result
    (λ pushed. led_same c.args.self.now c.push_part-in-Intersection.new.self (class_holds (class nowhere false false c.args.kind ms)) (all_hold ms) most most c.args.held c.args.not_held (λ u. ap (λ k. class_holds (class nowhere false false k ms) u) (sym c.in-Intersection.is)) (omega arith)
    (led_intersection c.args.self.now c.push_part-in-Intersection.new.self ms c.args.held c.args.not_held (part.All c.args.items c.args.not_held) (record { answers = λ checks u made. refl; below = λ n h. h; weighs = refl }) pushed c.requires)) c.push_part-in-Intersection.ensures

pub returns-in-Subtraction : goal.returns-in-Subtraction
returns-in-Subtraction c =
    let ms = members (map mirror_contents c.args.items.now) in
    let most = 1 + 2 * members_looks ms in
    on_ok_weaker c.subtraction.result
    (led_same c.args.self.now c.subtraction.new.self (class_holds (class nowhere false false c.args.kind ms)) (first_holds ms) most most c.args.held c.args.not_held (λ u. ap (λ k. class_holds (class nowhere false false k ms) u) (sym c.in-Subtraction.is)) (omega arith)) c.subtraction.ensures
