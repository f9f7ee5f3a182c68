use Rattle.std.proofs.lemmas.Result.{on_ok_weaker}
use Rattle.rx_program.proofs.RowMaking.{led_class, led_negative}
use Rattle.rx_program.proofs.row_builder.RowBuilder.class.Goals as goal

pub returns-then-class : goal.returns-then-class
returns-then-class c =
    on_ok_weaker c.contents.result (led_negative c.args.self.now c.contents.new.self c.args.class.now c.as_slice-items.result.now c.args.held c.args.not_held c.if-class.true c.as_slice-items.ensures) c.contents.ensures

pub returns-else-class : goal.returns-else-class
returns-else-class c =
    on_ok_weaker c.contents-else-class.result (led_class c.args.self.now c.contents-else-class.new.self c.args.class.now c.as_slice-items.result.now c.args.held c.args.not_held c.if-class.false c.as_slice-items.ensures) c.contents-else-class.ensures
