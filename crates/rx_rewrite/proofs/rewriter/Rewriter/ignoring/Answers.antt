use Rattle.std.proofs.lemmas.Result.{on_ok_weaker}
use Rattle.rx_rewrite.proofs.Cutting.{opens_ignoring}
use Rattle.rx_rewrite.proofs.rewriter.Rewriter.ignoring.Goals as goal

pub returns : goal.returns
returns c =
    on_ok_weaker c.open_group.result
    (opens_ignoring c.args.self.now c.open_group.new.self c.args.settings.old c.args.settings.new c.args.it.now c.modifiers-modifiers.result c.settings_after.result c.settings_after-2.result
    c.modifiers-modifiers.ensures c.settings_after.ensures c.settings_after-2.ensures)
    c.open_group.ensures
