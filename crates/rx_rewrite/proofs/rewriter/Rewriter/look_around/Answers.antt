use Rattle.std.proofs.lemmas.Result.{on_ok_weaker}
use Rattle.rx_rewrite.proofs.Cutting.{opens_looking}
use Rattle.rx_rewrite.proofs.rewriter.Rewriter.look_around.Goals as goal

pub returns : goal.returns
returns c =
    on_ok_weaker c.open_group.result
    (opens_looking c.args.self.now c.open_group.new.self c.args.settings.old c.args.settings.new c.args.it.now)
    c.open_group.ensures
