use Rattle.std.proofs.lemmas.Result.{on_ok_weaker}
use Rattle.rx_rewrite.proofs.Cutting.{opens_capturing}
use Rattle.rx_rewrite.proofs.rewriter.Rewriter.rewrite_capturing.Goals as goal

pub returns : goal.returns
returns c =
    on_ok_weaker c.open_group.result
    (opens_capturing c.args.self.now c.open_group.new.self c.args.settings.old c.args.settings.new c.args.it.now c.in_ok-name.name c.in_ok-name.ensures)
    c.open_group.ensures
