use Rattle.std.proofs.lemmas.Result.{on_ok_weaker}
use Rattle.rx_rewrite.proofs.Performing.{adds_term}
use Rattle.rx_rewrite.proofs.rewriter.Rewriter.push_term.Goals as goal

pub returns : goal.returns
returns c = on_ok_weaker c.push.result (adds_term c.args.self.now c.push.new.self c.args.term) c.push.ensures.ok
