use Rattle.std.proofs.Common.{subst}
use Rattle.std.proofs.lemmas.Result.{on_ok_weaker}
use Rattle.rx_rewrite.specs.RewriterState.{AddsTerm}
use Rattle.rx_rewrite.proofs.rewriter.Rewriter.copy.Goals as goal

pub returns : goal.returns
returns c = on_ok_weaker c.push_term.result (λ adds. subst (λ n. AddsTerm c.args.self.now n c.push_term.new.self) c.in_ok-made.ensures adds) c.push_term.ensures
