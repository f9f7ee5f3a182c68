use Rattle.std.proofs.lemmas.Result.{on_ok_weaker}
use Rattle.rx_rewrite.proofs.ClassCopies.{copies_one}
use Rattle.rx_rewrite.proofs.copy_class.Copier.copy_flat.Goals as goal

pub returns : goal.returns
returns c = on_ok_weaker c.push.result (λ pushed. copies_one c.args.self.now c.push.new.self c.in_ok-copy.copy _ pushed c.in_ok-copy.ensures) c.push.ensures.ok
