use Rattle.rx_places.proofs.Tables.{often_more}
use Rattle.rx_places.proofs.places.push_often.Goals as goal

pub loop-preserved : goal.loop-preserved
loop-preserved c = often_more c.args.number c.loop.counter _ _ _ c.loop.invariant c.in_ok-push.ensures.ok
