use Rattle.std.proofs.lemmas.List.{take_rest}
use Rattle.rx_base.proofs.Writing.{left_write}
use Rattle.rx_base.proofs.write.write_all.Goals as goal

pub loop-rest-preserved : goal.loop-rest-preserved
loop-rest-preserved g c =
    let wrote = c.in_ok-count.ensures in
    rw take_rest (left_write c.in_ok-count.count c.loop-rest.invariant wrote.bytes wrote.fixed wrote.cause.same)
