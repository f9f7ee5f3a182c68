use Rattle.std.proofs.Common.{rules}
use Rattle.rx_base.proofs.Pairwise.{pairs_more}
use Rattle.rx_base.proofs.content_eq.ListContentEq.content_eq.Goals as goal

pub loop-i-preserved : goal.loop-i-preserved
loop-i-preserved g c =
    let same_length = c.if-len.false in
    let equal = c.content_eq.ensures in
    pairs_more g.T.ContentEq.same c.as_slice-item-items.result.now c.as_slice-others.result.now c.loop-i.i c.item-item.result c.index-others-i.result c.loop-i-test.true c.item-item.is c.index-others-i.is (search rules) c.loop-i.invariant (search rules)
