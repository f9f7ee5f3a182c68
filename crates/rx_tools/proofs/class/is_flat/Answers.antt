use Rattle.std.proofs.Common.{sym, ◌∙◌}
use Rattle.rx_tools.proofs.Classes.{flat_class, flat_ends, flat_goes_on, flat_none}
use Rattle.rx_tools.proofs.class.is_flat.Goals as goal

pub returns-then-is_nested : goal.returns-then-is_nested
returns-then-is_nested c =
    let ends = flat_ends c.as_slice-all_contents.result.now c.loop-contents.contents-index c.contents-item.result c.loop-contents-test.true c.contents-item.is (sym c.is_nested.ensures ∙ c.if-is_nested.true) in
    sym (rw (flat_class c.args.class.now, ← c.as_slice-all_contents.ensures) (c.loop-contents.invariant ∙ ends))

pub loop-contents-preserved : goal.loop-contents-preserved
loop-contents-preserved c =
    c.loop-contents.invariant ∙
    flat_goes_on c.as_slice-all_contents.result.now c.loop-contents.contents-index c.contents-item.result c.loop-contents-test.true c.contents-item.is (sym c.is_nested.ensures ∙ c.if-is_nested.false)

pub returns : goal.returns
returns c =
    sym (rw (flat_class c.args.class.now, ← c.as_slice-all_contents.ensures) (c.loop-contents.invariant ∙ flat_none c.as_slice-all_contents.result.now c.loop-contents.contents-index c.loop-contents-test.false))
