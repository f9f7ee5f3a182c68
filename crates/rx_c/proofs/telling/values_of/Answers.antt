use Rattle.std.proofs.Common.{◌≡◌, ◌∙◌, ap, arith, take}
use Rattle.std.proofs.lemmas.List.{take_all}
use Rattle.rx_refusal.specs.Values.{texts_of}
use Rattle.rx_records.specs.Ranges.{ranges_at}
use Rattle.rx_c.specs.Told.{all_bytes, each_bytes}
use Rattle.rx_c.proofs.Ranges.{bytes_more, ranges_more}
use Rattle.rx_c.proofs.telling.values_of.Goals as goal

pub loop-text-preserved : goal.loop-text-preserved
loop-text-preserved c =
    let within = c.loop-text-test.true in
    let before = c.loop-text.invariant in
    record {
      texts = bytes_more _ c.loop-text.text-index _ _ within c.text-item.is _ before.texts _ c.in_ok-range.ensures.texts;
      ranges = ranges_more _ c.loop-text.text-index _ _ within c.text-item.is _ before.texts _ _ _ before.ranges c.in_ok-range.ensures.range c.in_ok-push.ensures.items;
    }

pub returns : goal.returns
returns c =
    let all : take c.loop-text.text-index c.as_slice-text-items.result.now ≡ texts_of c.args.cause.now =
    take_all c.loop-text.text-index c.as_slice-text-items.result.now (omega arith) ∙ c.as_slice-text-items.ensures ∙ c.in_ok-texts.ensures in
    record {
      texts = c.loop-text.invariant.texts ∙ ap all_bytes all;
      ranges = c.loop-text.invariant.ranges ∙ ap (λ ts. ranges_at 0 (each_bytes ts)) all;
    }
