use Rattle.std.proofs.Common.{rules, sym}
use Rattle.rx_scan.proofs.FlagPlaces.{offset_next, span_at}
use Rattle.rx_scan.proofs.flags_parser.check.Goals as goal

pub returns-in-Some-clause-refused : goal.returns-in-Some-clause-refused
returns-in-Some-clause-refused c =
    c.in-Some.ensures c.args.first c.args.spans
    (span_at c.args.units.now c.loop-place.place _ c.loop-place-test.true c.args.first c.args.spans c.loop-place.start c.create-span.result c.loop-place.invariant.start c.create-span.ensures)

pub loop-place-preserved : goal.loop-place-preserved
loop-place-preserved c = record {
  start = sym (offset_next c.args.units.now c.loop-place.place _ c.loop-place-test.true c.args.first);
  fits = search rules;
  passed = c.in_default.ensures;
}
