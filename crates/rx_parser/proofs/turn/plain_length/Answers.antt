use Rattle.std.proofs.Common.{◌≡◌, ◌∙◌, ap, sym, true, false, ◌<◌, length, get_or, arith, rules}
use Rattle.rx_parser.proofs.Common.{is_syntax_character, CodePoint, unit}
use Rattle.rx_units.specs.declared.code_point.EscapeKind.TheVariants as kind
use Rattle.rx_parser.proofs.Paces.{plain_next, plain_stops}
use Rattle.rx_parser.proofs.PlainRuns.{plain_more, unit_value}
use Rattle.rx_parser.proofs.turn.plain_length.Goals as goal

none : CodePoint
none = unit 0 0 0 kind.None

pub loop-count-preserved : goal.loop-count-preserved
loop-count-preserved g c =
    let us = c.args.units.now in
    let i = c.loop-count.count in
    let was = c.loop-count.invariant in
    let items = c.items-items.ensures in
    let inside : i < length us = omega (arith, c.loop-count-test.true, items.length) in
    let plain : c.is_syntax_character.result ≡ false = search rules in
    let is = c.value.ensures ∙ ap g.U.Unit.value c.index-items-count.is ∙ sym (unit_value g.U.Unit.value us _ i none _ items.values items.length c.loop-count-test.true) in
    let here : is_syntax_character (get_or us i none).value ≡ false = ap is_syntax_character (sym is) ∙ sym c.is_syntax_character.ensures ∙ plain in
    record {
      within = omega (arith, inside);
      plain = plain_more us i none inside was.plain here;
      whole = omega (arith, was.whole, plain_next us i none inside here);
      steps = omega (arith, was.steps);
    }

pub returns-else-not-is_syntax_character-clause-whole : goal.returns-else-not-is_syntax_character-clause-whole
returns-else-not-is_syntax_character-clause-whole g c =
    let us = c.args.units.now in
    let i = c.loop-count.count in
    let items = c.items-items.ensures in
    let stops : c.is_syntax_character.result ≡ true = search rules in
    let is = c.value.ensures ∙ ap g.U.Unit.value c.index-items-count.is ∙ sym (unit_value g.U.Unit.value us _ i none _ items.values items.length c.loop-count-test.true) in
    omega (arith, c.loop-count.invariant.whole, plain_stops us i none (omega (arith, c.loop-count-test.true, items.length)) (ap is_syntax_character (sym is) ∙ sym c.is_syntax_character.ensures ∙ stops))
