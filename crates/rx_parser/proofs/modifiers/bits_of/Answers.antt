use Rattle.std.proofs.Common.{◌∙◌, ap, sym, bit_and, bit_or, arith}
use Rattle.rx_scan.proofs.MarkSteps.{value_at}
use Rattle.rx_parser.proofs.Common.{iff_false, values}
use Rattle.rx_parser.proofs.ModifierBits.{some_bit, no_bits_twice, once_next, bits_next}
use Rattle.rx_parser.proofs.modifiers.bits_of.Goals as goal

pub returns-in_err-bit-clause-bits : goal.returns-in_err-bit-clause-bits
returns-in_err-bit-clause-bits g c =
    let here = value_at g.U.Unit.value _ c.loop-letter.letter-index _ c.items-items.ensures.values (omega arith) (c.value.ensures ∙ ap g.U.Unit.value c.letter-item.is) in
    absurd (some_bit (values c.args.letters.now) c.loop-letter.letter-index here c.requires c.in_err-bit.ensures)

pub returns-then-contains-clause-bits : goal.returns-then-contains-clause-bits
returns-then-contains-clause-bits g c =
    let bit = c.in_ok-bit.bit.0 in
    let here = value_at g.U.Unit.value _ c.loop-letter.letter-index _ c.items-items.ensures.values (omega arith) (c.value.ensures ∙ ap g.U.Unit.value c.letter-item.is) in
    no_bits_twice (values c.args.letters.now) c.loop-letter.letter-index here bit c.in_ok-bit.ensures
    (ap (λ b. bit_and b bit) (sym c.loop-letter.invariant.bits) ∙ c.contains.ensures.0 c.if-contains.true)

pub loop-letter-preserved : goal.loop-letter-preserved
loop-letter-preserved g c =
    let bit = c.in_ok-bit.bit.0 in
    let here = value_at g.U.Unit.value _ c.loop-letter.letter-index _ c.items-items.ensures.values (omega arith) (c.value.ensures ∙ ap g.U.Unit.value c.letter-item.is) in record {
      once = once_next (values c.args.letters.now) c.loop-letter.letter-index here bit c.in_ok-bit.ensures
          (λ h. iff_false c.contains.ensures c.if-contains.false (ap (λ b. bit_and b bit) c.loop-letter.invariant.bits ∙ h)) c.loop-letter.invariant.once;
      bits = c.insert.ensures ∙ ap (λ b. bit_or b bit) c.loop-letter.invariant.bits ∙ bits_next (values c.args.letters.now) c.loop-letter.letter-index here bit c.in_ok-bit.ensures;
      steps = omega (arith, c.loop-letter.invariant.steps);
    }
