use Rattle.rx_class.proofs.Keeping.{handed_case}
use Rattle.rx_class.proofs.SetReading.Operands.{property_stands}
use Rattle.rx_class.proofs.reading.Reading.property_here.Goals as goal

pub returns-in_err-it-clause-gives : goal.returns-in_err-it-clause-gives
returns-in_err-it-clause-gives g c =
    let on = c.advance.ensures.on in
    handed_case _ _ _ c.from_residual.ensures.1 (rw (on.state, on.spans, c.advance.ensures.reader, c.offset-start.ensures.value) at c.in_err-it.ensures.gives)

pub unreachable-requires : goal.unreachable-requires
unreachable-requires g c =
    let on = c.advance.ensures.on in
    let of = c.requires.sets in
    property_stands c.args.self.now.reader.now c.advance.new.self.reader.now c.requires.front c.advance.ensures.reader of.sets (rw (c.in_default.is, on.state, on.spans) at c.in_ok-it.ensures.gives)

pub returns-clause-gives : goal.returns-clause-gives
returns-clause-gives g c =
    let on = c.advance.ensures.on in
    rw (c.in-Some.is, on.state, on.spans, c.advance.ensures.reader, c.offset-start.ensures.value) at c.in_ok-it.ensures.gives
