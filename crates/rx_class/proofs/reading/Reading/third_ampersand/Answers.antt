use Rattle.std.proofs.Common.{◌≡◌, ◌+◌, arith}
use Rattle.rx_class.proofs.SetReading.Refusals.{ampersand_gives}
use Rattle.rx_class.proofs.reading.Reading.third_ampersand.Goals as goal

pub returns-clause-gives : goal.returns-clause-gives
returns-clause-gives g c =
    let here : c.args.self.now.reader.now.place + 0 ≡ c.args.self.now.reader.now.place = omega arith in
    ampersand_gives _ _ _ _ _ c.requires.ampersand c.requires.held (rw here at c.read_span-span.ensures.span) c.read_span-span.ensures.reader
