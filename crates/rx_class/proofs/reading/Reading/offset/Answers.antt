use Rattle.rx_class.proofs.Fitting.{offset_here_fits}
use Rattle.rx_class.proofs.reading.Reading.offset.Goals as goal

pub returns-clause-fits : goal.returns-clause-fits
returns-clause-fits g c = offset_here_fits c.args.self.now.spans.now _ c.args.self.now.reader.now c.args.self.now.fits c.offset.ensures.value
