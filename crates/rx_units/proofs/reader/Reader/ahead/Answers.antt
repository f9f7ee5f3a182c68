use Rattle.rx_units.proofs.reader.Reader.ahead.Goals as goal

pub returns-clause-within : goal.returns-clause-within
returns-clause-within g c = rw (← c.self.view_is) c.self.invariant.within
