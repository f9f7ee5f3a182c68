use Rattle.rx_units.proofs.Ends.{offset_at_le, offset_is_cut}
use Rattle.rx_units.proofs.reader.Reader.offset.Goals as goal

pub returns-clause-within : goal.returns-clause-within
returns-clause-within g c =
    let r = c.self.inside in
    let sound = c.self.invariant in
    let cut = offset_is_cut r.source_text.now r.first (g.S.UnitSource.units r.units) r.index sound.start sound.ends in
    rw (← c.self.view_is, sound.offset_is) cut.0

pub returns-clause-order : goal.returns-clause-order
returns-clause-order g c = rw (← c.self.view_is) (λ place h.
    let r = c.self.inside in
    let sound = c.self.invariant in
    rw sound.offset_is (offset_at_le r.source_text.now r.first (g.S.UnitSource.units r.units) place r.index h sound.ends))
