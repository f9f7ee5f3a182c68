use Rattle.std.proofs.Common.{subst, sym}
use Rattle.std.specs.Str.{IsCharBoundary}
use Rattle.rx_units.proofs.Ends.{offset_is_cut}
use Rattle.rx_units.proofs.reader.Reader+List+CodePoint.str.Goals as goal

pub range-part-requires-clause-start_boundary : goal.range-part-requires-clause-start_boundary
range-part-requires-clause-start_boundary c = λ _.
    let r = c.self.inside in
    let sound = c.self.invariant in
    let from = rw (← c.self.view_is) at c.requires.from in
    subst (IsCharBoundary r.source_text.now) (sym from.1) (offset_is_cut r.source_text.now r.first r.units from.0 sound.start sound.ends)

pub range-part-requires-clause-end_boundary : goal.range-part-requires-clause-end_boundary
range-part-requires-clause-end_boundary c =
    let r = c.self.inside in
    let sound = c.self.invariant in
    let to = rw (← c.self.view_is) at c.requires.to in
    subst (IsCharBoundary r.source_text.now) (sym to.1) (offset_is_cut r.source_text.now r.first r.units to.0 sound.start sound.ends)
