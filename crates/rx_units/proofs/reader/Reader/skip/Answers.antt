use Rattle.std.proofs.Common.{◌≡◌, length, length-drop, drop, sym, ap, ◌∙◌, arith}
use Rattle.rx_units.specs.Cursor.{rest}
use Rattle.rx_units.specs.Units.{offset_at}
use Rattle.rx_units.proofs.Offsets.{offset_more}
use Rattle.rx_units.proofs.reader.Reader.skip.Goals as goal

pub invariant_of-self : goal.invariant_of-self
invariant_of-self g c =
    let r = c.self.inside in
    let us = g.S.UnitSource.units r.units in
    let sound = c.self.invariant in
    let at = offset_at r.first us r.index in
    let seen : c.ahead-ahead.result ≡ drop r.index us = c.ahead-ahead.ensures.units ∙ ap rest (sym c.self.view_is) in
    record {
      within = omega (arith, sound.within, c.min-moved.ensures, c.len.ensures.value, ap length seen, length-drop r.index us);
      offset_is = c.end_of-end.ensures at ∙ ap (λ xs. offset_at at xs c.min-moved.result) seen ∙ sym (offset_more r.first us r.index c.min-moved.result);
      start = sound.start;
      ends = sound.ends;
      code_points = sound.code_points;
    }
