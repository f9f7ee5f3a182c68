use Rattle.rx_base.proofs.Texts.{encodes_grown}
use Rattle.rx_display.proofs.writer.WriterWrite.write_str.Goals as goal

pub returns-in-Ok : goal.returns-in-Ok
returns-in-Ok c = record { ok = λ ok. encodes_grown _ _ _ c.utf8.s c.in-Ok.ensures.ok }
