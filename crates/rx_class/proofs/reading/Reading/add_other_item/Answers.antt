use Rattle.std.proofs.Common.{Result, Err, IfErr}
use Rattle.rx_class.proofs.Common.{Fault, GivesItem, environment_of}
use Rattle.rx_class.specs.ClassReading.Items.{no_memory}
use Rattle.rx_class.proofs.ClassReading.Ranges.{item_keeps}
use Rattle.rx_class.proofs.Keeping.{handed}
use Rattle.rx_class.proofs.reading.Reading.add_other_item.Goals as goal

pub returns-in_err-push_item-clause-refused : goal.returns-in_err-push_item-clause-refused
returns-in_err-push_item-clause-refused g c =
    handed (λ (r : Result (Unit {0}) Fault). IfErr r (λ fault. GivesItem (environment_of c.args.self.now.state.now) c.args.self.now.spans.now c.args.self.now.reader.now c.class_item.new.self.reader.now (Err fault)))
    c.from_residual-in_err-push_item.ensures.1 (no_memory (item_keeps _ _ _ c.in_ok-item.ensures.gives))

pub returns-clause-added : goal.returns-clause-added
returns-clause-added g c = record { it = c.in_ok-item.item; gives = c.in_ok-item.ensures.gives; adds = c.in_ok-push_item.ensures }
