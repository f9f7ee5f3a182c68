use Rattle.std.proofs.Common.{not, ◌≡◌, false, is_some, ap, refl, subst, ◌∙◌}
use Rattle.rx_class.proofs.Common.{rest}
use Rattle.rx_class.specs.ClassReading.Items.{no_end, refused_item}
use Rattle.rx_class.proofs.ClassReading.Ends.{nothing_stands}
use Rattle.rx_class.proofs.Keeping.{fault_weaker}
use Rattle.rx_class.proofs.reading.Reading.next_item.Goals as goal

pub returns-then-is_none-clause-refused : goal.returns-then-is_none-clause-refused
returns-then-is_none-clause-refused g c =
    no_end (nothing_stands (rest c.args.self.now.reader.now) (subst (λ o. is_some o ≡ false) c.peek.ensures (c.is_none.ensures ∙ ap not c.if-is_none.true))) refl c.span_from-span.ensures

pub returns-clause-refused : goal.returns-clause-refused
returns-clause-refused g c = fault_weaker c.add_item.result _ _ (λ fault gives. refused_item gives) c.add_item.ensures.refused
