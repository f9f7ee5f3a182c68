use Rattle.std.proofs.Common.{refl}
use Rattle.rx_class.proofs.Common.{character_is}
use Rattle.rx_class.proofs.classes.item.three_items.Goals as goal

pub returns : goal.returns
returns c = rw (c.in_ok-first.ensures, c.in_ok-last.ensures, character_is _) refl
