use Rattle.rx_json.proofs.Adding.{adds_last, adds_one}
use Rattle.rx_json.proofs.Lists.{encoded}
use Rattle.rx_json.proofs.leaf.write_modifiers.Goals as goal

pub returns : goal.returns
returns c =
    let enabling = rw (encoded _ _ c.letters.utf8 c.letters.ensures) at c.in_ok-write_text.ensures in
    let disabling = rw (encoded _ _ c.letters-2.utf8 c.letters-2.ensures) at c.in_ok-write_text-2.ensures in
    let fields = adds_last _ _ _ _ _ _ enabling (adds_last _ _ _ _ _ _ disabling c.end_object.ensures) in
    rw c.in-Some.is (adds_last _ _ _ _ _ _ (adds_one c.in_ok-key.ensures) (adds_last _ _ _ _ _ _ c.in_ok-begin_node.ensures fields))

pub returns-in_default : goal.returns-in_default
returns-in_default c = rw c.in_default.is c.write_text_or_null.ensures
