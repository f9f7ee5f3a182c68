use Rattle.rx_json.proofs.Adding.{adds_last, adds_one}
use Rattle.rx_json.proofs.leaf.write_character.Goals as goal

pub returns : goal.returns
returns c =
    let opened = c.in_ok-open_character.ensures in
    let closed = rw opened.1 at c.write.ensures in
    adds_last _ _ _ _ _ _ (adds_one c.in_ok-key.ensures) (adds_last _ _ _ _ _ _ opened.0 closed)
