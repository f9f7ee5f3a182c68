use Rattle.rx_json.proofs.Adding.{adds_last}
use Rattle.rx_json.proofs.member.write_place.Goals as goal

pub returns : goal.returns
returns c =
    let start = rw c.from.ensures at c.in_ok-write_number.ensures in
    let end = rw c.from-2.ensures at c.in_ok-write_number-2.ensures in
    let start16 = rw (c.from-3.ensures, c.in_utf16.ensures) at c.in_ok-write_number-3.ensures in
    let end16 = rw (c.from-4.ensures, c.in_utf16-2.ensures) at c.write_number-4.ensures in
    adds_last _ _ _ _ _ _ start (adds_last _ _ _ _ _ _ end (adds_last _ _ _ _ _ _ start16 end16))
