use Rattle.std.proofs.Common.{◌≡◌, length, rules}
use Rattle.std.proofs.lemmas.List.{nil_from_length}
use Rattle.std.proofs.lemmas.Str.{chars-nil}
use Rattle.rx_base.proofs.Writing.{written_none}
use Rattle.rx_tools.proofs.Pieces.{utf8-nil, utf8-chars}
use Rattle.rx_tools.proofs.write.write_str.Goals as goal

pub returns-then-is_empty : goal.returns-then-is_empty
returns-then-is_empty g c =
    let none : length c.args.text.now ≡ 0 = search rules in
    rw (nil_from_length c.args.text.now none, chars-nil, utf8-nil) (written_none _ _ _ _ _)

pub returns : goal.returns
returns g c = rw (utf8-chars c.args.text.now c.utf8.text) c.write_str.ensures
