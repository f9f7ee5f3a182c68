use Rattle.rx_json.proofs.Lists.{encoded}
use Rattle.rx_json.proofs.member.write_characters.Goals as goal

pub returns : goal.returns
returns c = rw (encoded _ _ c.as_str.utf8 c.as_str.ensures) at c.write_text.ensures
