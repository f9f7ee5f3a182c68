use Rattle.std.proofs.Common.{◌∙◌}
use Rattle.std.proofs.lemmas.Str.{chars-nil}
use Rattle.rx_tools.proofs.Writes.{text_is}
use Rattle.rx_tools.proofs.printing.canonical_text.Goals as goal

pub returns : goal.returns
returns c = text_is _ _ _ (c.in_ok-text.ensures ∙ chars-nil) c.in_ok-write_pattern.ensures
