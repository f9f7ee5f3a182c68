use Rattle.std.proofs.Common.{◌∙◌}
use Rattle.std.proofs.lemmas.Str.{chars-IsAscii}
use Rattle.rx_tools.proofs.quantifier.decimal_text.Goals as goal

pub returns : goal.returns
returns c = chars-IsAscii c.format.result.now c.format.ensures.ascii ∙ c.format.ensures.text
