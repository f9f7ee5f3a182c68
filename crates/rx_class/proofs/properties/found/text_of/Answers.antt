use Rattle.std.proofs.Common.{◌∙◌, arith}
use Rattle.std.proofs.lemmas.Str.{chars-nil}
use Rattle.rx_class.proofs.properties.found.text_of.Goals as goal

pub loop-place-init : goal.loop-place-init
loop-place-init g c = (c.in_ok-text.ensures ∙ chars-nil, omega arith, omega arith)
