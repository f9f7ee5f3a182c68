use Rattle.std.proofs.Common.{◌∙◌, ap}
use Rattle.std.specs.Str.{chars}
use Rattle.rx_base.specs.Texts.{are_same}
use Rattle.rx_scan.proofs.KnownNames.{same_text}
use Rattle.rx_scan.proofs.first_pass.is_named.Goals as goal

pub returns : goal.returns
returns c =
    c.eq.ensures ∙ same_text c.as_str.result.now c.args.name.now c.as_str.utf8 c.utf8.name
    ∙ ap (λ name. are_same name (chars c.args.name.now)) c.as_str.ensures
