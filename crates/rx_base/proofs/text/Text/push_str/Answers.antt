use Rattle.std.proofs.Common.{ap, ◌∙◌, ◌++◌}
use Rattle.std.specs.Str.{chars}
use Rattle.std.specs.String.{string_bytes}
use Rattle.std.proofs.lemmas.Str.{IsUtf8-string_bytes}
use Rattle.rx_base.proofs.Texts.{chars_grown}
use Rattle.rx_base.proofs.text.Text.push_str.Goals as goal

pub returns-clause-ok : goal.returns-clause-ok
returns-clause-ok c =
    let inner = c.self.inside.inner in
    chars_grown (string_bytes inner) _ c.args.s.now (IsUtf8-string_bytes inner) c.in_ok-push_str.ensures.bytes ∙ ap (λ cs. cs ++ chars c.args.s.now) c.self.view_is
