use Rattle.std.proofs.Common.{ap, ◌∙◌, [], ◌∷◌, ◌++◌}
use Rattle.std.specs.String.{string_bytes}
use Rattle.std.proofs.lemmas.Str.{IsUtf8-string_bytes}
use Rattle.rx_base.proofs.Texts.{chars_pushed}
use Rattle.rx_base.proofs.text.Text.push.Goals as goal

pub returns-clause-ok : goal.returns-clause-ok
returns-clause-ok c =
    let inner = c.self.inside.inner in
    chars_pushed (string_bytes inner) _ c.args.c (IsUtf8-string_bytes inner) c.ranges.c.0 c.in_ok-push.ensures.bytes ∙ ap (λ cs. cs ++ (c.args.c ∷ [])) c.self.view_is
