use Rattle.std.proofs.Common.{ap, sym, ◌∙◌}
use Rattle.std.specs.Str.{chars}
use Rattle.std.proofs.lemmas.Slice.Eq.{bytes_eq-Decides}
use Rattle.rx_base.proofs.Texts.{one_text}
use Rattle.rx_base.proofs.content_eq.TextContentEq.content_eq.Goals as goal

pub returns : goal.returns
returns c =
    let decided = bytes_eq-Decides c.as_str.result.now c.as_str-2.result.now in (
      λ equal. sym c.as_str.ensures ∙ ap chars (decided.0 (sym c.eq.ensures ∙ equal)) ∙ c.as_str-2.ensures,
      λ same. c.eq.ensures ∙ decided.1 (one_text c.as_str.utf8 c.as_str-2.utf8 (c.as_str.ensures ∙ same ∙ sym c.as_str-2.ensures)),
    )
