use Rattle.std.proofs.Common.{◌≡◌, ◌∙◌, ap, subst, ℕ, List, Some, None, Err}
use Rattle.json.specs.Json.{document}
use Rattle.json.specs.Value.{value_view}
use Rattle.rx_json_reply.specs.Lines.{no_text, no_value, too_long, value}
use Rattle.rx_json_reply.proofs.replies.value_of.Goals as goal

pub returns-then-line-gt-LINE_LIMIT-clause-value : goal.returns-then-line-gt-LINE_LIMIT-clause-value
returns-then-line-gt-LINE_LIMIT-clause-value c = too_long c.if-line-gt-LINE_LIMIT.true

pub returns-in_default-clause-value : goal.returns-in_default-clause-value
returns-in_default-clause-value c = no_text c.if-line-gt-LINE_LIMIT.false c.in_default.ensures.cases.0

pub returns-in-Ok-parse-clause-value : goal.returns-in-Ok-parse-clause-value
returns-in-Ok-parse-clause-value c =
    let view = value_view c.in-Ok-parse.value in
    value view c.if-line-gt-LINE_LIMIT.false c.in-Ok.ensures.cases.1 (subst (λ (text : List ℕ). document text ≡ Some view) c.in-Ok.ensures.cases.0 c.in-Ok-parse.ensures.ok)

pub returns-in-Err-Invalid-clause-value : goal.returns-in-Err-Invalid-clause-value
returns-in-Err-Invalid-clause-value c =
    let none = c.parse.ensures.invalid (c.in-Err-Invalid.is ∙ ap Err c.in-Err-Invalid.field-0-is) in
    no_value c.if-line-gt-LINE_LIMIT.false c.in-Ok.ensures.cases.1 (subst (λ (text : List ℕ). document text ≡ None) c.in-Ok.ensures.cases.0 none)
