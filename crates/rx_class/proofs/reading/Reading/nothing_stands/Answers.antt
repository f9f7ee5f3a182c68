use Rattle.std.proofs.Common.{sym, ap, ◌∙◌, is_some}
use Rattle.rx_class.proofs.Common.{true≢false, rest, no_operator}
use Rattle.rx_class.proofs.ClassReading.Ends.{nothing_stands}
use Rattle.rx_class.proofs.SetReading.Refusals.{says_no_end, says_no_operand}
use Rattle.rx_class.proofs.reading.Reading.nothing_stands.Goals.{else-is_empty-via-then-is_empty+else-is_some, else-is_empty-via-else-is_empty}
use Rattle.rx_class.proofs.reading.Reading.nothing_stands.Goals as goal

pub returns-in-Some : goal.returns-in-Some
returns-in-Some g c = rw c.here-span.ensures (no_operator _ (sym c.operator.ensures ∙ c.in-Some.is))

pub returns-then-is_some : goal.returns-then-is_some
returns-then-is_some g c =
    says_no_operand c.args.self.now.spans.now c.args.self.now.reader.now c.args.builder.now c.here-span.result (c.is_empty.ensures.0 c.if-is_empty.true)
    (ap is_some (sym c.peek.ensures) ∙ sym c.is_some.ensures ∙ c.if-is_some.true) c.here-span.ensures

pub returns : goal.returns
returns g c =
    says_no_end c.args.self.now.spans.now c.args.self.now.reader.now c.args.builder.now c.new.result c.here-span.result c.unterminated.result (sym c.operator.ensures ∙ c.in_default.is)
    (λ none. elim c.else-is_empty.branch [
      | else-is_empty-via-then-is_empty+else-is_some w ↦ nothing_stands (rest c.args.self.now.reader.now) (ap is_some (sym w.peek.ensures) ∙ sym w.is_some.ensures ∙ w.if-is_some.false)
      | else-is_empty-via-else-is_empty w ↦ absurd (true≢false (sym (c.is_empty.ensures.1 none) ∙ w.if-is_empty.false))
    ])
    c.here-span.ensures c.new.ensures c.unterminated.ensures
