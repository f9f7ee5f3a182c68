use Rattle.std.proofs.Common.{sym, ◌∙◌}
use Rattle.rx_units.proofs.Quoted.Plain.{backslash_next, plain_next}
use Rattle.rx_units.proofs.quoted_text.reading.plain_element.Goals as goal

pub returns-in-len1-up : goal.returns-in-len1-up
returns-in-len1-up c = plain_next c.args.chars.now c.first-item.result c.in-len1-up.len_at_least c.first-item.is (sym c.is_plain.ensures ∙ c.if-is_plain.true)

pub returns-in-len2-up : goal.returns-in-len2-up
returns-in-len2-up c = backslash_next c.args.chars.now _ _ c.in-len2-up.len_at_least (sym c.if-first-eq92.true ∙ c.first-item-2.is) (sym c.if-second-eq92.true ∙ c.second-item.is)
