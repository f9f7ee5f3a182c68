use Rattle.std.proofs.Common.{ap, sym, ◌∙◌}
use Rattle.std.specs.BTreeMap.{is_at}
use Rattle.std.specs.List.{list_any}
use Rattle.rx_lint.specs.Earlier.{row_cmp}
use Rattle.rx_lint.proofs.HeldEarlier.{items_start, rows_start, unasked_start}
use Rattle.rx_lint.proofs.earlier.Earlier.new.Goals as goal

pub returns-then-is_union : goal.returns-then-is_union
returns-then-is_union c = items_start _ (sym c.is_union.ensures ∙ c.if-is_union.true) c.new.ensures

pub returns-then-has_two_or_more : goal.returns-then-has_two_or_more
returns-then-has_two_or_more c = rows_start _ (sym c.has_two_or_more.ensures ∙ c.if-has_two_or_more.true) (λ q. ap (λ ks. list_any (is_at (row_cmp q)) ks) c.new-then-has_two_or_more.ensures.empty)

pub returns : goal.returns
returns c = unasked_start _ (sym c.is_union.ensures ∙ c.if-is_union.false) (sym c.has_two_or_more.ensures ∙ c.if-has_two_or_more.false)
