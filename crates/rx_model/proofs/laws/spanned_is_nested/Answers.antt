use Rattle.rx_model.proofs.Reading.NestedSpans.{spanned_is_nested}
use Rattle.rx_model.proofs.laws.spanned_is_nested.Goals as goal

pub returns : goal.returns
returns c mode rules p us first added rising row = spanned_is_nested mode rules p us first added rising row
