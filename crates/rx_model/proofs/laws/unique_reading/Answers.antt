use Rattle.std.proofs.Common.{sym, ◌∙◌, subst, []}
use Rattle.rx_model.specs.Inputs.Environment.{environment}
use Rattle.rx_model.specs.Trees.Events.{tokens}
use Rattle.rx_model.specs.Reading.Rows.{TokenRow}
use Rattle.rx_model.proofs.Trees.TreeFromTokens.{one_tree}
use Rattle.rx_model.proofs.Reading.OneRow.{one_row}
use Rattle.rx_model.proofs.FirstPass.OwnGroups.{own_environment}
use Rattle.rx_model.proofs.laws.unique_reading.Goals as goal

pub returns : goal.returns
returns c mode rules p q us r s =
    let same = sym (own_environment mode rules p us r.spelled) ∙ own_environment mode rules q us s.spelled in
    one_tree mode mode p q r.spelled.shape s.spelled.shape
    (one_row (environment mode rules q) (tokens p) (tokens q) us (subst (λ e. TokenRow e (tokens p) us []) same r.spelled.row) s.spelled.row)
