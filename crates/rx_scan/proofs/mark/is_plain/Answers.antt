use Rattle.std.proofs.Common.{nat_eq, refl, arith}
use Rattle.rx_base.proofs.Tables.{table_at}
use Rattle.rx_scan.specs.MarkReading.{is_plain}
use Rattle.rx_scan.specs.declared.mark.TheConstants.{BEGINS_MARK}
use Rattle.rx_scan.proofs.mark.is_plain.Goals as goal

pub returns-else-unit-ge128 : goal.returns-else-unit-ge128
returns-else-unit-ge128 c = table_at (λ b. nat_eq b 0) is_plain BEGINS_MARK refl c.args.unit (omega arith)
