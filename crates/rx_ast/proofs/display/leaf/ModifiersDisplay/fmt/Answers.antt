use Rattle.std.proofs.Common.{◌++◌}
use Rattle.rx_ast.specs.Texts.{dash, letters}
use Rattle.rx_ast.proofs.FormatterWrites.{shown_then}
use Rattle.rx_ast.proofs.display.leaf.ModifiersDisplay.fmt.Goals as goal

pub returns-clause-writes : goal.returns-clause-writes
returns-clause-writes g c =
    let enabled = letters c.args.self.now.enabling.0 in
    let between = dash c.args.self.now.disabling.0 in
    let disabled = letters c.args.self.now.disabling.0 in
    shown_then _ enabled (between ++ disabled) (rw c.letters.ensures at c.in_ok-write_text.ensures)
    (shown_then _ between disabled (rw c.dash.ensures at c.in_ok-write_text-2.ensures) (rw c.letters-2.ensures at c.write_text-3.ensures))
