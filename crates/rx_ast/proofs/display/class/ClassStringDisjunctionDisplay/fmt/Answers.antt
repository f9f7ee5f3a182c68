use Rattle.std.proofs.Common.{◌++◌, codes}
use Rattle.std.specs.Char.{encode_utf8}
use Rattle.rx_ast.specs.Shown.{strings_shown}
use Rattle.rx_ast.proofs.FormatterWrites.{shown_then}
use Rattle.rx_ast.proofs.display.class.ClassStringDisjunctionDisplay.fmt.Goals as goal

pub returns-clause-writes : goal.returns-clause-writes
unfolding encode_utf8
returns-clause-writes g c =
    let strings = strings_shown c.args.self.now.body in
    shown_then _ (codes "\\q{") (strings ++ codes "}") c.in_ok-write_str.ensures.writes
    (shown_then _ strings (codes "}") (rw c.as_slice.ensures at c.in_ok-write_strings.ensures) c.write_str-2.ensures.writes)
