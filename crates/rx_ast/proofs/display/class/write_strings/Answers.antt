use Rattle.rx_ast.specs.Shown.{barred_strings_shown, characters_shown}
use Rattle.rx_ast.proofs.FormatterWrites.{shown_then}
use Rattle.rx_ast.proofs.display.class.write_strings.Goals as goal

pub returns-in_ok-fmt-in-Some : goal.returns-in_ok-fmt-in-Some
returns-in_ok-fmt-in-Some g c =
    rw c.in-Some.ensures.cases.0 (shown_then _ (characters_shown c.in-Some.first.now.body) (barred_strings_shown c.in-Some.rest.now) c.in_ok-fmt-in-Some.ensures.writes c.write_barred_strings.ensures)
