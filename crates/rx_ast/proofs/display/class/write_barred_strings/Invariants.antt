use Rattle.std.proofs.Common.{drop}
use Rattle.rx_ast.specs.Shown.{barred_strings_shown}
use Rattle.rx_ast.proofs.FormatterWrites.{Left}
use Rattle.rx_ast.proofs.display.class.write_barred_strings.Given as goal

abbrev pub invariant-loop-string : goal.invariant-loop-string
invariant-loop-string g l = Left g.W.Write.write_str_gives l.fn.f l.f (barred_strings_shown l.strings) (barred_strings_shown (drop l.string-index l.strings))
