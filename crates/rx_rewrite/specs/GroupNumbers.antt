-- The numbers of the groups of a tree, where names are to go.
use Rattle.std.specs.Prelude.{◌≡◌, true, None, Some, Result, Ok, Err}
use Rattle.rx_ast.specs.Tree.{Whole}
use Rattle.rx_trace.specs.Groups.{names_in_each}
use Rattle.rx_rewrite.specs.declared.fault.RewriteFault.{RewriteFault}
use Rattle.rx_rewrite.specs.declared.fault.RewriteFault.TheVariants as fault
use Rattle.rx_rewrite.specs.declared.numbers.GroupNumbers.{GroupNumbers}
use Rattle.rx_rewrite.specs.declared.rewrites.Rewrites.{Rewrites}
use Rattle.rx_rewrite.specs.Answers.{repeated_name}
use Rattle.rx_rewrite.specs.RewriterState.{IsNumbered}

abbrev pub IsNumberingOf : Rewrites → Whole → Result GroupNumbers RewriteFault → Type 0
IsNumberingOf what tree (Ok numbers) = IsNumbered what (names_in_each tree.1.1) numbers × (what.named_capture_groups ≡ true → repeated_name tree ≡ None)
IsNumberingOf what tree (Err (fault.NameUsedTwice first second)) = (what.named_capture_groups ≡ true) × (repeated_name tree ≡ Some (first, second))
IsNumberingOf what tree (Err fault.OutOfMemory) = Unit {0}
