-- What is answered of a whole pattern.
use Rattle.std.proofs.Common.{◌≡◌, ap, sym, ◌∙◌, subst, ◌<◌, ◌≤◌, ◌^◌, true, Result, Ok, Err, List, length, arith}
use Rattle.std.specs.Str.{chars}
use Rattle.rx_ast.specs.Kinds.{Kind, pattern, order}
use Rattle.rx_ast.specs.Tree.{Whole}
use Rattle.rx_model.specs.Trees.Early.{most_groups}
use Rattle.rx_model.specs.Trees.Names.{alternatives_groups}
use Rattle.rx_rewrite.specs.declared.fault.RewriteFault.{RewriteFault}
use Rattle.rx_rewrite.specs.declared.fault.RewriteFault.TheVariants as fault
use Rattle.rx_rewrite.specs.declared.numbers.GroupNumbers.{GroupNumbers}
use Rattle.rx_rewrite.specs.declared.rewrites.Rewrites.{Rewrites}
use Rattle.rx_rewrite.specs.GroupNumbers.{IsNumberingOf}
use Rattle.rx_rewrite.specs.NamedGroups.{IsNumbering, group_names}
use Rattle.rx_rewrite.specs.Rewriting.{number_of}
use Rattle.rx_trace.proofs.GroupNames.{names-length-each}
use Rattle.rx_rewrite.proofs.Orders.{names_of_order, count-each}

-- There are no more groups than fit 32 bits.
pub groups_fit : (ks : List Kind) (tree : Whole) → ks ≡ order (pattern tree) → alternatives_groups tree.1.1 ≤ most_groups → length (group_names ks) < 2 ^ 32
groups_fit ks tree is few =
    let e = ap (λ k. length (group_names k)) is ∙ ap length (names_of_order tree) ∙ names-length-each tree.1.1 ∙ sym (count-each tree.1.1) in
    omega arith

pub numbering_of : (what : Rewrites) (ks : List Kind) (tree : Whole) (result : Result GroupNumbers RewriteFault) → what.named_capture_groups ≡ true → ks ≡ order (pattern tree) → IsNumbering ks result → IsNumberingOf what tree result
numbering_of what ks tree (Ok numbers) asked is n =
    let m : IsNumbering (order (pattern tree)) (Ok numbers) = subst (λ k. IsNumbering k (Ok numbers)) is n in
    (λ asked bytes text. m.0.firsts bytes text ∙ ap (number_of (chars bytes)) (names_of_order tree), λ asked. m.1)
numbering_of what ks tree (Err (fault.NameUsedTwice first second)) asked is n = (asked, subst (λ k. IsNumbering k (Err (fault.NameUsedTwice first second))) is n)
numbering_of what ks tree (Err fault.OutOfMemory) asked is n = tt
