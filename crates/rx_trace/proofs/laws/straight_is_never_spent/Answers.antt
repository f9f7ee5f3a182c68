use Rattle.std.proofs.Common.{false, arith}
use Rattle.std.specs.Prelude.{replicate}
use Rattle.rx_trace.specs.declared.answer.Slot.TheVariants.{Unset}
use Rattle.rx_trace.specs.Groups.{groups_in_each, names_in_each}
use Rattle.rx_trace.specs.Straight.{terms_in_each}
use Rattle.rx_trace.specs.Answers.{settings, pattern_trace}
use Rattle.rx_trace.proofs.Straight.{short-cost, straight-one}
use Rattle.rx_trace.proofs.laws.straight_is_never_spent.Goals as goal

pub returns : goal.returns
returns c = λ flags tree input start budget straight enough answer.
    let t = pattern_trace flags tree input start in
    let few = short-cost (terms_in_each tree.1.1) t (straight-one input (names_in_each tree.1.1) tree.1.1 (settings flags) Rattle.std.proofs.Common.false 0 (record { place = start; slots = replicate (groups_in_each tree.1.1) Unset }) straight) in
    let many = answer.2 in
    omega arith
