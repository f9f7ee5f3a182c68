use Rattle.std.proofs.Common.{ap, sym, ◌∙◌, ◌-◌, arith}
use Rattle.std.specs.Option.{option_copied}
use Rattle.rx_match.proofs.slots.restores.Goals as goal

pub returns-in-Some : goal.returns-in-Some
returns-in-Some c = λ same.
    let size = c.len-len.ensures in
    let rows = c.last_row-row.ensures in
    let some = c.if-count-eq0.false in
    let within = c.if-count-len.false in
    let few = c.if-len-count.false in
    record {
      at = c.args.count - 1;
      entry = c.in-Some.entry.now;
      is = sym c.get.ensures.value ∙ ap option_copied c.in-Some.is;
      restores = sym c.is_of_slot.ensures ∙ same;
      last = omega arith;
    }
