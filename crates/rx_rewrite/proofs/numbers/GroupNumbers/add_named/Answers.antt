use Rattle.std.proofs.Common.{◌≡◌, None, sym}
use Rattle.std.specs.BTreeMap.{get_by_text}
use Rattle.rx_rewrite.proofs.GroupNumbers.{not_used, tells_named}
use Rattle.rx_rewrite.proofs.numbers.GroupNumbers.add_named.Goals as goal

pub returns : goal.returns
returns c = λ names named told.
    let old = c.args.self.now in
    let key = c.as_str-text.result.now in
    let absent : get_by_text old.groups key ≡ None = sym c.in_default.ensures.value in (
      tells_named names named old key c.args.name.now c.args.span told c.as_str-text.utf8 c.as_str-text.ensures c.insert.new.self c.in_ok-insert.ensures absent,
      not_used names named old key c.args.name.now c.args.span told c.as_str-text.utf8 c.as_str-text.ensures c.insert.new.self c.in_ok-insert.ensures absent,
    )
