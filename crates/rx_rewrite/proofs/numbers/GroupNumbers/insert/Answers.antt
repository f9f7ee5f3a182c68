use Rattle.std.proofs.Common.{refl, Some, if◌then◌else◌, ap, ◌∙◌, ◌+◌}
use Rattle.std.specs.BTreeMap.{get_by_text}
use Rattle.std.specs.Str.{bytes_eq}
use Rattle.std.specs.String.{string_bytes}
use Rattle.std.proofs.lemmas.Map.Text.{btree_map_updates_text}
use Rattle.rx_rewrite.specs.declared.numbers.NumberedGroup.{NumberedGroup}
use Rattle.rx_rewrite.proofs.numbers.GroupNumbers.insert.Goals as goal

pub returns : goal.returns
returns c =
    let old = c.args.self.now in
    let group : NumberedGroup = record { number = old.count + 1; span = c.args.span } in
    record {
      count = refl;
      groups = λ bytes.
          btree_map_updates_text (string_bytes c.in_ok-name.name) old.groups c.insert.new.self (Some group) c.in_ok-insert.ensures.updates bytes
          ∙ ap (λ key. if bytes_eq key bytes then Some group else get_by_text old.groups bytes) c.in_ok-name.ensures.ok;
    }
