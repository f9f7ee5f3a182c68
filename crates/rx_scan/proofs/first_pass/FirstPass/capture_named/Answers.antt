use Rattle.std.proofs.Common.{refl, ap, ◌∙◌, option_map}
use Rattle.rx_scan.specs.FirstPass.{entries, first_clash, parts_of, span_of, with_name}
use Rattle.rx_scan.proofs.Passes.{clash_not}
use Rattle.rx_scan.proofs.Captures.{added}
use Rattle.rx_scan.proofs.first_pass.FirstPass.capture_named.Goals as goal

pub returns-clause-ok : goal.returns-clause-ok
returns-clause-ok c =
    let old = c.args.self.now in
    let opening = c.args.opening in
    added old c.add_name.new.self _ opening c.as_str-3.result.now
    (record {
      renamed = c.in_ok-add_name.ensures ∙ ap (λ name. record old { names = with_name old.names name }) c.as_str-2.ensures;
      mode_is = refl;
      rule_is = refl;
      counted = refl;
      named_by = refl;
      opened = c.in_ok-open.ensures;
      listed_are = c.in_ok-push.ensures.ok;
      sets = c.in_ok-set.ensures;
      text = c.as_str-3.utf8;
      spells = c.as_str-3.ensures;
    })
    c.requires.knows
    (clash_not (parts_of old) opening.name (entries old) (c.in_default.ensures ∙ ap (λ name. option_map span_of (first_clash (parts_of old) name (entries old))) c.as_str.ensures))
