use Rattle.std.proofs.Common.{ap, ◌∙◌, drop, rules, subst}
use Rattle.rx_model.specs.Refusals.Reached.{HasNoClash}
use Rattle.rx_scan.proofs.state.State.initialize_with_parsing_counted.Goals as goal

pub returns-in-Ok-clause-counted : goal.returns-in-Ok-clause-counted
returns-in-Ok-clause-counted g c =
    let reader = c.args.reader.now in
    let all = c.ahead-units.ensures.units ∙ ap (λ place. drop place reader.units) c.requires.start in
    record {
      unicode_mode = search rules;
      unicode_sets_mode = search rules;
      duplicate_names = search rules;
      groups = search rules;
      names = search rules;
      named = search rules;
      apart = subst (λ mode. HasNoClash mode c.args.self.now.duplicate_names reader.units) c.mode.ensures (subst (HasNoClash c.mode.result c.args.self.now.duplicate_names) all c.in-Ok.ensures.clean);
      refused = tt;
      unchanged = tt;
    }
