use Rattle.std.proofs.Common.{◌∙◌, sym, ap, Bool, ◌||◌}
use Rattle.rx_json_reply.proofs.Asking.{or_false, unnamed}
use Rattle.rx_json_reply.proofs.want.Want.insert_feature.Goals as goal

pub returns-in_default-clause-unsupported : goal.returns-in_default-clause-unsupported
returns-in_default-clause-unsupported c =
    sym (ap (λ (b : Bool). c.args.self.now.unsupported || b) (unnamed c.args.name.now c.in_default.ensures) ∙ or_false c.args.self.now.unsupported)
