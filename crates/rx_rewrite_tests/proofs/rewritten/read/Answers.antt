use Rattle.std.proofs.Common.{true, subst}
use Rattle.rx_model.specs.Trees.Early.{IsEarly}
use Rattle.rx_rewrite_tests.proofs.rewritten.read.Goals as goal

pub returns-in-Ok : goal.returns-in-Ok
returns-in-Ok c =
    let it = c.in-Ok.read in
    let options = c.default-options.result in
    subst (λ b. IsEarly (record { duplicate_names = b; buffer_boundaries = true }) it.0) c.default-options.ensures.duplicate_names
    (subst (λ b. IsEarly (record { duplicate_names = options.duplicate_names; buffer_boundaries = b }) it.0) c.default-options.ensures.buffer_boundaries
    c.in-Ok.ensures.headline.parsed.read.1.reads.early)
