use Rattle.std.proofs.Common.{rules, tests, ◌∙◌}
use Rattle.std.proofs.lemmas.Iterator.{YieldsList-from_slice}
use Rattle.std.proofs.lemmas.Iterator.Search.{any_from_yields_List}
use Rattle.rx_ast.specs.MirrorKinds.{mirror_kind}
use Rattle.rx_visit.specs.Names.{is_refused_alone}
use Rattle.rx_visit.proofs.Alone.{any_mapped}
use Rattle.rx_visit.proofs.patterns_in.has_refused_alone.Goals as goal

pub returns : goal.returns
returns c =
    let refused = is_refused_alone c.args.unsupported.now in
    any_from_yields_List (λ node. refused (mirror_kind node)) _ _ _ c.any.ensures.ran (YieldsList-from_slice c.args.nodes.now cc) (λ x b q k. search (rules, tests)) ∙ any_mapped refused mirror_kind c.args.nodes.now
