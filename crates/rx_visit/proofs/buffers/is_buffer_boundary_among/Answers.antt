use Rattle.std.proofs.Common.{rules, tests, ◌∙◌}
use Rattle.std.proofs.lemmas.Iterator.{YieldsList-from_slice}
use Rattle.std.proofs.lemmas.Iterator.Search.{any_from_yields_List}
use Rattle.rx_ast.specs.MirrorKinds.{mirror_kind}
use Rattle.rx_visit.specs.Buffers.{is_buffer_boundary}
use Rattle.rx_visit.proofs.Alone.{any_mapped}
use Rattle.rx_visit.proofs.buffers.is_buffer_boundary_among.Goals as goal

pub returns : goal.returns
returns c =
    any_from_yields_List (λ node. is_buffer_boundary (mirror_kind node)) _ _ _ c.any.ensures.ran (YieldsList-from_slice c.args.nodes.now cc) (λ x b q k. search (rules, tests)) ∙ any_mapped is_buffer_boundary mirror_kind c.args.nodes.now
