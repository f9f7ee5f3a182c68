-- The span of any node.
use Rattle.std.proofs.Common.{◌≡◌, refl}
use Rattle.rx_ast.specs.declared.ast_kind.RegExpAstKind.{RegExpAstKind}
use Rattle.rx_ast.specs.contracts.ast_kind.RegExpAstKindGetSpan.TheImpl as of_kind
use Rattle.rx_ast.specs.Kinds.{kind_span}
use Rattle.rx_ast.specs.MirrorKinds.{mirror_kind}
use Rattle.rx_ast.proofs.Spans.{spans}

pub place_of_kind : (k : RegExpAstKind) → of_kind.ghosts.place k ≡ kind_span (mirror_kind k)
place_of_kind k = refl

pub ruleset kind_spans = (spans, place_of_kind)
