use Rattle.std.proofs.Common.{ap, sym, ◌∙◌}
use Rattle.rx_ast.specs.MirrorKinds.{mirror_kind}
use Rattle.rx_kinds.specs.Inner.{node_of}
use Rattle.rx_kinds.proofs.Characters.{item_is_none, term_is_none}
use Rattle.rx_kinds.proofs.nodes.character_in.Goals as goal

pub returns-in_default-term : goal.returns-in_default-term
returns-in_default-term c =
    λ it is. term_is_none c.in-Term.term.now c.in_default-term.not-Character it (sym (ap (λ node. node_of (mirror_kind node)) c.in-Term.is) ∙ is)

pub returns-in_default-contents : goal.returns-in_default-contents
returns-in_default-contents c =
    λ it is. item_is_none c.in-CharacterClassContents.contents.now c.in_default-contents.not-Character it (sym (ap (λ node. node_of (mirror_kind node)) c.in-CharacterClassContents.is) ∙ is)
