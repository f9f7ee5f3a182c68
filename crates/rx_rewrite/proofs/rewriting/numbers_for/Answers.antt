use Rattle.std.proofs.Common.{rules, ap, ◌∙◌, map}
use Rattle.rx_ast.specs.MirrorKinds.{mirror_kind}
use Rattle.rx_ast.specs.Tree.{mirror}
use Rattle.rx_rewrite.proofs.Answering.{groups_fit, numbering_of}
use Rattle.rx_rewrite.proofs.rewriting.numbers_for.Goals as goal

pub of-requires : goal.of-requires
of-requires c = groups_fit (map mirror_kind c.as_slice.result.now) (mirror c.args.pattern.now) (ap (map mirror_kind) c.as_slice.ensures ∙ c.in_ok-nodes.ensures) c.requires

pub returns : goal.returns
returns c =
    numbering_of c.args.what (map mirror_kind c.as_slice.result.now) (mirror c.args.pattern.now) c.of.result (search (rules, c.if-not-what.false)) (ap (map mirror_kind) c.as_slice.ensures ∙ c.in_ok-nodes.ensures) c.of.ensures
