use Rattle.std.proofs.Common.{◌∙◌, ◌+◌, ap, sym, ℕ, List, ◌∷◌, ◌++◌, drop, map, arith}
use Rattle.std.proofs.lemmas.List.{at_drop_all, at_drop_more}
use Rattle.json.specs.Token.{Token}
use Rattle.rx_base.specs.declared.span.Span.{Span}
use Rattle.rx_ast.specs.declared.ast_kind.RegExpAstKind.{RegExpAstKind}
use Rattle.rx_ast.specs.MirrorKinds.{mirror_kind}
use Rattle.rx_json.specs.Groups.{group_of, groups_of}
use Rattle.rx_json.specs.Located.{located}
use Rattle.rx_json.specs.Values.{Field, value_tokens}
use Rattle.rx_json.proofs.GroupsTold.{first_group, next_is_small}
use Rattle.rx_json.proofs.Parts.{front_all, front_more, front_none}
use Rattle.rx_json.proofs.groups.write_each_group.Goals as goal

abbrev left : (Span → List Field) → ℕ → List RegExpAstKind → List Token
left place n nodes = value_tokens (groups_of place n (map mirror_kind nodes))

pub loop-node-init : goal.loop-node-init
loop-node-init c = record { written = front_none c.args.writer.now (left (located c.args.places.now) 1 c.args.nodes.now); few = omega arith }

pub loop-node-preserved : goal.loop-node-preserved
loop-node-preserved c =
    let place = located c.args.places.now in
    let nodes = c.args.nodes.now in
    let i = c.loop-node.node-index in
    let n = c.loop-node.number in
    let node = c.node-item.result in
    let k = mirror_kind node in
    let next = c.in_ok-number.ensures.next in
    record {
      written = front_more (value_tokens (group_of place n k)) _
          (at_drop_more (left place n) nodes i node c.loop-node-test.true ∙ ap (λ (x : RegExpAstKind). left place n (x ∷ drop (i + 1) nodes)) (sym c.node-item.is)
          ∙ first_group place n k (map mirror_kind (drop (i + 1) nodes)) ∙ ap (λ (m : ℕ). value_tokens (group_of place n k) ++ left place m (drop (i + 1) nodes)) (sym next))
          c.in_ok-number.ensures.group c.loop-node.invariant.written;
      few = omega (arith, next, next_is_small n (i + 1) k c.loop-node.invariant.few);
    }

pub returns : goal.returns
returns c = front_all (at_drop_all (left (located c.args.places.now) c.loop-node.number) c.args.nodes.now c.loop-node.node-index c.loop-node-test.false) c.loop-node.invariant.written
