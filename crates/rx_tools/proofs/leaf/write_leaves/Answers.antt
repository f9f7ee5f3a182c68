use Rattle.std.proofs.Common.{◌≡◌, refl, ap, sym, ◌∙◌, ◌++◌, arith, [], map}
use Rattle.rx_ast.specs.Size.{terms_size}
use Rattle.rx_ast.specs.Tree.{nodes, mirror_term}
use Rattle.rx_base.specs.declared.ends.Failed.{Failed}
use Rattle.rx_model.specs.Spelling.Spelling.{refers, node_text, nodes_text}
use Rattle.rx_tools.specs.Leaves.{rest_text}
use Rattle.rx_tools.proofs.Leaves.{fails_front, front_none, front_then, front_written, front_fails, front_rest, unless_wrote, unless_not}
use Rattle.rx_tools.proofs.Pieces.{same_text, text_stop, failed_from}
use Rattle.rx_ast.proofs.Sizes.{term_positive}
use Rattle.rx_ast.proofs.TermShown.{terms_cons}
use Rattle.rx_tools.proofs.leaf.write_leaves.Goals as goal

pub loop-left-init : goal.loop-left-init
loop-left-init g c = record { written = front_none _ _ _ _ _ _; smaller = omega arith }

pub returns-in_err-left-clause-written : goal.returns-in_err-left-clause-written
returns-in_err-left-clause-written g c =
    let failed = failed_from _ _ c.from_residual.ensures.1 in
    front_fails (front_rest c.loop-left.invariant.written (fails_front c.in_err-left.ensures.written failed)) failed

pub returns-in_default-clause-written : goal.returns-in_default-clause-written
returns-in_default-clause-written g c = front_then c.loop-left.invariant.written c.in_ok-left.ensures.written

pub returns-in_err-write_if_leaf-clause-written : goal.returns-in_err-write_if_leaf-clause-written
returns-in_err-write_if_leaf-clause-written g c =
    let left = c.in_ok-left.left in
    let first = mirror_term c.in-Some.first.now in
    let after = nodes_text c.args.mode (refers first) (nodes (map mirror_term c.in-Some.terms.now)) in
    let cut : rest_text c.args.mode left ≡ node_text c.args.mode left.after_reference first ++ after = rw c.in-Some.ensures.cases.0 refl in
    let failed = failed_from _ _ c.from_residual-in_err-write_if_leaf.ensures.1 in
    front_fails (front_rest (front_then c.loop-left.invariant.written c.in_ok-left.ensures.written) (same_text cut (text_stop _ after c.in_err-write_if_leaf.ensures failed))) failed

pub returns-then-not-branch-clause-written : goal.returns-then-not-branch-clause-written
returns-then-not-branch-clause-written g c =
    let nothing = same_text (sym (unless_not Failed c.in_ok-write_if_leaf.field-0 _ c.if-not-branch.true)) c.in_ok-write_if_leaf.ensures in
    front_then (front_then c.loop-left.invariant.written c.in_ok-left.ensures.written) (front_written c.in_ok-left.left [] nothing refl)

pub loop-left-preserved : goal.loop-left-preserved
loop-left-preserved g c =
    let left = c.in_ok-left.left in
    let first = node_text c.args.mode left.after_reference (mirror_term c.in-Some.first.now) in
    let cut : rest_text c.args.mode left ≡ first ++ rest_text c.args.mode (record { after_reference = c.refers.result; terms = c.in-Some.terms }) = rw (c.in-Some.ensures.cases.0, c.refers.ensures) refl in
    let wrote = same_text (sym (unless_wrote Failed c.in_ok-write_if_leaf.field-0 first c.if-not-branch.false)) c.in_ok-write_if_leaf.ensures in
    record {
      written = front_then (front_then c.loop-left.invariant.written c.in_ok-left.ensures.written) (front_written _ first wrote cut);
      smaller = omega (arith, c.loop-left.invariant.smaller, c.in_ok-left.ensures.smaller, ap terms_size c.in-Some.ensures.cases.0 ∙ terms_cons c.in-Some.first.now c.in-Some.terms.now);
    }

pub loop-left-smaller : goal.loop-left-smaller
loop-left-smaller g c =
    omega (arith, c.in_ok-left.ensures.smaller, term_positive c.in-Some.first.now, ap terms_size c.in-Some.ensures.cases.0 ∙ terms_cons c.in-Some.first.now c.in-Some.terms.now)
