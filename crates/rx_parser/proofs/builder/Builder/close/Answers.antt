use Rattle.std.proofs.Common.{ap, ◌∙◌, sym, subst, ◌++◌}
use Rattle.rx_parser.proofs.Common.{Span, Node, group, mirror_disjunction, term_events, opener_of, opener_tree, IsGoodLevel, level_events}
use Rattle.rx_parser.proofs.EventEquations.{last_after}
use Rattle.rx_parser.proofs.FrameEvents.{builder_close, group_takes_is, opened_after}
use Rattle.rx_parser.proofs.Goods.{good_close, good_group}
use Rattle.rx_parser.proofs.builder.Builder.close.Goals as goal

pub returns-clause-events : goal.returns-clause-events
returns-clause-events c =
    let body = c.in_ok-body.body in
    let frame = c.in-Some.frame in
    let made : Span → Node = λ s. group s (opener_tree frame.group_kind) (mirror_disjunction body).0 (mirror_disjunction body).1 in
    λ _. builder_close c.args.self.now c.pop.new.self frame body c.in_ok-term.term c.push.new.self c.args.at c.args.after c.in-Some.ensures
    (rw c.replace-inner.ensures.value at c.in_ok-body.ensures.events)
    (c.in_ok-term.ensures ∙ ap made c.new.ensures)
    (c.in_ok-push.ensures.events ∙ ap (λ l. level_events l ++ term_events c.in_ok-term.term) c.replace-inner.ensures.after)

pub returns-clause-openers : goal.returns-clause-openers
returns-clause-openers c =
    let mode = c.args.self.now.mode in
    let opener = opener_tree c.in-Some.frame.group_kind in
    λ _. (
      opener_of opener,
      opened_after c.pop.new.self c.args.self.now.frames c.in-Some.frame c.in-Some.ensures,
      last_after mode c.replace-inner.new.dest.terms c.push.new.self.terms c.in_ok-term.term _ c.in_ok-push.ensures.terms
          (group_takes_is mode c.in_ok-term.term c.new.result opener c.in_ok-body.body c.in_ok-term.ensures),
    )

pub returns-clause-good : goal.returns-clause-good
returns-clause-good c =
    let mode = c.args.self.now.mode in
    let term = c.in_ok-term.term in
    λ _. good_close c.args.self.now c.pop.new.self c.in-Some.frame c.push.new.self c.in-Some.ensures
    (λ inner outer. c.in_ok-push.ensures.good mode (subst (IsGoodLevel mode) (sym c.replace-inner.ensures.after) outer)
    (good_group mode term c.new.result (opener_tree c.in-Some.frame.group_kind) c.in_ok-body.body c.in_ok-term.ensures
    (c.in_ok-body.ensures.good mode (subst (IsGoodLevel mode) (sym c.replace-inner.ensures.value) inner))))
