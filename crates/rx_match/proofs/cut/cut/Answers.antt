use Rattle.std.proofs.Common.{ap, sym, ◌∙◌, ◌++◌, [], ◌∷◌, subst}
use Rattle.rx_match.proofs.Cuts.{Fewer, fewer_choice, fewer_turn, fewer_restore, look_around_top, look_around_cut, none_top}
use Rattle.rx_match.proofs.cut.cut.Goals as goal

pub loop-entry-preserved-in-Choice : goal.loop-entry-preserved-in-Choice
loop-entry-preserved-in-Choice c =
    fewer_choice c.args.entries.now c.loop-entry.entries c.pop.new.self c.loop-entry.kept _ _ _ _ _ (c.in-Some.ensures ∙ ap (λ s. c.pop.new.self ++ (s ∷ [])) c.in-Choice.is) c.loop-entry.invariant

pub loop-entry-preserved-in-Turn : goal.loop-entry-preserved-in-Turn
loop-entry-preserved-in-Turn c =
    fewer_turn c.args.entries.now c.loop-entry.entries c.pop.new.self c.loop-entry.kept _ _ _ _ _ _ (c.in-Some.ensures ∙ ap (λ s. c.pop.new.self ++ (s ∷ [])) c.in-Turn.is) c.loop-entry.invariant

pub loop-entry-preserved : goal.loop-entry-preserved
loop-entry-preserved c =
    fewer_restore c.args.entries.now c.loop-entry.entries c.pop.new.self c.loop-entry.kept c.push.new.self _ _ _ _ (c.in-Some.ensures ∙ ap (λ s. c.pop.new.self ++ (s ∷ [])) c.in-RestoreSlot.is)
    (c.in_ok-push-in-RestoreSlot.ensures.ok ∙ ap (λ s. c.loop-entry.kept ++ (s ∷ [])) c.in-RestoreSlot.is) c.loop-entry.invariant

pub returns-in-LookAround-clause-top : goal.returns-in-LookAround-clause-top
returns-in-LookAround-clause-top c =
    sym (look_around_top c.args.entries.now c.loop-entry.entries c.pop.new.self c.loop-entry.kept _ _ _ _ _ _ (c.in-Some.ensures ∙ ap (λ s. c.pop.new.self ++ (s ∷ [])) c.in-LookAround.is) c.loop-entry.invariant)

pub returns-in-LookAround-clause-left : goal.returns-in-LookAround-clause-left
returns-in-LookAround-clause-left c = λ is.
    look_around_cut c.args.entries.now c.loop-entry.entries c.pop.new.self c.loop-entry.kept c.put_back.new.entries _ _ _ _ _ _ (c.in-Some.ensures ∙ ap (λ s. c.pop.new.self ++ (s ∷ [])) c.in-LookAround.is) c.loop-entry.invariant
    c.in_ok-put_back-in-LookAround.ensures

pub returns-clause-top : goal.returns-clause-top
returns-clause-top c = sym (none_top c.args.entries.now c.loop-entry.kept (subst (λ e. Fewer c.args.entries.now e c.loop-entry.kept) c.in_default.ensures.0 c.loop-entry.invariant))
