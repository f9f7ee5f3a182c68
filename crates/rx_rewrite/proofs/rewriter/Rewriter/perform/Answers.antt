use Rattle.std.proofs.Common.{ap, subst, ◌∷◌}
use Rattle.std.proofs.lemmas.Result.{on_ok_weaker}
use Rattle.rx_rewrite.specs.declared.rewriter.Task.{Task}
use Rattle.rx_rewrite.specs.declared.rewriter.Task.TheVariants as task
use Rattle.rx_rewrite.specs.RewriterState.{work_of, works, IsReady}
use Rattle.rx_rewrite.proofs.Performing.{performs_is, ready_term}
use Rattle.rx_rewrite.proofs.rewriter.Rewriter.perform.Goals as goal

pub returns-in-Alternatives : goal.returns-in-Alternatives
returns-in-Alternatives c = on_ok_weaker c.alternatives.result (performs_is c.args.self.now c.alternatives.new.self (work_of c.args.task) (work_of (task.Alternatives c.in-Alternatives.settings c.in-Alternatives.alternatives)) (ap work_of c.in-Alternatives.is)) c.alternatives.ensures

pub returns-in-Terms : goal.returns-in-Terms
returns-in-Terms c = on_ok_weaker c.terms.result (performs_is c.args.self.now c.terms.new.self (work_of c.args.task) (work_of (task.Terms c.in-Terms.settings c.in-Terms.terms)) (ap work_of c.in-Terms.is)) c.terms.ensures

pub returns-in-Term : goal.returns-in-Term
returns-in-Term c = on_ok_weaker c.term.result (performs_is c.args.self.now c.term.new.self (work_of c.args.task) (work_of (task.Term c.in-Term.settings c.in-Term.term)) (ap work_of c.in-Term.is)) c.term.ensures

pub returns-in-EndAlternative : goal.returns-in-EndAlternative
returns-in-EndAlternative c = on_ok_weaker c.end_alternative.result (performs_is c.args.self.now c.end_alternative.new.self (work_of c.args.task) (work_of (task.EndAlternative c.in-EndAlternative.span c.in-EndAlternative.outer)) (ap work_of c.in-EndAlternative.is)) c.end_alternative.ensures

pub returns-in-EndGroup : goal.returns-in-EndGroup
returns-in-EndGroup c = on_ok_weaker c.end_group.result (performs_is c.args.self.now c.end_group.new.self (work_of c.args.task) (work_of (task.EndGroup c.in-EndGroup.span c.in-EndGroup.opener c.in-EndGroup.body c.in-EndGroup.outer)) (ap work_of c.in-EndGroup.is)) c.end_group.ensures

pub returns-in-EndQuantifier : goal.returns-in-EndQuantifier
returns-in-EndQuantifier c = on_ok_weaker c.end_quantifier.result (performs_is c.args.self.now c.end_quantifier.new.self (work_of c.args.task) (work_of (task.EndQuantifier c.in-EndQuantifier.quantifier)) (ap work_of c.in-EndQuantifier.is)) c.end_quantifier.ensures

pub end_quantifier-requires : goal.end_quantifier-requires
end_quantifier-requires c =
    let q = c.in-EndQuantifier.quantifier.now in
    ready_term c.args.self.now q.span q.min q.max q.greedy
    (subst (λ (t : Task). IsReady c.args.self.now (work_of t ∷ works c.args.self.now)) c.in-EndQuantifier.is c.requires)
