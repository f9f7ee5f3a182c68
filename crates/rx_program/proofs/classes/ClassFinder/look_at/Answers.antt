use Rattle.std.proofs.Common.{sym, subst}
use Rattle.std.proofs.lemmas.Result.{on_ok_weaker}
use Rattle.rx_program.specs.declared.classes.Unseen.{Unseen}
use Rattle.rx_program.specs.ClassesFound.{Finds, unseen_tests, unseen_weight}
use Rattle.rx_program.proofs.classes.ClassFinder.look_at.Goals as goal

pub returns-in-Alternatives : goal.returns-in-Alternatives
returns-in-Alternatives c = on_ok_weaker c.alternatives.result (subst (λ (u : Unseen). Finds c.args.self.now (unseen_tests u) (unseen_weight u) c.alternatives.new.self) (sym c.in-Alternatives.is)) c.alternatives.ensures

pub returns-in-Terms : goal.returns-in-Terms
returns-in-Terms c = on_ok_weaker c.terms.result (subst (λ (u : Unseen). Finds c.args.self.now (unseen_tests u) (unseen_weight u) c.terms.new.self) (sym c.in-Terms.is)) c.terms.ensures

pub returns-in-Term : goal.returns-in-Term
returns-in-Term c = on_ok_weaker c.term.result (subst (λ (u : Unseen). Finds c.args.self.now (unseen_tests u) (unseen_weight u) c.term.new.self) (sym c.in-Term.is)) c.term.ensures
