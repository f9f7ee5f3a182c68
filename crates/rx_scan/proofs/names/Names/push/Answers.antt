use Rattle.std.proofs.Common.{◌≡◌, [], ◌∷◌, ◌++◌, subst, sym, ap, ◌∙◌, true, string_bytes}
use Rattle.std.specs.Str.{IsUtf8, chars}
use Rattle.std.proofs.lemmas.Map.Text.{btree_set_updates_text}
use Rattle.std.proofs.lemmas.Result.{IfOk-at_ok, IfOk-from_err}
use Rattle.rx_scan.specs.KnownNames.{KnowsAll}
use Rattle.rx_scan.proofs.KnownNames.{known_more}
use Rattle.rx_scan.proofs.names.Names.push.Goals.{in-Ok, in-Err}
use Rattle.rx_scan.proofs.names.Names.push.Goals as goal

pub invariant_of-self-in-Ok : goal.invariant_of-self-in-Ok
invariant_of-self-in-Ok c =
    let key = string_bytes c.in_ok-key.key in
    let key_is = IfOk-at_ok (λ s. string_bytes s ≡ c.as_str.result.now) c.in_ok-key.was c.from_str.ensures.ok in
    let sets = btree_set_updates_text key c.self.inside.known c.insert.new.self true c.in-Ok.ensures.updates in
    subst (λ names. KnowsAll names c.insert.new.self) (sym c.in_ok-push.ensures.ok)
    (known_more c.self.inside.list c.self.inside.known c.insert.new.self key _ c.self.invariant sets (subst IsUtf8 (sym key_is) c.as_str.utf8) (ap chars key_is ∙ c.as_str.ensures))

pub invariant_of-self : goal.invariant_of-self
invariant_of-self c = subst (λ names. KnowsAll names c.self.inside.known) (sym c.in_err-push.ensures.err) c.self.invariant

pub returns-clause-ok : goal.returns-clause-ok
returns-clause-ok c = elim c.match-insert.branch [
  | in-Ok w ↦ rw w.result-is (w.self-is ∙ c.in_ok-push.ensures.ok ∙ ap (λ names. names ++ c.args.name ∷ []) c.self.view_is)
  | in-Err w ↦ rw w.result-is tt
]

pub returns-in_err-key-clause-ok : goal.returns-in_err-key-clause-ok
returns-in_err-key-clause-ok c = IfOk-from_err c.from_residual.result _ c.from_residual.ensures.0

pub returns-in_err-push-clause-ok : goal.returns-in_err-push-clause-ok
returns-in_err-push-clause-ok c = IfOk-from_err c.from_residual-in_err-push.result _ c.from_residual-in_err-push.ensures.0
