use Rattle.std.proofs.Common.{◌≡◌, ap, sym, ◌∙◌, suc, ◌-◌, ◌++◌, ◌∷◌, [], arith}
use Rattle.std.proofs.lemmas.Result.{on_ok_weaker}
use Rattle.rx_match.specs.declared.entry.Backtrack.TheVariants as backtrack
use Rattle.rx_match.specs.MachineSteps.{with_earlier}
use Rattle.rx_match.proofs.machine.Machine.leave_earlier.Goals as goal

pub returns-then-places-eq0 : goal.returns-then-places-eq0
returns-then-places-eq0 c = ap (λ e. with_earlier c.args.self.now c.args.places.place e c.args.step) (sym c.if-places-eq0.true)

pub returns : goal.returns
returns c =
    let m = c.args.self.now in
    let a = c.args in
    let p = a.places in
    let is : p.earlier ≡ suc (p.earlier - 1) = omega arith in
    on_ok_weaker c.push.result (λ pushed. ap (λ es. record m { entries = es }) pushed ∙ ap (λ n. record m { entries = m.entries ++ (backtrack.Choice (p.place - 1) (p.earlier - 1) a.step m.head n ∷ []) }) c.len-frames.ensures
    ∙ sym (ap (λ e. with_earlier m p.place e a.step) is)) c.push.ensures.ok
