use Rattle.std.proofs.Common.{subst, sym, ◌∙◌}
use Rattle.rx_class.proofs.Common.{IfOk-weaker, IsLone}
use Rattle.rx_class.proofs.PropertyReading.Halts.{known_run, run_unclosed, run_unknown}
use Rattle.rx_class.proofs.PropertyReading.Steps.{closes_it}
use Rattle.rx_class.proofs.properties.found.word_found.Goals as goal

pub returns-then-not-is_known-clause-found : goal.returns-then-not-is_known-clause-found
returns-then-not-is_known-clause-found c = λ w following r more ends.
    let named = subst (λ word. IsLone word c.lone_word-lone.result) c.as_str.ensures c.lone_word-lone.ensures in
    rw c.unknown.ensures (run_unknown c.args.mode c.requires.unicode c.args.negative w c.args.word following r c.args.count c.requires.count c.lone_word-lone.result named c.requires.some more (sym c.is_known.ensures ∙ c.if-not-is_known.true))

pub returns-then-not-ends-clause-found : goal.returns-then-not-ends-clause-found
returns-then-not-ends-clause-found c = λ w following r more ends.
    let named = subst (λ word. IsLone word c.lone_word-lone.result) c.as_str.ensures c.lone_word-lone.ensures in
    let known = known_run c.args.mode c.args.word c.lone_word-lone.result named (sym c.is_known.ensures ∙ c.if-not-is_known.false) in
    rw c.unterminated.ensures (run_unclosed c.args.mode c.requires.unicode c.args.negative w c.args.word following r c.args.count c.requires.count known more (sym ends ∙ c.if-not-ends.true))

pub returns-clause-found : goal.returns-clause-found
returns-clause-found c =
    IfOk-weaker c.known_found.result _ _ (λ found h w following r more ends. h c.args.mode w following c.requires.unicode (sym c.is_known.ensures ∙ c.if-not-is_known.false) r (sym ends ∙ c.if-not-ends.false)) c.known_found.ensures.found

pub returns-clause-closed : goal.returns-clause-closed
returns-clause-closed c = closes_it _ c.known_found.result c.if-not-ends.false c.known_found.ensures.length
