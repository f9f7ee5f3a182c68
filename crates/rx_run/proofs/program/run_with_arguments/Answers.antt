-- The run with the words, or the end where they could not be taken.
use Rattle.std.proofs.Common.{◌≡◌, refl, sym, ap, subst, ℕ, List, Option, IfSome, ◌⊎◌, inl, inr, Err}
use Rattle.rx_run.specs.declared.run.Status.{Status}
use Rattle.rx_run.specs.declared.run.Status.TheVariants.{Usage, OutOfMemory}
use Rattle.rx_run.specs.Arguments.{AreWords, HasNoText}
use Rattle.rx_run.specs.Program.{IsProgram, ran, no_text, no_memory}
use Rattle.rx_run.proofs.program.run_with_arguments.Goals as goal

no_words : (given : Option (List (List ℕ))) (runs : List (List ℕ) → Status → Type 0) (untouched : Type 0) (status : Status)
    → (status ≡ Usage → IfSome given HasNoText) → (status ≡ Usage) ⊎ (status ≡ OutOfMemory) → untouched → IsProgram given runs untouched status
no_words given runs untouched status text (inl e) same = subst (IsProgram given runs untouched) (sym e) (no_text (text e) same)
no_words given runs untouched status text (inr e) same = subst (IsProgram given runs untouched) (sym e) (no_memory same)

pub returns-in-Ok : goal.returns-in-Ok
returns-in-Ok g c = ran c.as_slice.result.now c.run.result
    (subst (λ words. IfSome (g.A.Arguments.given c.args.arguments.now) (λ all. AreWords all words)) (sym c.as_slice.ensures) c.in-Ok.ensures.ok)
    (record {
      content = c.run.ensures.content;
      end = c.run.ensures.end;
      json = c.run.ensures.json;
      json_end = c.run.ensures.json_end;
      no_limit = c.run.ensures.no_limit;
      generated = c.run.ensures.generated;
      printed = c.run.ensures.printed;
      usage = c.run.ensures.usage;
      untouched = c.run.ensures.untouched;
      faults = c.run.ensures.faults;
      too_much = c.run.ensures.too_much;
    })

pub returns-in-Err : goal.returns-in-Err
returns-in-Err g c = no_words _ _ _ _ (λ e. c.in-Err.ensures.usage (ap Err e)) c.in-Err.ensures.err (refl, refl)
