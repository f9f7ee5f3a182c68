-- From a program's trace to the answer of a pattern.
use Rattle.std.proofs.Common.{◌≡◌, refl, ap, sym, ◌∙◌, subst, ℕ, zero, suc, ◌+◌, ◌≤◌, ◌<◌, false, Option, Some, None, Result, Ok, Err, List, ◌++◌, length, arith}
use Rattle.std.specs.Prelude.{replicate}
use Rattle.rx_ast.specs.Tree.{Whole}
use Rattle.rx_trace.specs.declared.answer.Found.{Found}
use Rattle.rx_trace.specs.declared.answer.MatchFlags.{MatchFlags}
use Rattle.rx_trace.specs.declared.answer.MatchFault.{MatchFault}
use Rattle.rx_trace.specs.declared.answer.MatchFault.TheVariants as fault
use Rattle.rx_trace.specs.declared.answer.Slot.TheVariants.{Unset}
use Rattle.rx_match.specs.declared.searching.Outcome.{Outcome}
use Rattle.rx_program.specs.declared.step.Step.{Step}
use Rattle.rx_trace.specs.Traces.{Trace, cost, first}
use Rattle.rx_trace.specs.Groups.{Names, names_in_each}
use Rattle.rx_program.specs.Codes.{accept}
use Rattle.rx_program.specs.Compiled.{each_code}
use Rattle.rx_program.specs.Steps.{code_at}
use Rattle.rx_trace.specs.Matching.{alternatives_trace}
use Rattle.rx_match.specs.Programs.{trace_of, IsOutcome, IsOutcomeOf}
use Rattle.rx_trace.specs.Supported.{unsupported_in}
use Rattle.rx_trace.specs.Answers.{settings, pattern_trace, each_trace, place_of, begins_at, IsFirstOutcome, IsAnswer, IsTickCount}
use Rattle.rx_match.proofs.Compiling.{trace_is}
use Rattle.rx_trace.proofs.GroupNames.{names-length-each}

module _ (f g : ℕ → Trace) (same : (p : ℕ) → f p ≡ g p) where
  each-same : (more p : ℕ) → each_trace f more p ≡ each_trace g more p
  each-same zero p = same p
  each-same (suc more) p = ap (λ t. t ++ each_trace f more (p + 1)) (same p) ∙ ap (λ t. g p ++ t) (each-same more (p + 1))

  begins-same : (more p : ℕ) → begins_at f more p ≡ begins_at g more p
  begins-same zero p = refl
  begins-same (suc more) p = ap (λ t. place_of (first t) p (begins_at f more (p + 1))) (same p) ∙ ap (place_of (first (g p)) p) (begins-same more (p + 1))

  found_same : (more start budget : ℕ) (r : Result (Option Found) MatchFault) → IsFirstOutcome f more start budget r → IsFirstOutcome g more start budget r
  found_same more start budget (Ok None) found = (sym (ap first (each-same more start)) ∙ found.0, subst (λ t. cost t ≤ budget) (each-same more start) found.1)
  found_same more start budget (Ok (Some it)) found =
      (sym (ap first (each-same more start)) ∙ found.0, found.1 ∙ begins-same more start, subst (λ t. cost t ≤ budget) (each-same more start) found.2)
  found_same more start budget (Err fault.Spent) found = subst (λ t. budget < cost t) (each-same more start) found
  found_same more start budget (Err fault.OutOfMemory) found = tt
  found_same more start budget (Err fault.IgnoreCase) found = found
  found_same more start budget (Err (fault.Unsupported span)) found = found

  pub outcome_same : (more start budget : ℕ) (r : Result Outcome MatchFault) → IsOutcome f more start budget r → IsOutcome g more start budget r
  outcome_same more start budget (Ok it) found = (found_same more start budget (Ok it.found) found.0, found.1 ∙ ap cost (each-same more start))
  outcome_same more start budget (Err e) found = found_same more start budget (Err e) found

-- the trace of a program with the code of a pattern
pub program_trace : (flags : MatchFlags) (tree : Whole) (input : List ℕ) (names : Names) (program : List Step) (entry groups : ℕ) → names ≡ names_in_each tree.1.1 → groups ≡ length names
    → code_at program entry ≡ each_code names tree.1.1 (settings flags) false 0 accept → (p : ℕ) → trace_of input program entry groups p ≡ pattern_trace flags tree input p
program_trace flags tree input names program entry groups named counted coded p =
    trace_is input names program entry groups p tree.1.1 (settings flags) coded
    ∙ ap (λ ns. alternatives_trace input ns tree.1.1 (settings flags) false 0 (record { place = p; slots = replicate groups Unset })) named
    ∙ ap (λ k. alternatives_trace input (names_in_each tree.1.1) tree.1.1 (settings flags) false 0 (record { place = p; slots = replicate k Unset })) (counted ∙ ap length named ∙ names-length-each tree.1.1)

answered : (flags : MatchFlags) (tree : Whole) (input : List ℕ) (more start budget : ℕ) (r : Result (Option Found) MatchFault) → flags.ignore_case ≡ false → unsupported_in tree ≡ None → IsFirstOutcome (pattern_trace flags tree input) more start budget r
    → IsAnswer flags tree input more start budget r
answered flags tree input more start budget (Ok answer) cased supported found = (cased, supported, found)
answered flags tree input more start budget (Err fault.Spent) cased supported found = (cased, supported, found)
answered flags tree input more start budget (Err fault.OutOfMemory) cased supported found = tt
answered flags tree input more start budget (Err fault.IgnoreCase) cased supported found = absurd found
answered flags tree input more start budget (Err (fault.Unsupported span)) cased supported found = absurd found

pub outcome_answered : (flags : MatchFlags) (tree : Whole) (input : List ℕ) (more start budget : ℕ) (r : Result Outcome MatchFault) → flags.ignore_case ≡ false → unsupported_in tree ≡ None → IsOutcome (pattern_trace flags tree input) more start budget r
    → IsOutcomeOf flags tree input more start budget r
outcome_answered flags tree input more start budget (Ok it) cased supported found = (answered flags tree input more start budget (Ok it.found) cased supported found.0, found.1)
outcome_answered flags tree input more start budget (Err e) cased supported found = answered flags tree input more start budget (Err e) cased supported found

-- a search that came to its end took no more Ticks than it was given
within_budget : (from : ℕ → Trace) (more start budget ticks : ℕ) (found : Option Found) → IsFirstOutcome from more start budget (Ok found) → ticks ≡ cost (each_trace from more start) → ticks ≤ budget
within_budget from more start budget ticks None is e = let w = is.1 in omega arith
within_budget from more start budget ticks (Some it) is e = let w = is.2 in omega arith

-- what a search with a budget says of its Ticks
pub counted : (flags : MatchFlags) (tree : Whole) (input : List ℕ) (more start most : ℕ) (it : Outcome) → IsOutcomeOf flags tree input more start most (Ok it) → IsTickCount flags tree input more start most (Ok (Some it.ticks))
counted flags tree input more start most it is =
    (is.0.0, is.0.1, is.1, within_budget (pattern_trace flags tree input) more start most it.ticks it.found is.0.2 is.1)
