-- What a matcher answers, by the trace.
use Rattle.std.specs.Prelude.{◌≡◌, ℕ, zero, suc, ◌+◌, ◌≤◌, ◌<◌, true, false, Option, Some, None, Result, Ok, Err, List, ◌++◌, replicate}
use Rattle.rx_ast.specs.Tree.{Whole}
use Rattle.rx_trace.specs.declared.answer.Found.{Found}
use Rattle.rx_trace.specs.declared.answer.MatchFlags.{MatchFlags}
use Rattle.rx_trace.specs.declared.answer.MatchFault.{MatchFault}
use Rattle.rx_trace.specs.declared.answer.MatchFault.TheVariants as fault
use Rattle.rx_trace.specs.declared.answer.Slot.TheVariants.{Unset}
use Rattle.rx_trace.specs.Traces.{State, Trace, cost, first}
use Rattle.rx_trace.specs.Groups.{groups_in_each, names_in_each}
use Rattle.rx_trace.specs.declared.settings.Settings.{Settings}
use Rattle.rx_trace.specs.Matching.{alternatives_trace}
use Rattle.rx_trace.specs.Supported.{unsupported_in}

-- the settings that a pattern begins with
abbrev pub settings : MatchFlags → Settings
settings flags = record { multiline = flags.multiline; dot_all = flags.dot_all }

-- CompilePattern (22.2.2.2): the trace of a whole pattern from a place, forward, with all slots unset
abbrev pub pattern_trace : MatchFlags → Whole → List ℕ → ℕ → Trace
pattern_trace flags tree input p =
    alternatives_trace input (names_in_each tree.1.1) tree.1.1 (settings flags) false 0 (record { place = p; slots = replicate (groups_in_each tree.1.1) Unset })

-- the traces from a place and from so many places after it, one after the other (RegExpBuiltinExec, 22.2.7.2)
abbrev pub each_trace : (ℕ → Trace) → ℕ → ℕ → Trace
each_trace trace_at zero p = trace_at p
each_trace trace_at (suc more) p = trace_at p ++ each_trace trace_at more (p + 1)

abbrev pub place_of : Option State → ℕ → ℕ → ℕ
place_of (Some s) p later = p
place_of None p later = later

-- the place from which the first trace with a state begins
abbrev pub begins_at : (ℕ → Trace) → ℕ → ℕ → ℕ
begins_at trace_at zero p = p
begins_at trace_at (suc more) p = place_of (first (trace_at p)) p (begins_at trace_at more (p + 1))

-- Spent exactly where more Ticks come before the first state than the budget allows; otherwise the first state, or none where there is none.
abbrev pub IsFirstOutcome : (ℕ → Trace) → ℕ → ℕ → ℕ → Result (Option Found) MatchFault → Type 0
IsFirstOutcome trace_at more start budget (Ok None) = (first (each_trace trace_at more start) ≡ None) × (cost (each_trace trace_at more start) ≤ budget)
IsFirstOutcome trace_at more start budget (Ok (Some found)) =
    (first (each_trace trace_at more start) ≡ Some (record { place = found.end; slots = found.groups })) × (found.start ≡ begins_at trace_at more start) × (cost (each_trace trace_at more start) ≤ budget)
IsFirstOutcome trace_at more start budget (Err fault.Spent) = budget < cost (each_trace trace_at more start)
IsFirstOutcome trace_at more start budget (Err fault.OutOfMemory) = Unit {0}
IsFirstOutcome trace_at more start budget (Err fault.IgnoreCase) = ⊥
IsFirstOutcome trace_at more start budget (Err (fault.Unsupported span)) = ⊥

-- The answer to a match from a place, and from so many places after it. Refusals come in this order.
abbrev pub IsAnswer : MatchFlags → Whole → List ℕ → ℕ → ℕ → ℕ → Result (Option Found) MatchFault → Type 0
IsAnswer flags tree input more start budget (Err fault.OutOfMemory) = Unit {0}
IsAnswer flags tree input more start budget (Err fault.IgnoreCase) = flags.ignore_case ≡ true
IsAnswer flags tree input more start budget (Err (fault.Unsupported span)) = (flags.ignore_case ≡ false) × (unsupported_in tree ≡ Some span)
IsAnswer flags tree input more start budget (Err fault.Spent) =
    (flags.ignore_case ≡ false) × (unsupported_in tree ≡ None) × IsFirstOutcome (pattern_trace flags tree input) more start budget (Err fault.Spent)
IsAnswer flags tree input more start budget (Ok answer) =
    (flags.ignore_case ≡ false) × (unsupported_in tree ≡ None) × IsFirstOutcome (pattern_trace flags tree input) more start budget (Ok answer)

-- How many Ticks come before the first state, if these are at most `most`: the least budget whose answer is not Spent. The refusals are those of a match.
abbrev pub IsTickCount : MatchFlags → Whole → List ℕ → ℕ → ℕ → ℕ → Result (Option ℕ) MatchFault → Type 0
IsTickCount flags tree input more start most (Err fault.OutOfMemory) = Unit {0}
IsTickCount flags tree input more start most (Err fault.IgnoreCase) = flags.ignore_case ≡ true
IsTickCount flags tree input more start most (Err (fault.Unsupported span)) = (flags.ignore_case ≡ false) × (unsupported_in tree ≡ Some span)
IsTickCount flags tree input more start most (Err fault.Spent) = ⊥
IsTickCount flags tree input more start most (Ok None) =
    (flags.ignore_case ≡ false) × (unsupported_in tree ≡ None) × (most < cost (each_trace (pattern_trace flags tree input) more start))
IsTickCount flags tree input more start most (Ok (Some ticks)) =
    (flags.ignore_case ≡ false) × (unsupported_in tree ≡ None) × (ticks ≡ cost (each_trace (pattern_trace flags tree input) more start)) × (ticks ≤ most)
