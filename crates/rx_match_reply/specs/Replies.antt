-- What `match` and `steps` answer of a pattern that is read.
use Rattle.std.specs.Prelude.{◌≡◌, ℕ, List, ◌++◌, length, codes, Option, Some, None, Result, Ok, Err}
use Rattle.std.specs.Fmt.{decimal}
use Rattle.rx_ast.specs.Tree.{Whole}
use Rattle.rx_units.specs.Units.{literal_units, values}
use Rattle.rx_trace.specs.declared.answer.Found.{Found}
use Rattle.rx_trace.specs.declared.answer.MatchFlags.{MatchFlags}
use Rattle.rx_trace.specs.declared.answer.MatchFault.{MatchFault}
use Rattle.rx_trace.specs.declared.answer.MatchFault.TheVariants as fault
use Rattle.rx_trace.specs.Answers.{IsAnswer, IsTickCount}
use Rattle.rx_match_reply.specs.Found.{found_reply}
use Rattle.rx_reply.specs.Places.{span_text}

-- the units of a text that a pattern is matched on, with these flags
abbrev pub units_under : MatchFlags → List ℕ → List ℕ
units_under flags text = values (literal_units flags.unicode_mode 0 text)

-- The reply to what stops a match. Out of memory has none.
abbrev pub fault_reply : MatchFault → Option (List ℕ)
fault_reply fault.OutOfMemory = None
fault_reply fault.IgnoreCase = Some (codes "unsupported\tflag\n")
fault_reply (fault.Unsupported span) = Some (codes "unsupported\t" ++ span_text span ++ codes "\n")
fault_reply fault.Spent = Some (codes "spent\n")

-- the reply to what a match came to
abbrev pub answer_reply : Result (Option Found) MatchFault → Option (List ℕ)
answer_reply (Ok (Some found)) = Some (found_reply found)
answer_reply (Ok None) = Some (codes "ok\tnone\n")
answer_reply (Err e) = fault_reply e

-- the reply to a count of Ticks, which says whether they are above the most that are counted
abbrev pub ticks_reply : Result (Option ℕ) MatchFault → Option (List ℕ)
ticks_reply (Ok (Some ticks)) = Some (codes "ok\t" ++ decimal ticks ++ codes "\n")
ticks_reply (Ok None) = Some (codes "more\n")
ticks_reply (Err e) = fault_reply e

-- The reply says what a search for the pattern comes to, from the first place of the text on and within this budget.
pub record IsMatchReply (flags : MatchFlags) (text : List ℕ) (tree : Whole) (budget : ℕ) (reply : List ℕ) : Type 0 where
  pub answer : Result (Option Found) MatchFault
  pub answered : IsAnswer flags tree (units_under flags text) (length (units_under flags text)) 0 budget answer
  pub reply_is : answer_reply answer ≡ Some reply

-- The reply says how many Ticks this search takes, where they are so many at most.
pub record IsTicksReply (flags : MatchFlags) (text : List ℕ) (tree : Whole) (most : ℕ) (reply : List ℕ) : Type 0 where
  pub ticks : Result (Option ℕ) MatchFault
  pub counted : IsTickCount flags tree (units_under flags text) (length (units_under flags text)) 0 most ticks
  pub reply_is : ticks_reply ticks ≡ Some reply
