-- How far a parse has come, and what its faults say.
use Rattle.std.specs.Prelude.{◌≡◌, ℕ, Bool, ◌+◌, ◌≤◌, List, length, drop, Result, IfErr, IfOk}
use Rattle.rx_base.specs.declared.fault.Fault.{Fault}
use Rattle.rx_base.specs.declared.fault.Fault.TheVariants.{OutOfMemory, Diagnostic}
use Rattle.rx_ast.specs.declared.term.Pattern.{Pattern}
use Rattle.rx_units.specs.declared.code_point.CodePoint.{CodePoint}
use Rattle.rx_units.specs.Units.{offset_at}
use Rattle.rx_model.specs.declared.mode.Mode.{Mode}
use Rattle.rx_model.specs.FirstPass.Cuts.{TellsGroups}
use Rattle.rx_model.specs.Refusals.Firsts.{IsFirst}
use Rattle.rx_model.specs.Trees.Early.{most_groups}
use Rattle.rx_model.specs.Trees.Events.{tokens_of}
use Rattle.rx_model.specs.Reading.Reading.{IsOnly, IsSpanned, Reads}
use Rattle.rx_model.specs.Refusals.Reached.{AreObeying, HasNoClash, text_environment, text_groups, text_names}
use Rattle.rx_scan.specs.StateFaults.{mode_of_state}
use Rattle.rx_scan.specs.declared.state.State.{State}
use Rattle.rx_model.specs.declared.rules.Rules.{Rules}
use Rattle.rx_parser.specs.Frames.{builder_events}
use Rattle.rx_parser.specs.Progress.{IsAt}
use Rattle.rx_parser.specs.declared.builder.Builder.{Builder}
use Rattle.rx_parser.specs.declared.pattern_parser.PatternParser.{PatternParser}

-- the rules of a state, where buffer boundaries are read or not
abbrev pub rules_of_state : State → Bool → Rules
rules_of_state state buffers = record { duplicate_names = state.duplicate_names; buffer_boundaries = buffers }

-- The state has what the first pass over the units finds (CountLeftCapturingParensWithin, 22.2.1.2), which refuses nothing.
pub record HoldsPass (mode : Mode) (rules : Rules) (us : List CodePoint) (state : State) : Type 0 where
  pub mode_is : mode_of_state state ≡ mode
  pub groups : state.num_of_capturing_groups ≡ text_groups mode us
  pub names : state.capturing_group_names ≡ text_names mode us
  pub no_clash : HasNoClash mode rules.duplicate_names us
  pub in_limit : text_groups mode us ≤ most_groups

-- The units before the place are a row of tokens, which the builder holds.
pub record IsParsing (mode : Mode) (rules : Rules) (us : List CodePoint) (first added : ℕ) (b : Builder) (place : ℕ) : Type 0 where
  pub at : IsAt (text_environment mode rules us) (λ i. offset_at first us i + added) b us place (drop place us)
  pub within : place ≤ length us
  pub rules_are : b.rules ≡ rules
  pub obey : AreObeying mode us (tokens_of (builder_events b))

-- The tree is what the units read as, and each of its nodes has the span of what it spells.
pub record IsWhole (mode : Mode) (rules : Rules) (us : List CodePoint) (first added : ℕ) (p : Pattern) : Type 0 where
  pub reads : Reads mode rules p us
  pub spanned : IsSpanned mode rules p us first added

-- memory ran out, or the text is refused by its first refusal
abbrev pub IsRefused : Mode → Rules → List CodePoint → ℕ → ℕ → Fault → Type 0
IsRefused mode rules us first added OutOfMemory = Unit {0}
IsRefused mode rules us first added (Diagnostic cause) = IsFirst mode rules us first added cause

-- What is answered to units that are to be read in a mode and under rules.
pub record AnswersUnits (mode : Mode) (rules : Rules) (us : List CodePoint) (first added : ℕ) (answer : Result Pattern Fault) : Type 0 where
  -- The units spell the tree, and no other tree, spans aside; each of its nodes has the span of what it spells.
  pub whole : IfOk answer (IsWhole mode rules us first added)
  pub only : IfOk answer (λ it. IsOnly mode rules it us)
  -- The groups and the names that the first pass over the units finds are the tree's.
  pub groups : IfOk answer (λ it. TellsGroups mode it us)
  -- Each other answer is the first refusal of the text, or out of memory. Where the units read as some tree the answer is Ok, or memory ran out.
  pub refused : IfErr answer (IsRefused mode rules us first added)
  pub complete : (p : Pattern) → Reads mode rules p us → IfErr answer (λ fault. fault ≡ OutOfMemory)

-- What a parser may answer to the units of its reader, in its mode and under its rules.
abbrev pub AnswersParser : {S U : Type 0} → PatternParser S U → Result Pattern Fault → Type 0
AnswersParser it answer = AnswersUnits (mode_of_state it.state) (rules_of_state it.state it.buffer_boundaries) it.reader.units it.reader.first it.spans answer
