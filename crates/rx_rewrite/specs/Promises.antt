-- What a rewriting promises of the pattern that it gives.
use Rattle.std.specs.Prelude.{◌≡◌, ◌≢◌, ℕ, ◌≤◌, ◌*◌, true, Ok, Option, List, []}
use Rattle.rx_ast.specs.Tree.{mirror}
use Rattle.rx_ast.specs.declared.term.Pattern.{Pattern}
use Rattle.rx_model.specs.Reading.Reading.{Reads}
use Rattle.rx_model.specs.Spelling.ReadBack.{FitIn, IsReadBack}
use Rattle.rx_model.specs.Trees.Early.{IsEarly}
use Rattle.rx_model.specs.Trees.Shapes.{IsWellMade}
use Rattle.rx_model.specs.declared.mode.Mode.{Mode}
use Rattle.rx_model.specs.declared.rules.Rules.{Rules}
use Rattle.rx_trace.specs.Answers.{IsAnswer, begins_at, each_trace, pattern_trace}
use Rattle.rx_trace.specs.Supported.{unsupported_in}
use Rattle.rx_trace.specs.Traces.{first, states}
use Rattle.rx_trace.specs.declared.answer.Found.{Found}
use Rattle.rx_trace.specs.declared.answer.MatchFlags.{MatchFlags}
use Rattle.rx_units.specs.declared.code_point.CodePoint.{CodePoint}
use Rattle.rx_rewrite.specs.Asked.{HasDotsInLine, HasEndsOfInput, HasNoLineModifiers, HasNoNames}
use Rattle.rx_rewrite.specs.Rewriting.{flags_rewritten}
use Rattle.rx_rewrite.specs.declared.rewrites.Rewrites.{Rewrites}

-- The second pattern, under its flags, has the outcomes of the first.
pub record HasSameOutcomes (what : Rewrites) (flags : MatchFlags) (p q : Pattern) : Type 0 where
  -- From each place of each input it reaches the same states (MatchState, 22.2.2.1), in their order.
  pub reached : (input : List ℕ) (start : ℕ) → states (pattern_trace (flags_rewritten what flags) (mirror q) input start) ≡ states (pattern_trace flags (mirror p) input start)
  -- So a search from a place, and from so many places after it, ends in the same state or in none, and the match begins at the same place.
  pub end : (input : List ℕ) (more start : ℕ) →
      first (each_trace (pattern_trace (flags_rewritten what flags) (mirror q) input) more start) ≡ first (each_trace (pattern_trace flags (mirror p) input) more start)
  pub begin : (input : List ℕ) (more start : ℕ) →
      begins_at (pattern_trace (flags_rewritten what flags) (mirror q) input) more start ≡ begins_at (pattern_trace flags (mirror p) input) more start
  -- What a matcher answers to the second pattern it answers to the first within the same budget, and the other way round within twice the budget.
  pub before : (input : List ℕ) (more start budget : ℕ) (a : Option Found) →
      IsAnswer (flags_rewritten what flags) (mirror q) input more start budget (Ok a) → IsAnswer flags (mirror p) input more start budget (Ok a)
  pub after : (input : List ℕ) (more start budget most : ℕ) (a : Option Found) → 2 * budget ≤ most →
      IsAnswer flags (mirror p) input more start budget (Ok a) → IsAnswer (flags_rewritten what flags) (mirror q) input more start most (Ok a)
  pub refused : unsupported_in (mirror q) ≡ unsupported_in (mirror p)

-- What was to go is not left in the second pattern.
pub record HasNothingAsked (what : Rewrites) (flags : MatchFlags) (q : Pattern) : Type 0 where
  pub names : what.named_capture_groups ≡ true → HasNoNames (flags_rewritten what flags) (mirror q)
  pub dots : what.dot_all ≡ true → HasDotsInLine (flags_rewritten what flags) (mirror q)
  pub ends : what.multiline ≡ true → HasEndsOfInput (flags_rewritten what flags) (mirror q)
  pub modifiers : what.pattern_modifiers ≡ true → HasNoLineModifiers (flags_rewritten what flags) (mirror q)

-- Where the first is a pattern (early, well made, read back), so is the second.
pub record IsStillPattern (p q : Pattern) : Type 0 where
  pub early : (rules : Rules) → IsEarly rules p → IsEarly rules q
  pub shape : (mode : Mode) → IsWellMade mode p → IsWellMade mode q
  pub read_back : (mode : Mode) (rules : Rules) (us : List CodePoint) → Reads mode rules p us → FitIn mode us → us ≢ [] → IsReadBack mode rules q

-- What holds where a rewriting of the first pattern gives the second.
pub record Promises (what : Rewrites) (flags : MatchFlags) (p q : Pattern) : Type 0 where
  pub outcomes : HasSameOutcomes what flags p q
  pub left : HasNothingAsked what flags q
  pub pattern : IsStillPattern p q
