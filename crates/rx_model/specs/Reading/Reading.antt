-- What it means that a text is a pattern.
use Rattle.std.specs.Prelude.{◌≡◌, ℕ, ◌+◌, List, [], length}
use Rattle.rx_ast.specs.declared.term.Pattern.{Pattern}
use Rattle.rx_ast.specs.Forget.{without_spans}
use Rattle.rx_units.specs.declared.code_point.CodePoint.{CodePoint}
use Rattle.rx_units.specs.Units.{offset_at}
use Rattle.rx_model.specs.declared.mode.Mode.{Mode}
use Rattle.rx_model.specs.Trees.Early.{IsEarly}
use Rattle.rx_model.specs.Inputs.Environment.{environment}
use Rattle.rx_model.specs.declared.rules.Rules.{Rules}
use Rattle.rx_model.specs.Trees.Events.{events, tokens}
use Rattle.rx_model.specs.Reading.Rows.{TokenRow, Row}
use Rattle.rx_model.specs.Trees.Shapes.{IsWellMade}

-- The units spell the tree: all of them, before nothing.
pub record IsSpelled (mode : Mode) (rules : Rules) (p : Pattern) (us : List CodePoint) : Type 0 where
  pub shape : IsWellMade mode p
  pub row : TokenRow (environment mode rules p) (tokens p) us []

-- In that spelling each node has the span of the units that it spells: from the offset before its first unit to the offset after its last. `first` is
-- the offset at place 0, and `added` is added to each. The offset at a place is the end of the unit before it. With strings as the standard
-- has them a unit may cover two elements of the text, the lead and the trail of a pair, and the line continuations between them; and the bytes of a line
-- continuation, which gives no unit, are in the span of what begins after it.
abbrev pub IsSpanned : Mode → Rules → Pattern → List CodePoint → ℕ → ℕ → Type 0
IsSpanned mode rules p us first added =
    Row (environment mode rules p) (λ place. offset_at first us place + added) (events p) 0 us (length us) []

-- A tree that the text spells under the mode and the rules, free of early errors.
pub record Reads (mode : Mode) (rules : Rules) (p : Pattern) (us : List CodePoint) : Type 0 where
  pub spelled : IsSpelled mode rules p us
  pub early : IsEarly rules p

-- The only one but for spans.
abbrev pub IsOnly : Mode → Rules → Pattern → List CodePoint → Type 0
IsOnly mode rules p us = (q : Pattern) → Reads mode rules q us → without_spans q ≡ without_spans p
