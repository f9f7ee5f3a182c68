-- Which places of a text a reading reaches, also of a text that no tree spells.
use Rattle.std.specs.Prelude.{◌≡◌, ℕ, ◌+◌, Bool, true, false, Some, List, [], ◌∷◌, length, All}
use Rattle.rx_base.specs.declared.span.Span.{Span}
use Rattle.rx_units.specs.declared.code_point.CodePoint.{CodePoint}
use Rattle.rx_units.specs.Units.{offset_at, values}
use Rattle.rx_model.specs.declared.mode.Mode.{Mode}
use Rattle.rx_model.specs.Trees.Early.{Obeys}
use Rattle.rx_model.specs.Inputs.Environment.{Environment, environment_with, has_some}
use Rattle.rx_model.specs.FirstPass.Marks.{Clash, count, marks, seen}
use Rattle.rx_model.specs.Reading.Rows.{TokenRow}
use Rattle.rx_model.specs.declared.rules.Rules.{Rules}
use Rattle.rx_model.specs.Trees.Shapes.{run}
use Rattle.rx_model.specs.Trees.Token.{Token, Opener, opener}

-- how many groups of a text capture, by its first pass
unfoldable pub text_groups : Mode → List CodePoint → ℕ
text_groups mode us = count (marks mode (values us))

-- the names of its groups in order of first appearance, each once
unfoldable pub text_names : Mode → List CodePoint → List (List ℕ)
text_names mode us = seen mode (marks mode (values us))

-- the environment of a text: by the groups and the names that its first pass finds
-- Why: docs/DECISIONS.md, 24.
abbrev pub text_environment : Mode → Rules → List CodePoint → Environment
text_environment mode rules us = environment_with mode rules.buffer_boundaries (text_groups mode us) (has_some (text_names mode us))

-- the environment in which the classes of a text are spelled
abbrev pub class_environment : Mode → List CodePoint → Environment
class_environment mode us = environment_with mode true (text_groups mode us) (has_some (text_names mode us))

-- No two names of the text clash (22.2.1.1).
abbrev pub HasNoClash : Mode → Bool → List CodePoint → Type 0
HasNoClash mode duplicate_names us = (a b : ℕ) → Clash mode duplicate_names (marks mode (values us)) a b → ⊥

-- what the tokens of a text owe by themselves
abbrev pub AreObeying : Mode → List CodePoint → List Token → Type 0
AreObeying mode us tokens = All (Obeys (text_groups mode us) (text_names mode us)) tokens

-- Tokens lead from the beginning to this place, where the rest is left, these groups are open, and a quantifier may follow or not; each is
-- spelled before all that follows it and is free of early errors by itself.
pub record IsReached (mode : Mode) (rules : Rules) (us : List CodePoint) (place : ℕ) (open_groups : List Opener) (ready : Bool) (rest : List CodePoint) : Type 0 where
  pub tokens : List Token
  pub row : TokenRow (text_environment mode rules us) tokens us rest
  pub place_is : length us ≡ place + length rest
  pub accepted : run mode tokens [] false ≡ Some (open_groups, ready)
  pub obey : AreObeying mode us tokens

-- some tokens lead to this place, where the rest is left
pub record IsPlace (mode : Mode) (rules : Rules) (us : List CodePoint) (place : ℕ) (rest : List CodePoint) : Type 0 where
  pub open_groups : List Opener
  pub ready : Bool
  pub reached : IsReached mode rules us place open_groups ready rest

-- The group that opens at place `from` is the innermost that is open at this place, where the rest is left: what stands in it so far opens and
-- closes groups of its own alone.
pub record IsInside (mode : Mode) (rules : Rules) (us : List CodePoint) (from : ℕ) (group : Opener) (place : ℕ) (rest : List CodePoint) : Type 0 where
  pub open_groups : List Opener
  pub ready : Bool
  pub at_group : List CodePoint
  pub reached : IsReached mode rules us from open_groups ready at_group
  pub inside : List Token
  pub row : TokenRow (text_environment mode rules us) (opener group ∷ inside) at_group rest
  pub place_is : length us ≡ place + length rest
  pub ready_inside : Bool
  pub accepted : run mode inside [] false ≡ Some ([], ready_inside)
  pub obey : AreObeying mode us (opener group ∷ inside)

-- the span between the offsets of two places; `first` is the offset at place 0, and `added` is added to each
abbrev pub span_between : List CodePoint → ℕ → ℕ → ℕ → ℕ → Span
span_between us first added from to = record { start = offset_at first us from + added; end = offset_at first us to + added }
