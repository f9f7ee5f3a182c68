-- What one turn of a parse asks for, and what it does.
use Rattle.std.specs.Prelude.{◌≡◌, ℕ, ◌<◌, Bool, List, length, IfOk, MatchBool, Result}
use Rattle.rx_base.specs.declared.fault.Fault.{Fault}
use Rattle.rx_units.specs.declared.code_point.CodePoint.{CodePoint}
use Rattle.rx_units.specs.Cursor.{Cursor, rest}
use Rattle.rx_class.specs.Fitting.{AreFitting}
use Rattle.rx_model.specs.declared.mode.Mode.{Mode}
use Rattle.rx_model.specs.declared.rules.Rules.{Rules}
use Rattle.rx_model.specs.Refusals.Reached.{text_environment}
use Rattle.rx_scan.specs.declared.state.State.{State}
use Rattle.rx_parser.specs.declared.builder.Builder.{Builder}
use Rattle.rx_parser.specs.declared.found.Found.{Found}
use Rattle.rx_parser.specs.declared.turn.Parse.{Parse}
use Rattle.rx_parser.specs.Found.{IsFound}
use Rattle.rx_parser.specs.Parsing.{HoldsPass, IsParsing, IsRefused}

-- what no turn changes: the mode, the rules, the units and the offset of the first, what is added to each offset, and the state
abbrev pub fixed_parts : {S U : Type 0} → Parse S U → Mode × Rules × List CodePoint × ℕ × ℕ × State
fixed_parts p = (p.builder.mode, p.builder.rules, p.reader.units, p.reader.first, p.spans, p.state)

-- The builder holds what stands before the reader, whose offsets fit 32 bits, and the state has what the first pass over the units finds.
pub record IsUnderWay {S U : Type 0} (p : Parse S U) : Type 0 where
  pub parsing : IsParsing p.builder.mode p.builder.rules p.reader.units p.reader.first p.spans p.builder p.reader.place
  pub fits : AreFitting p.spans p.reader
  pub pass : HoldsPass p.builder.mode p.builder.rules p.reader.units p.state

-- The same, and something is left of the text.
pub record HasMore {S U : Type 0} (p : Parse S U) : Type 0 where
  pub under_way : IsUnderWay p
  pub left : p.reader.place < length p.reader.units

-- This stands where the reader does.
abbrev pub StandsNext : {S U : Type 0} → Parse S U → Found → Type 0
StandsNext p it = IsFound (text_environment p.builder.mode p.builder.rules p.reader.units) (rest p.reader) it

-- The reader and the builder have moved on.
pub record HasTurned {S U : Type 0} (p q : Parse S U) : Type 0 where
  pub under_way : IsUnderWay q
  pub kept : fixed_parts q ≡ fixed_parts p
  pub moved : p.reader.place < q.reader.place

-- Where it answers `true` the parse has turned, and where it answers `false` nothing has changed.
abbrev pub MayTurn : {S U E : Type 0} → Parse S U → Parse S U → Result Bool E → Type 0
MayTurn p q result = IfOk result (λ it. MatchBool it (HasTurned p q) (q ≡ p))

-- memory ran out, or the text is refused by its first refusal
abbrev pub RefusesText : {S U : Type 0} → Parse S U → Fault → Type 0
RefusesText p it = IsRefused p.builder.mode p.builder.rules p.reader.units p.reader.first p.spans it

-- The same of a builder and a reader alone: something is left of the text, and the builder holds what stands before it;
pub record IsBefore (added : ℕ) (b : Builder) (r : Cursor) : Type 0 where
  pub parsing : IsParsing b.mode b.rules r.units r.first added b r.place
  pub left : r.place < length r.units
  pub fits : AreFitting added r

-- and both have moved on.
pub record IsTurned (added : ℕ) (b c : Builder) (old new : Cursor) : Type 0 where
  pub parsing : IsParsing b.mode b.rules new.units new.first added c new.place
  pub moved : old.place < new.place
  pub same : new ≡ record old { place = new.place }
