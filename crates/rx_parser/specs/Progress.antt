-- How far a pattern has been read.
use Rattle.std.specs.Prelude.{◌≡◌, ℕ, Bool, false, Some, List, [], ◌∷◌}
use Rattle.rx_ast.specs.declared.term.Term.{Term}
use Rattle.rx_ast.specs.Tree.{mirror_term}
use Rattle.rx_units.specs.declared.code_point.CodePoint.{CodePoint}
use Rattle.rx_model.specs.declared.mode.Mode.{Mode}
use Rattle.rx_model.specs.Inputs.Environment.{Environment}
use Rattle.rx_model.specs.Trees.Events.{enter, leave, token, term_events, tokens_of}
use Rattle.rx_model.specs.Reading.Rows.{Row}
use Rattle.rx_model.specs.Trees.Shapes.{run, takes}
use Rattle.rx_model.specs.Trees.Token.{Token, Opener}
use Rattle.rx_parser.specs.declared.builder.Builder.{Builder}
use Rattle.rx_parser.specs.Frames.{builder_events, openers, ready}
use Rattle.rx_parser.specs.Good.{IsGood, IsGoodTerm}

-- The term is one token between two offsets (Atom and Assertion, 22.2.1), and the token is accepted wherever the term may stand.
pub record IsLeafOf (term : Term) (t : Token) (at after : ℕ) : Type 0 where
  pub events_are : term_events term ≡ enter at ∷ token t ∷ leave after ∷ []
  pub runs : (mode : Mode) (ts : List Token) (open_groups : List Opener) (ready_before : Bool) →
      run mode (t ∷ ts) open_groups ready_before ≡ run mode ts open_groups (takes mode (mirror_term term))
  pub good : (mode : Mode) → IsGoodTerm mode term

-- What has been built spells the units before this place, where o gives the offset of a place; these units are left.
pub record IsAt (e : Environment) (o : ℕ → ℕ) (b : Builder) (us : List CodePoint) (place : ℕ) (rest : List CodePoint) : Type 0 where
  pub row : Row e o (builder_events b) 0 us place rest
  pub good : IsGood b
  pub state : run e.mode (tokens_of (builder_events b)) [] false ≡ Some (openers b, ready b)
  pub mode : b.mode ≡ e.mode
