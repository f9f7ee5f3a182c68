-- What the alternatives of a disjunction spell (Disjunction and Alternative, ECMA-262, 22.2.1). An alternative but for spans is nodes that have none.
use Rattle.std.specs.Prelude.{◌≡◌, true, ◌⊎◌, List, [], ◌∷◌, ◌++◌, map}
use Rattle.rx_base.specs.Ascii as ascii
use Rattle.rx_ast.specs.Forget.{nowhere, forget_nodes, same_kind}
use Rattle.rx_ast.specs.Tree.{Nodes, Alternatives, alternatives}
use Rattle.rx_units.specs.declared.code_point.CodePoint.{CodePoint}
use Rattle.rx_units.specs.Units.{values}
use Rattle.rx_model.specs.FirstPass.Marks.{starts}
use Rattle.rx_model.specs.Inputs.Environment.{Environment}
use Rattle.rx_model.specs.Reading.Rows.{TokenRow}
use Rattle.rx_model.specs.Trees.Events.{nodes_events, tokens_of}
use Rattle.rx_model.specs.Trees.Shapes.{AreNodes}

-- the disjunction of these alternatives
abbrev pub disjunction_of : List Nodes → Alternatives
disjunction_of all = alternatives (map (λ ns. (nowhere, ns)) all)

-- A disjunction ends at the end of the text or before a `)`.
abbrev pub EndsDisjunction : List CodePoint → Type 0
EndsDisjunction rest = (rest ≡ []) ⊎ (starts ascii.right_parenthesis (values rest) ≡ true)

-- An alternative ends where its disjunction does, or before a `|`.
abbrev pub EndsAlternative : List CodePoint → Type 0
EndsAlternative rest = EndsDisjunction rest ⊎ (starts ascii.vertical_bar (values rest) ≡ true)

-- The units w spell the alternative, and it ends before rest. It is well made: each quantifier in it has a body that may have one (Term), and each group in it an
-- alternative.
pub record SpellsAlternative (e : Environment) (ns : Nodes) (w rest : List CodePoint) : Type 0 where
  pub unspanned : forget_nodes same_kind ns ≡ ns
  pub shape : AreNodes e.mode ns
  pub row : TokenRow e (tokens_of (nodes_events ns)) (w ++ rest) rest
  pub ends : EndsAlternative rest

-- The units w spell a `|` and the alternative after it, which ends before rest.
pub record SpellsBarred (e : Environment) (ns : Nodes) (w rest : List CodePoint) : Type 0 where
  pub bar : CodePoint
  pub text : List CodePoint
  pub whole : w ≡ bar ∷ text
  pub bar_is : bar.value ≡ ascii.vertical_bar
  pub spelled : SpellsAlternative e ns text rest
