-- What has been read of a disjunction, as events.
use Rattle.std.specs.Prelude.{◌≡◌, ℕ, Bool, false, Option, List, [], ◌∷◌, ◌++◌, map}
use Rattle.rx_ast.specs.declared.term.Term.{Term}
use Rattle.rx_ast.specs.Tree.{mirror_term}
use Rattle.rx_model.specs.declared.mode.Mode.{Mode}
use Rattle.rx_model.specs.Trees.Events.{Events, enter, leave, token, term_events, alternative_events}
use Rattle.rx_model.specs.Trees.Shapes.{takes}
use Rattle.rx_model.specs.Trees.Token.{bar, quantifier}
use Rattle.rx_parser.specs.declared.level.Level.{Level}

-- rows of events, one after the other
abbrev pub strung : List Events → Events
strung [] = []
strung (es ∷ more) = es ++ strung more

-- alternatives, each followed by a bar
abbrev pub with_bars : List Events → Events
with_bars [] = []
with_bars (es ∷ more) = es ++ (token bar ∷ with_bars more)

-- a disjunction without its end (Disjunction, 22.2.1): the alternatives that ended at a bar, and the terms of the last one so far
unfoldable pub level_events : Level → Events
level_events l =
    enter l.start ∷ (with_bars (map alternative_events l.alternatives) ++ (enter l.alternative_start ∷ strung (map term_events l.terms)))

-- whether a quantifier may follow these terms (Term, 22.2.1 and B.1.2)
abbrev pub last_takes : Mode → List Term → Bool
last_takes mode [] = false
last_takes mode (t ∷ []) = takes mode (mirror_term t)
last_takes mode (t ∷ u ∷ us) = last_takes mode (u ∷ us)

-- A node of the old events is a quantifier's body in the new (Term, 22.2.1): the quantifier begins where its body begins, and ends after its token.
abbrev pub Repeats : Events → Events → ℕ → Option ℕ → Bool → ℕ → Type 0
Repeats old new min max greedy after =
    (front : Events) × (start : ℕ) × (back : Events) × (old ≡ front ++ (enter start ∷ back)) ×
    (new ≡ front ++ (enter start ∷ enter start ∷ (back ++ (token (quantifier min max greedy) ∷ leave after ∷ []))))
