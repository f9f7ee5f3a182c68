-- What has been read of a class whose brackets nest: its events, and what an open bracket holds so far.
use Rattle.std.specs.Prelude.{ℕ, Option, Some, None, [], ◌∷◌, ◌++◌}
use Rattle.std.specs.List.{flat_map}
use Rattle.rx_base.specs.declared.diagnostic.kinds.SetOperator.{SetOperator}
use Rattle.rx_ast.specs.ClassTree.{Class, Member, class, range}
use Rattle.rx_model.specs.Classes.ClassFromTokens.{kind_of}
use Rattle.rx_model.specs.Classes.ClassRuns.{Held, empty, single, several, pending, joined, Bracket, bracket_of, operand, with_range}
use Rattle.rx_model.specs.Classes.ClassTokens.{ClassEvents, enter, token, bracket, members_events, operator_events, operator}
use Rattle.rx_class.specs.declared.sets.builder.ClassBuilder.{ClassBuilder}
use Rattle.rx_class.specs.declared.sets.open_bracket.OpenBracket.{OpenBracket}
use Rattle.rx_class.specs.ClassReading.Items.{contents}
use Rattle.rx_class.specs.SetReading.HeldMirror.{mirror_held}

-- the operator that stands at the end, if any
abbrev pub last_operator : Held → Option SetOperator
last_operator empty = None
last_operator single = None
last_operator several = None
last_operator (pending o) = Some o
last_operator (joined o) = None

abbrev pub end_events : Option SetOperator → ClassEvents
end_events None = []
end_events (Some o) = token (operator o) ∷ []

-- a bracket without its end (CharacterClass, NestedClass, 22.2.1)
unfoldable pub bracket_events : OpenBracket → ClassEvents
bracket_events b =
    let held = mirror_held b.held in
    enter b.start ∷ token (bracket b.negative) ∷ (members_events (operator_events (kind_of held)) (contents b.body) ++ end_events (last_operator held))

-- the bracket as a class, if it ends here
abbrev pub class_of : OpenBracket → ℕ → Class
class_of b end = class (record { start = b.start; end = end }) b.negative b.strings (kind_of (mirror_held b.held)) (contents b.body)

-- all that has been read, from before the class's own bracket on
unfoldable pub builder_events : ClassBuilder → ClassEvents
builder_events b = flat_map bracket_events b.outer ++ bracket_events b.inner

-- the bracket as the run over its tokens has it
abbrev pub bracket_at : OpenBracket → Bracket
bracket_at b = bracket_of b.negative (mirror_held b.held) b.strings

-- what a bracket that holds this holds after one more member, a range or an operand, where such a member may stand
abbrev pub with_member : Member → Held → Option Held
with_member (range r) held = with_range held
with_member m held = operand held
