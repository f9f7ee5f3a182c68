-- What has been read of a pattern, as events.
use Rattle.std.specs.Prelude.{ℕ, Bool, List, [], ◌∷◌, ◌++◌, map}
use Rattle.rx_ast.specs.Tree as tree
use Rattle.rx_model.specs.declared.mode.Mode.{Mode}
use Rattle.rx_model.specs.declared.rules.Rules.{Rules}
use Rattle.rx_model.specs.Trees.Events.{Events, enter, opener_event}
use Rattle.rx_model.specs.Trees.Token.{Opener, opener_of}
use Rattle.rx_parser.specs.declared.builder.Builder.{Builder}
use Rattle.rx_parser.specs.declared.frame.Frame.{Frame}
use Rattle.rx_parser.specs.declared.frame.GroupKind.{GroupKind}
use Rattle.rx_parser.specs.declared.frame.GroupKind.TheVariants.{Capturing, Ignoring, LookAround}
use Rattle.rx_parser.specs.Levels.{strung, level_events, last_takes}

-- what the mirror of the group or look-around will begin with (Atom and Assertion, 22.2.1)
abbrev pub opener_tree : GroupKind → tree.Opener
opener_tree (Capturing name) = tree.capturing name
opener_tree (Ignoring modifiers) = tree.ignoring modifiers
opener_tree (LookAround kind) = tree.looking kind

-- what stands before an open group in its outer disjunction, and the group's beginning
abbrev pub frame_events : Frame → Events
frame_events f = level_events f.outer ++ (enter f.start ∷ opener_event (opener_tree f.group_kind) ∷ [])

-- the same of all open groups, the outermost first
abbrev pub frames_events : List Frame → Events
frames_events fs = strung (map frame_events fs)

-- all that has been read, from the beginning of the pattern on (Pattern, 22.2.1)
unfoldable pub builder_events : Builder → Events
builder_events b = enter b.start ∷ (frames_events b.frames ++ level_events b.level)

-- what these groups, the outermost first, began with, put in front of others so that the innermost comes first
abbrev pub openers_onto : List Frame → List Opener → List Opener
openers_onto [] outer = outer
openers_onto (f ∷ fs) outer = openers_onto fs (opener_of (opener_tree f.group_kind) ∷ outer)

-- what the open groups began with, the innermost first
abbrev pub openers : Builder → List Opener
openers b = openers_onto b.frames []

-- whether a quantifier may follow (Term, 22.2.1 and B.1.2)
abbrev pub ready : Builder → Bool
ready b = last_takes b.mode b.level.terms

-- what nothing that is read changes: the mode, the rules and where the pattern begins
abbrev pub fixed_of : Builder → Mode × Rules × ℕ
fixed_of b = (b.mode, b.rules, b.start)
