-- What a rewriting requires of a tree, and what it leaves in it.
use Rattle.std.specs.Prelude.{◌≡◌, true, false, Some, None, bit_and}
use Rattle.rx_ast.specs.declared.leaf.BoundaryAssertionKind.{BoundaryAssertionKind}
use Rattle.rx_ast.specs.declared.leaf.BoundaryAssertionKind.TheVariants as at
use Rattle.rx_ast.specs.declared.leaf.Modifiers.{Modifiers}
use Rattle.rx_ast.specs.Tree as tree
use Rattle.rx_ast.specs.Tree.{Leaf, Opener, Node, Nodes, Alternatives, Whole, leaf, quantified, group, no_node, node, no_alternative, alternative, capturing, ignoring, looking}
use Rattle.rx_model.specs.Trees.Names.{AreDistinct, alternatives_names}
use Rattle.rx_trace.specs.declared.answer.MatchFlags.{MatchFlags}
use Rattle.rx_trace.specs.Answers.{settings}
use Rattle.rx_trace.specs.declared.settings.Settings.{Settings}
use Rattle.rx_trace.specs.Matching.{update_settings}
use Rattle.rx_rewrite.specs.declared.rewrites.Rewrites.{Rewrites}

-- nothing is asked for
abbrev pub nothing : Rewrites
nothing = record { named_capture_groups = false; dot_all = false; multiline = false; pattern_modifiers = false }

-- Where names are to go, no two groups have one name.
abbrev pub CanBeRewritten : Rewrites → Whole → Type 0
CanBeRewritten what tree = what.named_capture_groups ≡ true → AreDistinct (alternatives_names tree.1.1)

-- the settings in a group (UpdateModifiers, 22.2.2.7.4)
abbrev pub settings_in : Opener → Settings → Settings
settings_in (capturing name) e = e
settings_in (ignoring m) e = update_settings m e
settings_in (looking kind) e = e

module _ (OfLeaf : Settings → Leaf → Type 0) (OfOpener : Opener → Type 0) where
  -- `OfLeaf` holds of each term in which no other stands, under the settings that this is read under, and `OfOpener` of what each group begins with.
  abbrev mutual
    pub HoldsIn : Settings → Node → Type 0
    HoldsIn e (leaf l) = OfLeaf e l
    HoldsIn e (quantified s min max greedy n) = HoldsIn e n
    HoldsIn e (group s o d more) = OfOpener o × HoldsInEach (settings_in o e) more

    pub HoldsInAll : Settings → Nodes → Type 0
    HoldsInAll e no_node = Unit {0}
    HoldsInAll e (node n ns) = HoldsIn e n × HoldsInAll e ns

    pub HoldsInEach : Settings → Alternatives → Type 0
    HoldsInEach e no_alternative = Unit {0}
    HoldsInEach e (alternative s ns more) = HoldsInAll e ns × HoldsInEach e more

  -- the same of a whole pattern under these flags
  abbrev pub HoldsInPattern : MatchFlags → Whole → Type 0
  HoldsInPattern flags tree = HoldsInEach (settings flags) tree.1.1

abbrev pub OfAnyLeaf : Settings → Leaf → Type 0
OfAnyLeaf e l = Unit {0}

abbrev pub OfAnyOpener : Opener → Type 0
OfAnyOpener o = Unit {0}

-- no reference by name
abbrev pub IsNotNamed : Settings → Leaf → Type 0
IsNotNamed e (tree.named r) = ⊥
IsNotNamed e _ = Unit {0}

-- no name of a group
abbrev pub HasNoName : Opener → Type 0
HasNoName (capturing name) = name ≡ None
HasNoName _ = Unit {0}

-- each `.` is read without `dot_all`, so that it holds no line terminator
abbrev pub IsDotInLine : Settings → Leaf → Type 0
IsDotInLine e (tree.dot d) = e.dot_all ≡ false
IsDotInLine e _ = Unit {0}

-- each `^` and `$` is read without `multiline`, so that it holds only at an end of the input
abbrev pub IsEndIn : Settings → BoundaryAssertionKind → Type 0
IsEndIn e at.Start = e.multiline ≡ false
IsEndIn e at.End = e.multiline ≡ false
IsEndIn e _ = Unit {0}

abbrev pub IsEndOfInput : Settings → Leaf → Type 0
IsEndOfInput e (tree.boundary b) = IsEndIn e b.kind
IsEndOfInput e _ = Unit {0}

-- neither the modifier `m` (the bit 2) nor `s` (the bit 4), on either side
abbrev pub HasNeither : Modifiers → Type 0
HasNeither m = (bit_and m.enabling.0 2 ≡ 0) × (bit_and m.enabling.0 4 ≡ 0) × (bit_and m.disabling.0 2 ≡ 0) × (bit_and m.disabling.0 4 ≡ 0)

abbrev pub HasNoLineModifier : Opener → Type 0
HasNoLineModifier (ignoring (Some m)) = HasNeither m
HasNoLineModifier _ = Unit {0}

-- no name of a group, and no reference by name
abbrev pub HasNoNames : MatchFlags → Whole → Type 0
HasNoNames = HoldsInPattern IsNotNamed HasNoName

-- no `.` that holds line terminators
abbrev pub HasDotsInLine : MatchFlags → Whole → Type 0
HasDotsInLine = HoldsInPattern IsDotInLine OfAnyOpener

-- no `^` or `$` that holds at the ends of lines
abbrev pub HasEndsOfInput : MatchFlags → Whole → Type 0
HasEndsOfInput = HoldsInPattern IsEndOfInput OfAnyOpener

-- no modifier `m` or `s`
abbrev pub HasNoLineModifiers : MatchFlags → Whole → Type 0
HasNoLineModifiers = HoldsInPattern OfAnyLeaf HasNoLineModifier
