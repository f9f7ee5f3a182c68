-- What a class as a tree owes to the grammar, in any mode (ClassContents, 22.2.1), so that its text can tell its early errors.
use Rattle.std.specs.Prelude.{◌≡◌, ◌≢◌, [], All}
use Rattle.rx_ast.specs.declared.class.CharacterClassContentsKind.{CharacterClassContentsKind}
use Rattle.rx_ast.specs.declared.class.CharacterClassContentsKind.TheVariants.{Union, Intersection, Subtraction}
use Rattle.rx_ast.specs.ClassTree.{Member, Members, Class, range, escape, property, character, nested, strings, no_member, member, class}
use Rattle.rx_model.specs.Trees.Early.{IsFlaggedDisjunction, IsFlaggedProperty, IsFlaggedString, may_contain_strings}

-- whether a member is an operand (ClassSetOperand), which a range is not
abbrev pub IsOperand : Member → Type 0
IsOperand (range r) = ⊥
IsOperand m = Unit {0}

abbrev pub AreOperands : Members → Type 0
AreOperands no_member = Unit {0}
AreOperands (member m ms) = IsOperand m × AreOperands ms

abbrev pub AreTwo : Members → Type 0
AreTwo no_member = ⊥
AreTwo (member m no_member) = ⊥
AreTwo (member m (member n ms)) = Unit {0}

-- `&&` and `--` stand between operands, of which there are two at least
abbrev pub FitsKind : CharacterClassContentsKind → Members → Type 0
FitsKind Union ms = Unit {0}
FitsKind Intersection ms = AreTwo ms × AreOperands ms
FitsKind Subtraction ms = AreTwo ms × AreOperands ms

-- Each class, in others too, has what its kind may have, and class strings are some.
abbrev mutual
  pub IsFittingMember : Member → Type 0
  IsFittingMember (range r) = Unit {0}
  IsFittingMember (escape e) = Unit {0}
  IsFittingMember (property p) = Unit {0}
  IsFittingMember (character c) = Unit {0}
  IsFittingMember (nested c) = IsFitting c
  IsFittingMember (strings d) = d.body ≢ []

  pub AreFitting : Members → Type 0
  AreFitting no_member = Unit {0}
  AreFitting (member m ms) = IsFittingMember m × AreFitting ms

  pub IsFitting : Class → Type 0
  IsFitting (class s negative may kind ms) = FitsKind kind ms × AreFitting ms

-- Each flag on strings is MayContainStrings (22.2.1.8), in the class and in all classes, property escapes and class strings in it.
abbrev mutual
  pub IsFlaggedMember : Member → Type 0
  IsFlaggedMember (range r) = Unit {0}
  IsFlaggedMember (escape e) = Unit {0}
  IsFlaggedMember (property p) = IsFlaggedProperty p.strings p.name
  IsFlaggedMember (character c) = Unit {0}
  IsFlaggedMember (nested c) = IsFlagged c
  IsFlaggedMember (strings d) = IsFlaggedDisjunction d × All IsFlaggedString d.body

  pub AreFlagged : Members → Type 0
  AreFlagged no_member = Unit {0}
  AreFlagged (member m ms) = IsFlaggedMember m × AreFlagged ms

  pub IsFlagged : Class → Type 0
  IsFlagged (class s negative may kind ms) = (may ≡ may_contain_strings kind ms) × AreFlagged ms
