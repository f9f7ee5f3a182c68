-- What has been read of a class whose brackets nest obeys the grammar (22.2.1), and has no early error (22.2.1.1).
use Rattle.std.specs.Prelude.{◌≡◌, All, IsSome, Some, [], ◌∷◌, ◌++◌}
use Rattle.rx_ast.specs.ClassTree.{Member, Members, no_member, member}
use Rattle.rx_model.specs.Classes.ClassFromTokens.{kind_of}
use Rattle.rx_model.specs.Classes.ClassRuns.{Held, empty, single, several, pending, joined, class_run_from_start, operand}
use Rattle.rx_model.specs.Classes.ClassShapes.{AreFitting, AreFlagged, AreOperands, AreTwo, IsFittingMember, IsFlaggedMember}
use Rattle.rx_model.specs.Classes.ClassTokens.{class_tokens_of, member_events}
use Rattle.rx_model.specs.Trees.Early.{AreEarlyMembers, IsEarlyMember, may_contain_strings}
use Rattle.rx_class.specs.declared.sets.builder.ClassBuilder.{ClassBuilder}
use Rattle.rx_class.specs.declared.sets.open_bracket.OpenBracket.{OpenBracket}
use Rattle.rx_class.specs.declared.sets.held.Held.{Held as HeldState}
use Rattle.rx_class.specs.SetReading.BuilderEvents.{bracket_at, bracket_events, builder_events}
use Rattle.rx_class.specs.ClassReading.Items.{contents}
use Rattle.rx_class.specs.SetReading.HeldMirror.{mirror_held}

abbrev pub AreNone : Members → Type 0
AreNone no_member = Unit {0}
AreNone (member m ms) = ⊥

abbrev pub AreSome : Members → Type 0
AreSome no_member = ⊥
AreSome (member m ms) = Unit {0}

abbrev pub AreOne : Members → Type 0
AreOne no_member = ⊥
AreOne (member m ms) = AreNone ms

-- A bracket that holds this may have these members: there is at least one operand before an operator, and there are at least two where operators stand between them.
abbrev pub AreHeld : Held → Members → Type 0
AreHeld empty ms = AreNone ms
AreHeld single ms = AreOne ms × AreOperands ms
AreHeld several ms = Unit {0}
AreHeld (pending o) ms = AreSome ms × AreOperands ms
AreHeld (joined o) ms = AreTwo ms × AreOperands ms

-- A member, with all that is in it, obeys the grammar, has flags that say whether it may contain strings, and has no early error.
pub record IsSound (m : Member) : Type 0 where
  pub fitting : IsFittingMember m
  pub flagged : IsFlaggedMember m
  pub early : IsEarlyMember m

pub record AreSound (ms : Members) : Type 0 where
  pub fitting : AreFitting ms
  pub flagged : AreFlagged ms
  pub early : AreEarlyMembers ms

-- What was read in a bracket is sound and is what the bracket holds, and the bracket's flag is MayContainStrings (22.2.1.8) of it; after its tokens this bracket
-- alone is open.
pub record IsWellHeld (b : OpenBracket) : Type 0 where
  pub sound : AreSound (contents b.body)
  pub held : AreHeld (mirror_held b.held) (contents b.body)
  pub strings : b.strings ≡ may_contain_strings (kind_of (mirror_held b.held)) (contents b.body)
  pub opens : class_run_from_start (class_tokens_of (bracket_events b)) ≡ Some (bracket_at b ∷ [])

-- a bracket around another: where that one closes, an operand may stand
pub record IsAround (b : OpenBracket) : Type 0 where
  pub well : IsWellHeld b
  pub operand : IsSome (operand (mirror_held b.held))

pub record IsWellBuilt (b : ClassBuilder) : Type 0 where
  pub inner : IsWellHeld b.inner
  pub outer : All IsAround b.outer

-- The innermost bracket takes an operand more, with which it holds this.
pub record TakesOperand (b : ClassBuilder) (after : HeldState) : Type 0 where
  pub well : IsWellBuilt b
  pub held : operand (mirror_held b.inner.held) ≡ Some (mirror_held after)

-- An operand or a range was added, after which the innermost bracket holds this.
pub record HoldsMore (before after : ClassBuilder) (m : Member) (held : HeldState) : Type 0 where
  pub events : builder_events after ≡ builder_events before ++ member_events m
  pub holds : mirror_held after.inner.held ≡ mirror_held held
  pub well : IsWellBuilt after
