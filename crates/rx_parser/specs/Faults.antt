-- What the faults of a parse say.
use Rattle.std.specs.Prelude.{◌≡◌, ℕ, ◌+◌, ◌^◌, ◌<◌, List, [], ◌∷◌, ◌++◌, ◌⊎◌}
use Rattle.rx_base.specs.declared.fault.Fault.{Fault}
use Rattle.rx_base.specs.declared.fault.Fault.TheVariants.{Diagnostic}
use Rattle.rx_base.specs.declared.diagnostic.Diagnostic.{Diagnostic as Refusal}
use Rattle.rx_base.specs.declared.diagnostic.Diagnostic.TheVariants.{InvalidBracedQuantifier, InvalidExtendedAtomEscape, InvalidSurrogatePair, LoneQuantifier, ParsePatternIncomplete, UnterminatedPattern, InvalidIndexedReference, EmptyGroupSpecifier, BracedQuantifierOutOfOrder, TooLargeNumberInBracedQuantifier, TooLargeNumberDigits, InvalidUnicodeEscapeSequence, DuplicatedModifiers, InvalidModifiers, EmptyModifiers, UnknownModifiers}
use Rattle.rx_base.specs.declared.diagnostic.kinds.DigitsKind.TheVariants.{Decimal, Hex}
use Rattle.rx_base.specs.declared.diagnostic.kinds.Unterminated.TheVariants.{GroupName}
use Rattle.rx_base.specs.declared.span.Span.{Span}
use Rattle.rx_units.specs.declared.code_point.CodePoint.{CodePoint}
use Rattle.rx_units.specs.Units.{offset_at}
use Rattle.rx_model.specs.declared.mode.Mode.{Mode}
use Rattle.rx_model.specs.declared.mode.Mode.TheVariants.{Legacy, Sets, Unicode}
use Rattle.rx_model.specs.Refusals.Causes.{unterminated}
use Rattle.rx_model.specs.Refusals.Reached.{span_between}
use Rattle.rx_model.specs.Trees.Token.{opener_of}
use Rattle.rx_parser.specs.Frames.{opener_tree}
use Rattle.rx_parser.specs.HaltPlaces.{halt_end, halt_start}
use Rattle.rx_parser.specs.declared.builder.Builder.{Builder}
use Rattle.rx_parser.specs.declared.frame.Frame.{Frame}
use Rattle.rx_parser.specs.declared.found.Halt.{Halt}
use Rattle.rx_parser.specs.declared.found.Halt.TheVariants as halt
use Rattle.rx_parser.specs.declared.found.ModifiersFault.{ModifiersFault}
use Rattle.rx_parser.specs.declared.found.ModifiersFault.TheVariants as fault

-- the places that a halt names are below 2^64
abbrev pub IsSmall : Halt → Type 0
IsSmall it = halt_end it < 2 ^ 64

abbrev pub modifiers_refusal : ModifiersFault → Span → Refusal
modifiers_refusal fault.Unknown span = UnknownModifiers span
modifiers_refusal fault.Duplicated span = DuplicatedModifiers span
modifiers_refusal fault.Empty span = EmptyModifiers span
modifiers_refusal fault.Invalid span = InvalidModifiers span

-- the refusal of a quantifier that stands after nothing that may have one (Term, 22.2.1; with neither `u` nor `v` InvalidBracedQuantifier, B.1.2)
abbrev pub lone_refusal : Mode → Span → Refusal
lone_refusal Legacy span = InvalidBracedQuantifier span
lone_refusal Unicode span = LoneQuantifier span
lone_refusal Sets span = LoneQuantifier span

-- The terms end at place `at`, where no group and no pattern can end: the innermost open group is refused as unterminated, or where none is open the pattern as not at its end.
abbrev pub IsEndedFault : List CodePoint → ℕ → ℕ → ℕ → Builder → Fault → Type 0
IsEndedFault us first added at b it =
    ((b.frames ≡ []) × (it ≡ Diagnostic (ParsePatternIncomplete (span_between us first added at at))))
    ⊎ ((outer : List Frame) × (group : Frame) × (b.frames ≡ outer ++ (group ∷ []))
    × (it ≡ Diagnostic (UnterminatedPattern (record { start = group.start; end = offset_at first us at + added }) (unterminated (opener_of (opener_tree group.group_kind))))))

-- the refusal that a halt with this span is, in a pattern with so many groups; of a stop, that outside groups
abbrev pub halt_refusal : Halt → Span → ℕ → Refusal
halt_refusal (halt.Stop following) span groups = ParsePatternIncomplete span
halt_refusal halt.LastBackslash span groups = InvalidExtendedAtomEscape span
halt_refusal (halt.OutOfOrder n) span groups = BracedQuantifierOutOfOrder span
halt_refusal (halt.TooLarge n) span groups = TooLargeNumberInBracedQuantifier span
halt_refusal (halt.TooManyDigits start many) span groups = TooLargeNumberDigits span Decimal
halt_refusal (halt.TooManyHexDigits start many) span groups = TooLargeNumberDigits span Hex
halt_refusal (halt.InvalidEscape start n) span groups = InvalidUnicodeEscapeSequence span
halt_refusal (halt.UnterminatedName n) span groups = UnterminatedPattern span GroupName
halt_refusal (halt.MisplacedPair start) span groups = InvalidSurrogatePair span
halt_refusal halt.NoGroupName span groups = EmptyGroupSpecifier span
halt_refusal (halt.NoSuchGroup n) span groups = InvalidIndexedReference span groups
halt_refusal (halt.Modifiers what n) span groups = modifiers_refusal what span

-- the fault of a halt at this place, in a pattern with so many groups
abbrev pub IsHaltFault : List CodePoint → ℕ → ℕ → ℕ → Builder → ℕ → Halt → Fault → Type 0
IsHaltFault us first added place b groups (halt.Stop following) it = IsEndedFault us first added (place + following) b it
IsHaltFault us first added place b groups reason it =
    it ≡ Diagnostic (halt_refusal reason (span_between us first added (place + halt_start reason) (place + halt_end reason)) groups)
