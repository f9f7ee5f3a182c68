-- Kinds are told by their numbers.
use Rattle.std.proofs.Common.{◌≡◌, refl, ap, sym, ◌∙◌, ℕ, Some, List, [], ◌∷◌}
use Rattle.std.specs.Prelude.{◌-◌, slice_get}
use Rattle.std.proofs.lemmas.Option.{same_Some}
use Rattle.rx_ast.specs.declared.leaf.BoundaryAssertionKind.{BoundaryAssertionKind}
use Rattle.rx_ast.specs.declared.leaf.BoundaryAssertionKind.TheVariants as boundary
use Rattle.rx_ast.specs.declared.leaf.LookAroundAssertionKind.{LookAroundAssertionKind}
use Rattle.rx_ast.specs.declared.leaf.LookAroundAssertionKind.TheVariants as look
use Rattle.rx_ast.specs.declared.leaf.CharacterKind.{CharacterKind}
use Rattle.rx_ast.specs.declared.leaf.CharacterKind.TheVariants as spelled
use Rattle.rx_ast.specs.declared.leaf.CharacterClassEscapeKind.{CharacterClassEscapeKind}
use Rattle.rx_ast.specs.declared.leaf.CharacterClassEscapeKind.TheVariants.{D, NegativeD, S, NegativeS, W, NegativeW}
use Rattle.rx_ast.specs.declared.class.CharacterClassContentsKind.{CharacterClassContentsKind}
use Rattle.rx_ast.specs.declared.class.CharacterClassContentsKind.TheVariants.{Union, Intersection, Subtraction}
use Rattle.rx_kinds.specs.Codes.{boundary_code, character_code, class_escape_code, contents_code, look_code}

-- Codes that follow one another are places in a list of all kinds, and so each kind is told by its code.
abbrev IsPlaced : {K : Type 0} → (K → ℕ) → ℕ → List K → K → Type 0
IsPlaced code first all k = slice_get all (code k - first) ≡ Some k

told : {K : Type 0} (code : K → ℕ) (first : ℕ) (all : List K) → ((k : K) → IsPlaced code first all k) → (a b : K) → code a ≡ code b → a ≡ b
told code first all place a b e = same_Some a b (sym (place a) ∙ ap (λ n. slice_get all (n - first)) e ∙ place b)

abbrev boundaries : List BoundaryAssertionKind
boundaries = boundary.Start ∷ boundary.End ∷ boundary.Boundary ∷ boundary.NegativeBoundary ∷ boundary.StartBuffer ∷ boundary.EndBuffer ∷ boundary.EndBufferOptionalNewline ∷ []

pub same_boundary : (a b : BoundaryAssertionKind) → boundary_code a ≡ boundary_code b → a ≡ b
same_boundary =
    told boundary_code 1 boundaries
    (λ k. elim k as (IsPlaced boundary_code 1 boundaries) [ boundary.Start ↦ refl | boundary.End ↦ refl | boundary.Boundary ↦ refl | boundary.NegativeBoundary ↦ refl | boundary.StartBuffer ↦ refl | boundary.EndBuffer ↦ refl | boundary.EndBufferOptionalNewline ↦ refl ])

abbrev looks : List LookAroundAssertionKind
looks = look.Lookahead ∷ look.NegativeLookahead ∷ look.Lookbehind ∷ look.NegativeLookbehind ∷ []

pub same_look : (a b : LookAroundAssertionKind) → look_code a ≡ look_code b → a ≡ b
same_look =
    told look_code 8 looks
    (λ k. elim k as (IsPlaced look_code 8 looks) [ look.Lookahead ↦ refl | look.NegativeLookahead ↦ refl | look.Lookbehind ↦ refl | look.NegativeLookbehind ↦ refl ])

abbrev spellings : List CharacterKind
spellings = spelled.ControlLetter ∷ spelled.HexadecimalEscape ∷ spelled.Identifier ∷ spelled.Null ∷ spelled.Octal1 ∷ spelled.Octal2 ∷ spelled.Octal3 ∷ spelled.SingleEscape ∷ spelled.Symbol ∷ spelled.UnicodeEscape ∷ []

pub same_character : (a b : CharacterKind) → character_code a ≡ character_code b → a ≡ b
same_character =
    told character_code 12 spellings
    (λ k. elim k as (IsPlaced character_code 12 spellings) [ spelled.ControlLetter ↦ refl | spelled.HexadecimalEscape ↦ refl | spelled.Identifier ↦ refl | spelled.Null ↦ refl | spelled.Octal1 ↦ refl | spelled.Octal2 ↦ refl | spelled.Octal3 ↦ refl | spelled.SingleEscape ↦ refl | spelled.Symbol ↦ refl | spelled.UnicodeEscape ↦ refl ])

abbrev escapes : List CharacterClassEscapeKind
escapes = D ∷ NegativeD ∷ S ∷ NegativeS ∷ W ∷ NegativeW ∷ []

pub same_escape : (a b : CharacterClassEscapeKind) → class_escape_code a ≡ class_escape_code b → a ≡ b
same_escape =
    told class_escape_code 22 escapes
    (λ k. elim k as (IsPlaced class_escape_code 22 escapes) [ D ↦ refl | NegativeD ↦ refl | S ↦ refl | NegativeS ↦ refl | W ↦ refl | NegativeW ↦ refl ])

abbrev all_contents : List CharacterClassContentsKind
all_contents = Union ∷ Intersection ∷ Subtraction ∷ []

pub same_contents : (a b : CharacterClassContentsKind) → contents_code a ≡ contents_code b → a ≡ b
same_contents =
    told contents_code 28 all_contents
    (λ k. elim k as (IsPlaced contents_code 28 all_contents) [ Union ↦ refl | Intersection ↦ refl | Subtraction ↦ refl ])
