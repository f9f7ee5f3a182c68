-- What stands in a class without `v`, in the words of NonemptyClassRanges (22.2.1) and of CharacterRangeOrUnion (B.1.2.8.1). A relation `.. w rest` says that the
-- units w spell a thing before all that follows them, rest.
use Rattle.std.specs.Prelude.{◌≡◌, ◌⊎◌, ℕ, Bool, true, false, ◌&&◌, List, [], ◌∷◌, ◌++◌}
use Rattle.rx_base.specs.Ascii as ascii
use Rattle.rx_ast.specs.declared.leaf.CharacterKind.{CharacterKind}
use Rattle.rx_ast.specs.declared.leaf.CharacterKind.TheVariants as kind
use Rattle.rx_ast.specs.declared.class.CharacterClassContentsKind.TheVariants.{Union}
use Rattle.rx_ast.specs.ClassTree.{Class, Member, class, members}
use Rattle.rx_ast.specs.Forget.{nowhere}
use Rattle.rx_units.specs.declared.code_point.CodePoint.{CodePoint}
use Rattle.rx_units.specs.Units.{values}
use Rattle.rx_model.specs.Classes.ClassBrackets.{InBrackets}
use Rattle.rx_model.specs.Classes.ClassFromTokens.{atom_member, range_member}
use Rattle.rx_model.specs.Classes.ClassRows.{SpellsAtom, SpellsClassCharacter, is_dashed}
use Rattle.rx_model.specs.Classes.ClassTokens.{Atom, character, is_character}
use Rattle.rx_model.specs.FirstPass.Marks.{starts}
use Rattle.rx_model.specs.Inputs.Environment.{Environment, is_unicode}
use Rattle.rx_units.specs.Sequences.{ElementRow}

-- an atom alone; a range, by its two characters; an atom, a `-` and an atom that make no range
-- Why: docs/DECISIONS.md, 94.
pub data Piece : Type 0 where
  alone : Atom → Piece
  range : CharacterKind → ℕ → CharacterKind → ℕ → Piece
  three : Atom → Atom → Piece

pub data SpellsPiece (e : Environment) : Piece → List CodePoint → List CodePoint → Type 0 where
  -- a ClassAtom before no `-`, or before one that is the last ClassAtom (NonemptyClassRanges, NonemptyClassRangesNoDash)
  of_atom : {w rest : List CodePoint} (a : Atom) → SpellsAtom e a w rest → is_dashed (values rest) ≡ false → SpellsPiece e (alone a) w rest
  -- ClassAtom `-` ClassAtom, where both are characters (NonemptyClassRanges, NonemptyClassRangesNoDash)
  of_range : {k j : CharacterKind} {v x : ℕ} {rest : List CodePoint} (low : List CodePoint) (hyphen : CodePoint) (high : List CodePoint)
      → SpellsClassCharacter e k v low (hyphen ∷ (high ++ rest)) → hyphen.value ≡ ascii.hyphen → SpellsClassCharacter e j x high rest → SpellsPiece e (range k v j x) (low ++ (hyphen ∷ high)) rest
  -- ClassAtom `-` ClassAtom with neither `u` nor `v`, where one of them is no character (CharacterRangeOrUnion, B.1.2.8.1)
  of_three : {rest : List CodePoint} (a b : Atom) (first : List CodePoint) (hyphen : CodePoint) (third : List CodePoint) → is_unicode e.mode ≡ false → (is_character a && is_character b) ≡ false
      → SpellsAtom e a first (hyphen ∷ (third ++ rest)) → hyphen.value ≡ ascii.hyphen → SpellsAtom e b third rest → SpellsPiece e (three a b) (first ++ (hyphen ∷ third)) rest

-- `]` stands next, or the text ends.
abbrev pub IsPiecesEnd : List CodePoint → Type 0
IsPiecesEnd us = (starts ascii.right_bracket (values us) ≡ true) ⊎ (us ≡ [])

-- the members that a piece gives: three items are three
abbrev pub piece_members : Piece → List Member
piece_members (alone a) = atom_member a ∷ []
piece_members (range k v j x) = range_member k v j x ∷ []
piece_members (three a b) = atom_member a ∷ atom_member (character kind.Symbol ascii.hyphen) ∷ atom_member b ∷ []

abbrev pub pieces_members : List Piece → List Member
pieces_members [] = []
pieces_members (p ∷ ps) = piece_members p ++ pieces_members ps

-- A class of pieces: a union of what they give, whose MayContainStrings (22.2.1.8) is false.
pub record IsClassOfPieces (e : Environment) (c : Class) (w rest : List CodePoint) : Type 0 where
  pub negative : Bool
  pub brackets : InBrackets negative w rest
  pub pieces : List Piece
  pub row : ElementRow {Place = Unit {0}} (λ q. SpellsPiece e) (λ q p more. tt) pieces tt brackets.inside tt (brackets.closer ∷ rest)
  pub class_is : c ≡ class nowhere negative false Union (members (pieces_members pieces))
