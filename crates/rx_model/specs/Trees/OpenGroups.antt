-- Which groups are open after some tokens, and what a quantifier may follow (Term, 22.2.1 and B.1.2), with no machine.
use Rattle.std.specs.Prelude.{◌≡◌, ℕ, Option, List, [], ◌∷◌, ◌++◌}
use Rattle.rx_ast.specs.declared.leaf.LookAroundAssertionKind.TheVariants.{Lookahead, NegativeLookahead}
use Rattle.rx_model.specs.declared.mode.Mode.{Mode}
use Rattle.rx_model.specs.declared.mode.Mode.TheVariants.{Legacy}
use Rattle.rx_model.specs.Trees.Token.{Token, Opener, boundary, opener, closer, bar, quantifier, capturing, ignoring, looking}

-- whether a token neither opens a group nor closes one
abbrev pub IsBetween : Token → Type 0
IsBetween (opener o) = ⊥
IsBetween closer = ⊥
IsBetween t = Unit {0}

-- The tokens open and close groups of their own alone.
pub data AreClosed : List Token → Type 0 where
  none : AreClosed []
  further : (t : Token) (more : List Token) → IsBetween t → AreClosed more → AreClosed (t ∷ more)
  group : (o : Opener) (inside more : List Token) → AreClosed inside → AreClosed more → AreClosed (opener o ∷ (inside ++ (closer ∷ more)))

-- These groups are open after the tokens, the innermost first: before each stands what the outer ones hold, and after it groups of its own alone.
abbrev pub AreOpen : List Opener → List Token → Type 0
AreOpen [] ts = AreClosed ts
AreOpen (o ∷ os) ts = (before : List Token) × (inside : List Token) × (ts ≡ before ++ (opener o ∷ inside)) × AreOpen os before × AreClosed inside

-- An Atom that is one token.
abbrev pub IsAtom : Token → Type 0
IsAtom (boundary kind) = ⊥
IsAtom (opener o) = ⊥
IsAtom closer = ⊥
IsAtom bar = ⊥
IsAtom (quantifier min max greedy) = ⊥
IsAtom t = Unit {0}

-- What a quantifier may follow when it closes: a group is an Atom; with neither `u` nor `v` a lookahead is a QuantifiableAssertion.
pub data TakesQuantifier (mode : Mode) : Opener → Type 0 where
  of_capturing : (name : Option (List ℕ)) → TakesQuantifier mode (capturing name)
  of_ignoring : (bits : Option (ℕ × ℕ)) → TakesQuantifier mode (ignoring bits)
  of_lookahead : mode ≡ Legacy → TakesQuantifier mode (looking Lookahead)
  of_negative_lookahead : mode ≡ Legacy → TakesQuantifier mode (looking NegativeLookahead)

-- The tokens are one Atom or one QuantifiableAssertion.
pub data IsQuantifiable (mode : Mode) : List Token → Type 0 where
  atom : (t : Token) → IsAtom t → IsQuantifiable mode (t ∷ [])
  of_group : (o : Opener) (inside : List Token) → TakesQuantifier mode o → AreClosed inside → IsQuantifiable mode (opener o ∷ (inside ++ (closer ∷ [])))

-- The tokens end with one.
pub record EndsQuantifiable (mode : Mode) (ts : List Token) : Type 0 where
  pub before : List Token
  pub last : List Token
  pub whole : ts ≡ before ++ last
  pub quantifiable : IsQuantifiable mode last
