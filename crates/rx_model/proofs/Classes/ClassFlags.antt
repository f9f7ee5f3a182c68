-- In a row of class tokens each property has the flag that its name tells.
use Rattle.std.proofs.Common.{◌≡◌, List, [], ◌∷◌}
use Rattle.rx_ast.specs.declared.leaf.CharacterKind.TheVariants as kind
use Rattle.rx_units.specs.declared.code_point.CodePoint.{CodePoint}
use Rattle.rx_model.specs.Classes.ClassRows.{ClassTokenRow, Place, SpellsAtom, SpellsInClass, fresh, at_second, at_third, after_operator, in_strings, next_place}
use Rattle.rx_model.specs.Classes.ClassTokens.{Atom, character, escape, property, ClassToken, item}
use Rattle.rx_model.specs.Inputs.Environment.{Environment}
use Rattle.rx_model.specs.Trees.Early.{IsFlaggedProperty}
use Rattle.rx_model.proofs.Properties.PropertyFlags.{strings_by_name}

abbrev pub IsFlaggedAtom : Atom → Type 0
IsFlaggedAtom (character k v) = Unit {0}
IsFlaggedAtom (escape k) = Unit {0}
IsFlaggedAtom (property negative may name value) = IsFlaggedProperty may name

abbrev pub IsFlaggedToken : ClassToken → Type 0
IsFlaggedToken (item a) = IsFlaggedAtom a
IsFlaggedToken t = Unit {0}

abbrev pub AreFlaggedTokens : List ClassToken → Type 0
AreFlaggedTokens [] = Unit {0}
AreFlaggedTokens (t ∷ ts) = IsFlaggedToken t × AreFlaggedTokens ts

module _ (e : Environment) where
  pub atom_flagged : (a : Atom) (w more : List CodePoint) → SpellsAtom e a w more → IsFlaggedAtom a
  atom_flagged (character k v) w more s = tt
  atom_flagged (escape k) w more s = tt
  atom_flagged (property negative may name value) w more s = strings_by_name e.mode may name value s.text s.spelled

  second_flagged : (a : Atom) → a ≡ character kind.Symbol 45 → IsFlaggedAtom a
  second_flagged (character k v) h = tt
  second_flagged (escape k) h = tt
  second_flagged (property negative may name value) h = absurd (let no : ⊥ = cc h in no)

  item_flagged : (q : Place) (a : Atom) (w more : List CodePoint) → SpellsInClass e q (item a) w more → IsFlaggedAtom a
  item_flagged fresh a w more s = atom_flagged a w more s.0
  item_flagged at_second a w more s = second_flagged a s.0
  item_flagged at_third a w more s = atom_flagged a w more s
  item_flagged (after_operator o) a w more s = atom_flagged a w more s.1
  item_flagged in_strings a w more s = absurd s.1
  item_flagged q a w more s = absurd s

  token_flagged : (q : Place) (t : ClassToken) (w more : List CodePoint) → SpellsInClass e q t w more → IsFlaggedToken t
  token_flagged q (item a) w more s = item_flagged q a w more s
  token_flagged q t w more s = tt

  pub row_flagged : (ts : List ClassToken) (q : Place) (us : List CodePoint) (r : Place) (rest : List CodePoint) → ClassTokenRow e ts q us r rest → AreFlaggedTokens ts
  row_flagged [] q us r rest row = tt
  row_flagged (t ∷ ts) q us r rest (w, more, whole, s, row) = (token_flagged q t w more s, row_flagged ts (next_place e.mode q t more) more r rest row)
