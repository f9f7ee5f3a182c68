-- The characters of a class string are a list that ends before a stop, and so are class strings with the `|` before each.
use Rattle.std.proofs.Common.{◌≡◌, refl, sym, ap, ap₂, ◌∙◌, subst, ◌<◌, ◌==◌, true, false, List, [], ◌++◌, length, arith, inl, inr}
use Rattle.rx_ast.specs.declared.leaf.Character.{Character}
use Rattle.rx_ast.specs.declared.class.ClassString.{ClassString}
use Rattle.rx_units.specs.declared.code_point.CodePoint.{CodePoint}
use Rattle.rx_units.specs.Units.{values}
use Rattle.rx_model.specs.Classes.ClassFromTokens.{character_of, string_of}
use Rattle.rx_model.specs.Classes.ClassFronts.{atom_at, atom_read, no_atom}
use Rattle.rx_model.specs.Classes.ClassRows.{SpellsClassCharacter}
use Rattle.rx_model.specs.Classes.ClassStrings.{IsStringEnd, IsDisjunctionEnd, StringRow, SpellsBarredString, SpellsSetCharacter, of_bar, of_character}
use Rattle.rx_model.specs.Classes.ClassTokens.{character}
use Rattle.rx_model.specs.FirstPass.Marks.{starts}
use Rattle.rx_model.specs.Inputs.Environment.{Environment, is_sets}
use Rattle.rx_model.proofs.Classes.ClassFronts.{atom_is_read, atom_some, no_set_atom}
use Rattle.rx_model.proofs.Classes.OneAtom.{one_atom}
use Rattle.rx_units.proofs.Sequences.{one}
use Rattle.rx_model.proofs.Reading.Splits.{starts_there}

module _ (e : Environment) where
  pub by_class_character : (c : Character) (w rest : List CodePoint) → SpellsSetCharacter e c w rest → (is_sets e.mode ≡ true) × SpellsClassCharacter e c.kind c.value w rest
  by_class_character _ _ _ (of_character m s) = (m, s)

  pub one_character : (q : Unit {0}) (c d : Character) (w more v rest : List CodePoint) → w ++ more ≡ v ++ rest → SpellsSetCharacter e c w more → SpellsSetCharacter e d v rest → (c ≡ d) × (more ≡ rest)
  one_character q _ _ w more v rest h (of_character {k} {v = x} m s) (of_character {k = j} {v = y} n t) =
      let o = one_atom e (character k x) (character j y) w more v rest h s t in
      let same = o.0 in
      (ap₂ character_of (let kinds : k ≡ j = cc same in kinds) (let values : x ≡ y = cc same in values), o.1)

  pub character_some : (q : Unit {0}) (c : Character) (rest : List CodePoint) → SpellsSetCharacter e c [] rest → ⊥
  character_some q c rest s =
      let k : ⊥ = omega (arith, atom_some e (character c.kind c.value) [] rest (by_class_character c [] rest s).1) in k

  -- no character where no atom is read
  no_character : (us : List CodePoint) → (is_sets e.mode ≡ true → atom_at e us ≡ no_atom) → (c : Character) (w rest : List CodePoint) → us ≡ w ++ rest → SpellsSetCharacter e c w rest → ⊥
  no_character us none c w rest h s =
      let b = by_class_character c w rest s in
      let no : no_atom ≡ atom_read (character c.kind c.value) (length w) = sym (none b.0) ∙ ap (atom_at e) h ∙ atom_is_read e (character c.kind c.value) w rest b.1 in
      let k : ⊥ = cc no in k

  pub none_at_string_end : (q : Unit {0}) (us : List CodePoint) → IsStringEnd us → (c : Character) (w rest : List CodePoint) → us ≡ w ++ rest → SpellsSetCharacter e c w rest → ⊥
  none_at_string_end q us (inl bar) = let f = starts_there 124 (values us) bar in no_character us (λ m. no_set_atom e us 124 f.0 m f.1 refl refl)
  none_at_string_end q us (inr closed) = let f = starts_there 125 (values us) closed in no_character us (λ m. no_set_atom e us 125 f.0 m f.1 refl refl)

  pub one_string : (q : Unit {0}) (s t : ClassString) (w more v rest : List CodePoint) → w ++ more ≡ v ++ rest → SpellsBarredString e s w more → SpellsBarredString e t v rest → (s ≡ t) × (more ≡ rest)
  one_string q _ _ _ more _ rest h (of_bar bar cs w is row ends) (of_bar second ds v second_is second_row second_ends) =
      let place_after : Unit {0} → Character → List CodePoint → Unit {0} = λ q c rest. tt in
      let o =
      one (λ q. SpellsSetCharacter e) place_after one_character (λ q us. IsStringEnd us) none_at_string_end cs ds tt (w ++ more) tt more tt rest row ends
      (subst (λ us. StringRow e ds us rest) (let same : v ++ rest ≡ w ++ more = cc h in same) second_row) second_ends in
      (ap string_of o.0, o.2)

  string_takes_some : (s : ClassString) (w rest : List CodePoint) → SpellsBarredString e s w rest → 0 < length w
  string_takes_some _ _ rest (of_bar bar cs w is row ends) = omega arith

  pub string_some : (q : Unit {0}) (s : ClassString) (rest : List CodePoint) → SpellsBarredString e s [] rest → ⊥
  string_some q s rest b = let k : ⊥ = omega (arith, string_takes_some s [] rest b) in k

  pub bar_first : (s : ClassString) (w rest : List CodePoint) → SpellsBarredString e s w rest → starts 124 (values (w ++ rest)) ≡ true
  bar_first _ _ rest (of_bar bar cs w is row ends) = ap (λ c. c == 124) is

  pub none_at_strings_end : (q : Unit {0}) (us : List CodePoint) → IsDisjunctionEnd us → (s : ClassString) (w rest : List CodePoint) → us ≡ w ++ rest → SpellsBarredString e s w rest → ⊥
  none_at_strings_end q us closed s w rest h b =
      let f = starts_there 125 (values us) closed in
      let no : false ≡ true = ap (starts 124) (sym f.1) ∙ ap (λ us. starts 124 (values us)) h ∙ bar_first s w rest b in
      let k : ⊥ = cc no in k
