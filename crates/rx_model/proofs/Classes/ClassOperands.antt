-- The items of a union are a list that ends before a stop, and so are the operands of an intersection or a subtraction with the operator before each.
use Rattle.std.proofs.Common.{◌≡◌, refl, sym, ap, ap₂, ◌∙◌, subst, ℕ, ◌<◌, ◌==◌, true, false, List, [], ◌∷◌, ◌++◌, length, drop, append_assoc, length-append, arith}
use Rattle.std.proofs.Math.Seq.{drop-append_seam}
use Rattle.rx_base.specs.declared.diagnostic.kinds.SetOperator.{SetOperator}
use Rattle.rx_base.specs.declared.diagnostic.kinds.SetOperator.TheVariants.{Intersection, Subtraction}
use Rattle.rx_ast.specs.declared.leaf.Character.{Character}
use Rattle.rx_ast.specs.declared.leaf.CharacterKind.{CharacterKind}
use Rattle.rx_ast.specs.declared.class.ClassString.{ClassString}
use Rattle.rx_ast.specs.ClassTree.{Class, Member, nested}
use Rattle.rx_units.specs.declared.code_point.CodePoint.{CodePoint}
use Rattle.rx_units.specs.Units.{values}
use Rattle.rx_model.specs.Classes.ClassFromTokens.{atom_member, range_member, string_of, strings_member}
use Rattle.rx_model.specs.Classes.ClassFronts.{atom_at, atom_read, no_atom}
use Rattle.rx_model.specs.Classes.ClassOperands.{IsCharacter, IsOperandsEnd, SpellsFurtherOperand, SpellsOperator, SpellsUnionItem, SpellsWholeOperand, of_atom, of_class, of_operand, of_operator, of_range, of_strings}
use Rattle.rx_model.specs.Classes.ClassRows.{BeforeHigh, IsClass, SpellsAtom}
use Rattle.rx_model.specs.Classes.ClassStrings.{BarredRow, IsStringEnd, IsDisjunctionEnd, SpellsBarredString, SpellsSetCharacter, SpellsStrings, StringRow}
use Rattle.rx_model.specs.Classes.ClassTokens.{Atom, character}
use Rattle.rx_model.specs.FirstPass.Marks.{starts}
use Rattle.rx_model.specs.Inputs.Environment.{Environment, is_sets}
use Rattle.rx_model.proofs.Classes.ClassFronts.{atom_is_read, atom_some, no_set_atom, no_strings_atom, text_of, units}
use Rattle.rx_model.proofs.Classes.ClassReads.{class_opens, class_takes_some}
use Rattle.rx_model.proofs.Classes.ClassStrings.{none_at_string_end, none_at_strings_end, one_character, one_string}
use Rattle.rx_model.proofs.Classes.OneAtom.{none_at_closer, one_atom}
use Rattle.rx_model.proofs.Classes.OneClass.{one_class}
use Rattle.rx_model.proofs.Classes.StringTokens.{first_ends, row_front}
use Rattle.rx_units.proofs.Sequences.{one}

-- What follows two fronts of one text that are equally long is one.
same_back : (w v more rest : List CodePoint) → length w ≡ length v → w ++ more ≡ v ++ rest → more ≡ rest
same_back w v more rest l h = sym (drop-append_seam w more) ∙ ap₂ drop l h ∙ drop-append_seam v rest

module _ (e : Environment) where
  -- what an operand that is no atom begins with
  class_text : (c : Class) (w rest : List CodePoint) → IsClass e c w rest → (v : List ℕ) × (values (w ++ rest) ≡ 91 ∷ v)
  class_text c w rest is = let o = class_opens e c w rest is in (values o.1, ap values o.2 ∙ ap (λ c. c ∷ values o.1) o.3)

  strings_text : (ss : List ClassString) (w rest : List CodePoint) → SpellsStrings e ss w rest → (v : List ℕ) × (values (w ++ rest) ≡ 92 ∷ 113 ∷ v)
  strings_text ss w rest s = (123 ∷ values s.inside, ap values s.whole ∙ text_of s.opener s.inside (92 ∷ 113 ∷ 123 ∷ []) s.opener_is)

  pub atom_there : (us : List CodePoint) → atom_at e us ≡ no_atom → (a : Atom) (w rest : List CodePoint) → us ≡ w ++ rest → SpellsAtom e a w rest → ⊥
  atom_there us none a w rest h s = let no : no_atom ≡ atom_read a (length w) = sym none ∙ ap (atom_at e) h ∙ atom_is_read e a w rest s in let k : ⊥ = cc no in k

  no_class : (a : Atom) (c : Class) (w more v rest : List CodePoint) → w ++ more ≡ v ++ rest → SpellsAtom e a w more → is_sets e.mode ≡ true → IsClass e c v rest → ⊥
  no_class a c w more v rest h s m is = let t = class_text c v rest is in atom_there (v ++ rest) (no_set_atom e (v ++ rest) 91 t.0 m t.1 refl refl) a w more (sym h) s

  no_strings : (a : Atom) (ss : List ClassString) (w more v rest : List CodePoint) → w ++ more ≡ v ++ rest → SpellsAtom e a w more → SpellsStrings e ss v rest → ⊥
  no_strings a ss w more v rest h s t = let x = strings_text ss v rest t in atom_there (v ++ rest) (no_strings_atom e (v ++ rest) x.0 t.sets x.1) a w more (sym h) s

  apart : (c : Class) (ss : List ClassString) (w more v rest : List CodePoint) → w ++ more ≡ v ++ rest → IsClass e c w more → SpellsStrings e ss v rest → ⊥
  apart c ss w more v rest h is s =
      let no : true ≡ false = ap (starts 91) (sym (class_text c w more is).1 ∙ ap values h ∙ (strings_text ss v rest s).1) in
      let k : ⊥ = cc no in k

  one_strings : (ss ts : List ClassString) (w more v rest : List CodePoint) → w ++ more ≡ v ++ rest → SpellsStrings e ss w more → SpellsStrings e ts v rest → (ss ≡ ts) × (more ≡ rest)
  one_strings ss ts w more v rest h s t =
      let inside = same_back s.opener t.opener s.inside t.inside (sym (units s.opener _ s.opener_is) ∙ units t.opener _ t.opener_is) (sym s.whole ∙ h ∙ t.whole) in
      let of_character : Unit {0} → Character → List CodePoint → Unit {0} = λ q c rest. tt in
      let first =
      one (λ q. SpellsSetCharacter e) of_character (one_character e) (λ q us. IsStringEnd us) (none_at_string_end e) s.first t.first tt s.inside tt s.further tt t.further s.first_row (first_ends e s.more s.further s.closer more s.closer_is s.more_row)
      (subst (λ us. StringRow e t.first us t.further) (sym inside) t.first_row) (first_ends e t.more t.further t.closer rest t.closer_is t.more_row) in
      let of_string : Unit {0} → ClassString → List CodePoint → Unit {0} = λ q c rest. tt in
      let others =
      one (λ q. SpellsBarredString e) of_string (one_string e) (λ q us. IsDisjunctionEnd us) (none_at_strings_end e) s.more t.more tt s.further tt (s.closer ∷ more) tt (t.closer ∷ rest) s.more_row (ap (λ c. c == 125) s.closer_is)
      (subst (λ us. BarredRow e t.more us (t.closer ∷ rest)) (sym first.2) t.more_row) (ap (λ c. c == 125) t.closer_is) in
      let backs = others.2 in
      (s.strings_are ∙ ap₂ (λ cs ss. string_of cs ∷ ss) first.0 others.0 ∙ sym t.strings_are, (let same : more ≡ rest = cc backs in same))

  pub one_operand : (m n : Member) (w more v rest : List CodePoint) → w ++ more ≡ v ++ rest → SpellsWholeOperand e m w more → SpellsWholeOperand e n v rest → (m ≡ n) × (more ≡ rest)
  one_operand _ _ w more v rest h (of_atom a s) (of_atom b t) = let o = one_atom e a b w more v rest h s t in (ap atom_member o.0, o.1)
  one_operand _ _ w more v rest h (of_atom a s) (of_class d m t) = absurd (no_class a d w more v rest h s m t)
  one_operand _ _ w more v rest h (of_atom a s) (of_strings ts t) = absurd (no_strings a ts w more v rest h s t)
  one_operand _ _ w more v rest h (of_class c m s) (of_atom b t) = absurd (no_class b c v rest w more (sym h) t m s)
  one_operand _ _ w more v rest h (of_class c m s) (of_class d n t) = let o = one_class e c d w more v rest s t h in (ap nested o.0, o.1)
  one_operand _ _ w more v rest h (of_class c m s) (of_strings ts t) = absurd (apart c ts w more v rest h s t)
  one_operand _ _ w more v rest h (of_strings ss s) (of_atom b t) = absurd (no_strings b ss v rest w more (sym h) t s)
  one_operand _ _ w more v rest h (of_strings ss s) (of_class d n t) = absurd (apart d ss v rest w more (sym h) t s)
  one_operand _ _ w more v rest h (of_strings ss s) (of_strings ts t) = let o = one_strings ss ts w more v rest h s t in (ap strings_member o.0, o.1)

  strings_some : (ss : List ClassString) (w rest : List CodePoint) → SpellsStrings e ss w rest → 0 < length w
  strings_some ss w rest s =
      let first = row_front (λ q. SpellsSetCharacter e) s.first s.inside s.further s.first_row in
      let others = row_front (λ q. SpellsBarredString e) s.more s.further (s.closer ∷ rest) s.more_row in
      omega (arith, ap length s.whole, length-append w rest, length-append s.opener s.inside, ap length first.1, length-append first.0 s.further, ap length others.1, length-append others.0 (s.closer ∷ rest))

  pub operand_some : (m : Member) (w rest : List CodePoint) → SpellsWholeOperand e m w rest → 0 < length w
  operand_some _ w rest (of_atom a s) = atom_some e a w rest s
  operand_some _ w rest (of_class c m is) = class_takes_some e c w rest is
  operand_some _ w rest (of_strings ss s) = strings_some ss w rest s

  no_operand : (us : List CodePoint) → IsOperandsEnd us → (m : Member) (w rest : List CodePoint) → us ≡ w ++ rest → SpellsWholeOperand e m w rest → ⊥
  no_operand us closed _ w rest h (of_atom a s) = none_at_closer e us closed a w rest h s
  no_operand us closed _ w rest h (of_class c m is) =
      let no : true ≡ false = sym closed ∙ ap (λ us. starts 93 (values us)) h ∙ ap (starts 93) (class_text c w rest is).1 in let k : ⊥ = cc no in k
  no_operand us closed _ w rest h (of_strings ss s) =
      let no : true ≡ false = sym closed ∙ ap (λ us. starts 93 (values us)) h ∙ ap (starts 93) (strings_text ss w rest s).1 in let k : ⊥ = cc no in k

  -- A range is no operand.
  no_range : (k j : CharacterKind) (v x : ℕ) (low : List CodePoint) (hyphen : CodePoint) (high rest : List CodePoint) → SpellsAtom e (character k v) low (hyphen ∷ (high ++ rest)) → hyphen.value ≡ 45 → SpellsAtom e (character j x) high rest →
      (m : Member) (w more : List CodePoint) → (low ++ (hyphen ∷ high)) ++ rest ≡ w ++ more → SpellsWholeOperand e m w more → (IsCharacter m → BeforeHigh e more → ⊥) → ⊥
  no_range k j v x low hyphen high rest s is t m w more h operand none =
      let o = one_operand (atom_member (character k v)) m low (hyphen ∷ (high ++ rest)) w more (sym (append_assoc low (hyphen ∷ high) rest) ∙ h) (of_atom (character k v) s) operand in
      none (subst IsCharacter o.0 tt) (subst (BeforeHigh e) o.1 (record { hyphen = hyphen; kind = j; value = x; w = high; more = rest; whole = refl; hyphen_is = is; spelled = t }))

  pub one_item : (q : Unit {0}) (m n : Member) (w more v rest : List CodePoint) → w ++ more ≡ v ++ rest → SpellsUnionItem e m w more → SpellsUnionItem e n v rest → (m ≡ n) × (more ≡ rest)
  one_item q _ _ w more v rest h (of_operand s none) (of_operand t nothing) = one_operand _ _ w more v rest h s t
  one_item q _ n _ more v rest h (of_range {k} {j} {v = a} {x} low hyphen high s is t) (of_operand operand none) = absurd (no_range k j a x low hyphen high more s is t n v rest h operand none)
  one_item q m _ w more _ rest h (of_operand operand none) (of_range {k} {j} {v = a} {x} low hyphen high s is t) = absurd (no_range k j a x low hyphen high rest s is t m w more (sym h) operand none)
  one_item q _ _ _ more _ rest h (of_range {k} {j} {v = a} {x} low hyphen high s is t) (of_range {k = l} {j = i} {v = b} {x = y} low_too hyphen_too high_too s_too is_too t_too) =
      let o =
      one_atom e (character k a) (character l b) low (hyphen ∷ (high ++ more)) low_too (hyphen_too ∷ (high_too ++ rest))
      (sym (append_assoc low (hyphen ∷ high) more) ∙ h ∙ append_assoc low_too (hyphen_too ∷ high_too) rest) s s_too in
      let tails = o.1 in
      let p = one_atom e (character j x) (character i y) high more high_too rest (let same : high ++ more ≡ high_too ++ rest = cc tails in same) t t_too in
      (ap₂ range_of o.0 p.0, p.1)
    where
      range_of : Atom → Atom → Member
      range_of (character k v) (character j x) = range_member k v j x
      range_of a b = atom_member a

  pub item_some : (q : Unit {0}) (m : Member) (rest : List CodePoint) → SpellsUnionItem e m [] rest → ⊥
  item_some q m rest s = let k : ⊥ = omega (arith, takes_some m [] rest s) in k
    where
      takes_some : (m : Member) (w rest : List CodePoint) → SpellsUnionItem e m w rest → 0 < length w
      takes_some _ _ rest (of_range low hyphen high s is t) = omega (arith, length-append low (hyphen ∷ high))
      takes_some m w rest (of_operand s none) = operand_some m w rest s

  pub none_at_items_end : (q : Unit {0}) (us : List CodePoint) → IsOperandsEnd us → (m : Member) (w rest : List CodePoint) → us ≡ w ++ rest → SpellsUnionItem e m w rest → ⊥
  none_at_items_end q us closed _ _ rest h (of_range {k} {v} low hyphen high s is t) = none_at_closer e us closed (character k v) low (hyphen ∷ (high ++ rest)) (h ∙ append_assoc low (hyphen ∷ high) rest) s
  none_at_items_end q us closed m w rest h (of_operand s none) = no_operand us closed m w rest h s

-- An operator begins with no `]`.
operator_first : (o : SetOperator) (w rest more : List CodePoint) → SpellsOperator o w rest → starts 93 (values (w ++ more)) ≡ false
operator_first Intersection w rest more s = ap (starts 93) (text_of w more (38 ∷ 38 ∷ []) s.0)
operator_first Subtraction w rest more s = ap (starts 93) (text_of w more (45 ∷ 45 ∷ []) s.0)

module _ (s : Environment × SetOperator) where
  pub one_further : (q : Unit {0}) (m n : Member) (w more v rest : List CodePoint) → w ++ more ≡ v ++ rest → SpellsFurtherOperand s.0 s.1 m w more → SpellsFurtherOperand s.0 s.1 n v rest → (m ≡ n) × (more ≡ rest)
  one_further q m n _ more _ rest h (of_operator operator w is operand) (of_operator operator_too v is_too operand_too) =
      one_operand s.0 m n w more v rest
      (same_back operator operator_too (w ++ more) (v ++ rest) (sym (units operator _ is.0) ∙ units operator_too _ is_too.0)
      (sym (append_assoc operator w more) ∙ h ∙ append_assoc operator_too v rest)) operand operand_too

  pub further_some : (q : Unit {0}) (m : Member) (rest : List CodePoint) → SpellsFurtherOperand s.0 s.1 m [] rest → ⊥
  further_some q m rest f = let k : ⊥ = omega (arith, takes_some m [] rest f) in k
    where
      takes_some : (m : Member) (w rest : List CodePoint) → SpellsFurtherOperand s.0 s.1 m w rest → 0 < length w
      takes_some m _ rest (of_operator operator w is operand) = omega (arith, length-append operator w, operand_some s.0 m w rest operand)

  pub none_at_operands_end : (q : Unit {0}) (us : List CodePoint) → IsOperandsEnd us → (m : Member) (w rest : List CodePoint) → us ≡ w ++ rest → SpellsFurtherOperand s.0 s.1 m w rest → ⊥
  none_at_operands_end q us closed m _ rest h (of_operator operator w is operand) =
      let no : true ≡ false = sym closed ∙ ap (λ us. starts 93 (values us)) (h ∙ append_assoc operator w rest) ∙ operator_first s.1 operator (w ++ rest) (w ++ rest) is in
      let k : ⊥ = cc no in k
