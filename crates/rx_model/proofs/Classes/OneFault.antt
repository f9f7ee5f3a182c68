-- At one place of a class at most one refusal holds that says no more than that nothing stands there, and at most one other.
use Rattle.std.proofs.Common.{◌≡◌, ◌⊎◌, refl, ap, sym, ◌∙◌, subst, ℕ, ◌+◌, ◌==◌, ◌&&◌, Bool, true, false, cond, Option, Some, None, List, [], ◌∷◌, ◌++◌, length, arith, inl, inr, length-append}
use Rattle.std.specs.Prelude.{All}
use Rattle.std.proofs.lemmas.Bool.{both_ways, cases_Bool, cond-false, cond-true, eqb-true, or_cases, true≢false}
use Rattle.std.proofs.lemmas.List.Elements.{All-head}
use Rattle.std.proofs.Math.Bool.{and-false}
use Rattle.rx_base.specs.declared.diagnostic.Diagnostic.{Diagnostic}
use Rattle.rx_base.specs.declared.diagnostic.Diagnostic.TheVariants.{UnterminatedPattern, ClassSetExpressionInvalidCharacter}
use Rattle.rx_base.specs.declared.diagnostic.kinds.SetOperator.{SetOperator}
use Rattle.rx_base.specs.declared.diagnostic.kinds.SetOperator.TheVariants.{Intersection, Subtraction}
use Rattle.rx_base.specs.declared.diagnostic.kinds.Unterminated.TheVariants as what
use Rattle.rx_units.specs.declared.code_point.CodePoint.{CodePoint}
use Rattle.rx_units.specs.Units.{values}
use Rattle.rx_model.specs.declared.mode.Mode.{Mode}
use Rattle.rx_model.specs.Refusals.ClassCauses.{of_negative, unterminated}
use Rattle.rx_model.specs.Refusals.ClassPlaces.{IsOfStrings, begins_item}
use Rattle.rx_model.specs.Classes.ClassRows.{ClassTokenRow, Place, SpellsAtom, outside, fresh, at_dash, at_high, at_second, at_third, after_operator, in_strings}
use Rattle.rx_model.specs.Classes.ClassRuns.{Bracket, Brackets, Held, empty, single, several, after_step, bracket_of, class_run_from_start, class_run, class_step, is_union, operand, operator_of, where_may}
use Rattle.rx_model.specs.Classes.ClassTokens.{Atom, ClassToken, bracket, strings, is_character}
use Rattle.rx_model.specs.Inputs.Environment.{Environment, is_sets}
use Rattle.rx_model.specs.FirstPass.Marks.{starts}
use Rattle.rx_model.specs.Properties.PropertyForms.{begins_property}
use Rattle.rx_model.specs.Refusals.EscapeCauses.{IsEscapeCause, IsPropertyCause}
use Rattle.rx_model.specs.Refusals.Reached.{span_between, class_environment}
use Rattle.rx_model.specs.Refusals.Stops.{begins_class_escape}
use Rattle.rx_model.proofs.Classes.ClassFaults.{State, Opens, Strings, Nothing, in_class, no_operand, no_operator, in_class_strings, RangeFault, range_fault, Elsewhere, at_atom, after_range, of_range, Said, elsewhere, after_dash, ampersand, closing, is_some_token}
use Rattle.rx_model.proofs.Classes.ClassStates.{run_in}
use Rattle.rx_model.proofs.Classes.ClassStops.{AtomFault, bad_escape, in_escape, in_property, backslash_first, no_atom_there, no_item_there, same_atom}
use Rattle.rx_model.proofs.Classes.RefusedAtoms.{atom_begins, escape_first}
use Rattle.rx_model.proofs.Reading.Prefixes.{class_prefixes}
use Rattle.rx_model.proofs.Refusals.BlockedPlaces.{last_all}
use Rattle.rx_model.proofs.Refusals.OneEscape.{not_both, one_escape}
use Rattle.rx_model.proofs.Properties.OneProperty.{one_property}
use Rattle.rx_model.proofs.Properties.PropertyRefusals.{property_first}

-- A property escape begins an escape of a class.
property_begins : (e : Environment) (c : ℕ) (w : List ℕ) → begins_property c ≡ true → begins_class_escape e (c ∷ w) ≡ true
property_begins e c w h = elim (or_cases (c == 112) (c == 80) h) [
  | inl p ↦ ap (λ c. begins_class_escape e (c ∷ w)) (eqb-true c 112 p)
  | inr p ↦ ap (λ c. begins_class_escape e (c ∷ w)) (eqb-true c 80 p)
]

-- Tokens that lead on from tokens which they are lead nowhere.
none_more : (ts xs : List ClassToken) → ts ≡ ts ++ xs → xs ≡ []
none_more ts [] h = refl
none_more ts (x ∷ xs) h = absurd (omega (arith, ap length h, length-append ts (x ∷ xs)))

-- brackets after some tokens, and after more
record Splits (ts ss : List ClassToken) (bs cs : Brackets) : Type 0 where
  middle : Brackets
  first : class_run ts bs ≡ Some middle
  others : class_run ss middle ≡ Some cs

splits : (ts ss : List ClassToken) (bs cs : Brackets) → class_run (ts ++ ss) bs ≡ Some cs → Splits ts ss bs cs
splits [] ss bs cs h = record { middle = bs; first = refl; others = h }
splits (t ∷ ts) ss bs cs h = go (class_step t bs) refl (λ more. splits ts ss more cs)
  where
    go : (o : Option Brackets) → class_step t bs ≡ o → ((more : Brackets) → class_run (ts ++ ss) more ≡ Some cs → Splits ts ss more cs) → Splits (t ∷ ts) ss bs cs
    go None e again = absurd (let no : None ≡ Some cs = ap (λ o. after_step o (λ bs. class_run (ts ++ ss) bs)) (sym e) ∙ h in let f : ⊥ = cc no in f)
    go (Some more) e again =
        let s = again more (ap (λ o. after_step o (λ bs. class_run (ts ++ ss) bs)) (sym e) ∙ h) in
        record { middle = s.middle; first = ap (λ o. after_step o (λ bs. class_run ts bs)) e ∙ s.first; others = s.others }

abbrev pub some_brackets : Brackets → Option Brackets
some_brackets bs = Some bs

-- A bracket that opens in others does not stand alone.
not_alone : (ts : List ClassToken) (bs : Brackets) (b c : Bracket) → class_run_from_start ts ≡ Some (b ∷ []) → class_run ts bs ≡ Some (c ∷ []) → ⊥
not_alone [] bs b c h run = cc h
not_alone ((bracket negative) ∷ ts) [] b c h run = cc run
not_alone ((bracket negative) ∷ ts) (x ∷ bs) b c h run = by (operand x.held) refl
  where
    by : (o : Option Held) → operand x.held ≡ o → ⊥
    by None e =
        let no : None ≡ some_brackets (c ∷ []) = ap (λ o. after_step (where_may o (bracket_of negative empty false ∷ x ∷ bs)) (λ bs. class_run ts bs)) (sym e) ∙ run in cc no
    by (Some held) e =
        let there = ap (λ o. after_step (where_may o (bracket_of negative empty false ∷ x ∷ bs)) (λ bs. class_run ts bs)) (sym e) ∙ run in
        let no : some_brackets (c ∷ []) ≡ some_brackets (b ∷ x ∷ bs) = sym there ∙ run_in ts (bracket_of negative empty false) [] (x ∷ bs) b [] h in
        cc no
not_alone (t ∷ ts) bs b c h run = cc h

-- The innermost bracket opens at one place.
no_inner : (t : ClassToken) (ts inside all : List ClassToken) (b c : Bracket) → all ≡ (t ∷ ts) ++ inside → class_run_from_start all ≡ Some (c ∷ []) → class_run_from_start inside ≡ Some (b ∷ []) → ⊥
no_inner t ts inside all b c e h k = by t (ap class_run_from_start (sym e) ∙ h)
  where
    by : (t : ClassToken) → class_run_from_start ((t ∷ ts) ++ inside) ≡ Some (c ∷ []) → ⊥
    by (bracket negative) run = let s = splits ts inside (bracket_of negative empty false ∷ []) (c ∷ []) run in not_alone inside s.middle b c k s.others
    by q run = cc run

one_opening : (ts us ss vs : List ClassToken) (b c : Bracket) → ts ++ us ≡ ss ++ vs → class_run_from_start us ≡ Some (b ∷ []) → class_run_from_start vs ≡ Some (c ∷ []) → ts ≡ ss
one_opening [] us [] vs b c e h k = refl
one_opening [] us (s ∷ ss) vs b c e h k = absurd (no_inner s ss vs us c b e h k)
one_opening (t ∷ ts) us [] vs b c e h k = absurd (no_inner t ts us vs b c (sym e) k h)
one_opening (t ∷ ts) us (s ∷ ss) vs b c e h k =
    let first : t ≡ s = cc e in
    let others = one_opening ts us ss vs b c (cc e) h k in
    ap (λ t. t ∷ ts) first ∙ ap (λ ts. s ∷ ts) others

-- Class strings open at one place.
one_strings : (ts us ss vs : List ClassToken) → ts ++ (strings ∷ us) ≡ ss ++ (strings ∷ vs) → All IsOfStrings us → All IsOfStrings vs → ts ≡ ss
one_strings [] us [] vs e h k = refl
one_strings [] us (s ∷ ss) vs e h k =
    let others : us ≡ ss ++ (strings ∷ vs) = cc e in
    absurd (All-head IsOfStrings strings vs (last_all IsOfStrings ss (strings ∷ vs) (subst (All IsOfStrings) others h)))
one_strings (t ∷ ts) us [] vs e h k =
    let others : vs ≡ ts ++ (strings ∷ us) = cc (sym e) in
    absurd (All-head IsOfStrings strings us (last_all IsOfStrings ts (strings ∷ us) (subst (All IsOfStrings) others k)))
one_strings (t ∷ ts) us (s ∷ ss) vs e h k =
    let first : t ≡ s = cc e in
    let others = one_strings ts us ss vs (cc e) h k in
    ap (λ t. t ∷ ts) first ∙ ap (λ ts. s ∷ ts) others

pub union_no_operator : (held : Held) (operator : SetOperator) → is_union held ≡ true → operator_of held ≡ Some operator → ⊥
union_no_operator empty operator u h = cc h
union_no_operator single operator u h = cc h
union_no_operator several operator u h = cc h
union_no_operator held operator u h = true≢false (sym u)

-- What is refused: what stands before a `]`, a third `&`, a `-` that begins no range, or elsewhere.
data Front : Type 0 where
  before_closer : Front
  before_ampersand : Front
  before_dash : Front
  before_other : Front

abbrev is_after_intersection : Place → Bool
is_after_intersection outside = false
is_after_intersection fresh = false
is_after_intersection at_dash = false
is_after_intersection at_high = false
is_after_intersection at_second = false
is_after_intersection at_third = false
is_after_intersection (after_operator Intersection) = true
is_after_intersection (after_operator Subtraction) = false
is_after_intersection in_strings = false

abbrev front_at : Mode → Place → List ℕ → Front
front_at mode at w =
    cond (starts 93 w) before_closer (cond (starts 38 w && is_after_intersection at) before_ampersand (cond (starts 45 w && is_sets mode) before_dash before_other))

-- before a unit that is none of these
front_other : (mode : Mode) (at : Place) (c : ℕ) (w : List ℕ) → at ≡ fresh → (c == 93) ≡ false → (is_sets mode ≡ true → (c == 45) ≡ false) → front_at mode at (c ∷ w) ≡ before_other
front_other mode at c w is no_closer no_dash =
    cond-false (c == 93) _ _ no_closer
    ∙ cond-false (c == 38 && is_after_intersection at) _ _ (ap (λ at. c == 38 && is_after_intersection at) is ∙ and-false (c == 38))
    ∙ cond-false (c == 45 && is_sets mode) _ _ (by (is_sets mode) refl)
  where
    by : (b : Bool) → is_sets mode ≡ b → (c == 45 && is_sets mode) ≡ false
    by true sets = ap (λ b. b && is_sets mode) (no_dash sets)
    by false sets = ap (λ b. c == 45 && b) sets ∙ and-false (c == 45)

module _ (mode : Mode) (us : List CodePoint) (start added from : ℕ) (at_class : List CodePoint) where
  abbrev here : Environment
  here = class_environment mode us

  abbrev EscapeFault : ℕ → List CodePoint → Diagnostic → Type 0
  EscapeFault = AtomFault mode us start added

  abbrev Opened : List ClassToken → Bool → ℕ → Type 0
  Opened = Opens mode us start added from at_class

  abbrev Saying : State → ℕ → Diagnostic → Type 0
  Saying = Said mode us start added from at_class

  abbrev Other : State → ℕ → Diagnostic → Type 0
  Other = Elsewhere mode us start added from at_class

  abbrev NoItem : State → Diagnostic → Type 0
  NoItem = Nothing mode us start added from at_class

  -- What begins an escape that is refused begins an escape in a class.
  no_bad_escape : (f : ℕ) (rest : List CodePoint) (backslash : CodePoint) (w : List CodePoint) (d : Diagnostic) → rest ≡ backslash ∷ w → begins_class_escape here (values w) ≡ false → IsEscapeCause mode us start added f rest d → ⊥
  no_bad_escape f rest backslash w d h no_escape c =
      let e = escape_first here us start added f rest d c in
      let text : 92 ∷ 117 ∷ e.0 ≡ backslash.value ∷ values w = sym e.1 ∙ ap values h in
      let text_after : values w ≡ 117 ∷ e.0 = cc text in
      let k : begins_class_escape here (117 ∷ e.0) ≡ false = ap (begins_class_escape here) (sym text_after) ∙ no_escape in
      true≢false k

  no_bad_property : (f : ℕ) (rest : List CodePoint) (backslash : CodePoint) (w : List CodePoint) (d : Diagnostic) → rest ≡ backslash ∷ w → begins_class_escape here (values w) ≡ false → IsPropertyCause mode us start added f rest d → ⊥
  no_bad_property f rest backslash w d h no_escape c =
      let p = property_first mode us start added f rest d c in
      let text : 92 ∷ p.0 ∷ p.1 ≡ backslash.value ∷ values w = sym p.2 ∙ ap values h in
      let text_after : values w ≡ p.0 ∷ p.1 = cc text in
      both_ways (begins_class_escape here (p.0 ∷ p.1)) (ap (begins_class_escape here) (sym text_after) ∙ no_escape) (property_begins here p.0 p.1 p.3)

  one_escape_fault : (f : ℕ) (rest : List CodePoint) (d e : Diagnostic) → EscapeFault f rest d → EscapeFault f rest e → d ≡ e
  one_escape_fault f rest _ _ (bad_escape b w no_sets h is no_escape) (bad_escape c v also k is' no_escape') = refl
  one_escape_fault f rest _ e (bad_escape b w no_sets h is no_escape) (in_escape c) = absurd (no_bad_escape f rest b w e h no_escape c)
  one_escape_fault f rest _ e (bad_escape b w no_sets h is no_escape) (in_property c) = absurd (no_bad_property f rest b w e h no_escape c)
  one_escape_fault f rest d _ (in_escape c) (bad_escape b w no_sets h is no_escape) = absurd (no_bad_escape f rest b w d h no_escape c)
  one_escape_fault f rest d e (in_escape c) (in_escape k) = one_escape mode us start added f rest d e c k
  one_escape_fault f rest d e (in_escape c) (in_property k) = absurd (not_both mode us start added f rest d e c k)
  one_escape_fault f rest d _ (in_property c) (bad_escape b w no_sets h is no_escape) = absurd (no_bad_property f rest b w d h no_escape c)
  one_escape_fault f rest d e (in_property c) (in_escape k) = absurd (not_both mode us start added f rest e d k c)
  one_escape_fault f rest d e (in_property c) (in_property k) = one_property mode us start added f rest d e c k

  -- Where an escape is refused no atom stands that may end a range.
  no_atom_ends : (f : ℕ) (rest : List CodePoint) (d : Diagnostic) (a : Atom) (w more : List CodePoint) → EscapeFault f rest d → rest ≡ w ++ more → SpellsAtom here a w more → (is_sets mode ≡ true → is_character a ≡ true) → ⊥
  no_atom_ends f rest d a w more c whole s ends = by (cases_Bool (is_sets mode))
    where
      by : (is_sets mode ≡ true) ⊎ (is_sets mode ≡ false) → ⊥
      by (inl sets) = true≢false (sym (ends sets) ∙ (no_item_there mode us start added f rest d c a w more whole s).no_character)
      by (inr no_sets) = no_atom_there mode us start added f rest d no_sets c a w more whole s

  -- Tokens lead to one place.
  same_rest : (ts : List ClassToken) (q : Place) (all : List CodePoint) (r p : Place) (a b : List CodePoint) → ClassTokenRow here ts q all r a → ClassTokenRow here ts q all p b → a ≡ b
  same_rest ts q all r p a b h k = elim (class_prefixes here ts ts q all r a p b h k) [
    | inl i ↦ (subst (λ xs. ClassTokenRow here xs r a p b) (none_more ts i.0 i.1) i.2).1
    | inr i ↦ sym (subst (λ xs. ClassTokenRow here xs p b r a) (none_more ts i.0 i.1) i.2).1
  ]

  pub one_opens : (tokens : List ClassToken) (m n : Bool) (f g : ℕ) → Opened tokens m f → Opened tokens n g → (m ≡ n) × (f ≡ g)
  one_opens tokens m n f g x y =
      let same = one_opening x.before x.inside y.before y.inside x.inner y.inner (sym x.all ∙ y.all) x.alone y.alone in
      let back = same_rest y.before outside at_class x.at y.at x.at_bracket y.at_bracket (subst (λ ts. ClassTokenRow here ts outside at_class x.at x.at_bracket) same x.row) y.row in
      (x.nested_is ∙ ap is_some_token same ∙ sym y.nested_is, omega (arith, x.begin_is, y.begin_is, ap length back))

  one_opener : (tokens : List ClassToken) (f g : ℕ) → Strings mode us start added from at_class tokens f → Strings mode us start added from at_class tokens g → f ≡ g
  one_opener tokens f g x y =
      let same = one_strings x.before x.inside y.before y.inside (sym x.all ∙ y.all) x.of_strings y.of_strings in
      let back = same_rest y.before outside at_class x.at y.at x.at_strings y.at_strings (subst (λ ts. ClassTokenRow here ts outside at_class x.at x.at_strings) same x.row) y.row in
      omega (arith, x.opener_is, y.opener_is, ap length back)

  not_in_strings : (at : Place) → begins_item at ≡ true → at ≡ in_strings → ⊥
  not_in_strings at begins h = true≢false (sym begins ∙ ap begins_item h)

  -- Of the refusals that say no more than that nothing stands there at most one holds.
  pub one_nothing : (s : State) (d e : Diagnostic) → NoItem s d → NoItem s e → d ≡ e
  one_nothing s _ _ (in_class m f opens begins union goes ends) (in_class n g also begins' union' goes' ends') =
      let same = one_opens s.tokens m n f g opens also in
      ap (λ m. UnterminatedPattern (span_between us start added f s.place) (unterminated m)) same.0
      ∙ ap (λ f. UnterminatedPattern (span_between us start added f s.place) (unterminated n)) same.1
  one_nothing s _ _ (in_class m f opens begins union goes ends) (no_operand begins' sets empties some) = absurd (some (goes sets empties))
  one_nothing s _ _ (in_class m f opens begins union goes ends) (no_operator operator begins' is third) = absurd (union_no_operator s.inner.held operator union is)
  one_nothing s _ _ (in_class m f opens begins union goes ends) (in_class_strings opener at_is inside) = absurd (not_in_strings s.at begins at_is)
  one_nothing s _ _ (no_operand begins' sets empties some) (in_class m f opens begins union goes ends) = absurd (some (goes sets empties))
  one_nothing s _ _ (no_operand begins sets empties some) (no_operand begins' sets' empties' some') = refl
  one_nothing s _ _ (no_operand begins' sets empties some) (no_operator operator begins is third) = absurd (union_no_operator s.inner.held operator (ap is_union empties) is)
  one_nothing s _ _ (no_operand begins sets empties some) (in_class_strings opener at_is inside) = absurd (not_in_strings s.at begins at_is)
  one_nothing s _ _ (no_operator operator begins' is third) (in_class m f opens begins union goes ends) = absurd (union_no_operator s.inner.held operator union is)
  one_nothing s _ _ (no_operator operator begins is third) (no_operand begins' sets empties some) = absurd (union_no_operator s.inner.held operator (ap is_union empties) is)
  one_nothing s _ _ (no_operator operator begins is third) (no_operator other begins' is' third') =
      let same : Some operator ≡ Some other = sym is ∙ is' in
      ap (ClassSetExpressionInvalidCharacter (span_between us start added s.place s.place)) (cc same)
  one_nothing s _ _ (no_operator operator begins is third) (in_class_strings opener at_is inside) = absurd (not_in_strings s.at begins at_is)
  one_nothing s _ _ (in_class_strings opener at_is inside) (in_class m f opens begins union goes ends) = absurd (not_in_strings s.at begins at_is)
  one_nothing s _ _ (in_class_strings opener at_is inside) (no_operand begins sets empties some) = absurd (not_in_strings s.at begins at_is)
  one_nothing s _ _ (in_class_strings opener at_is inside) (no_operator operator begins is third) = absurd (not_in_strings s.at begins at_is)
  one_nothing s _ _ (in_class_strings opener at_is inside) (in_class_strings other at_is' also) =
      ap (λ f. UnterminatedPattern (span_between us start added f s.place) what.ClassStringDisjunction) (one_opener s.tokens opener other inside also)

  abbrev said_of : ℕ → Atom → Atom → ℕ → ℕ → Diagnostic
  said_of = range_fault mode us start added from at_class

  -- Of the others at most one holds, at one place.
  one_range : (f : ℕ) (rest : List CodePoint) (d e : Diagnostic) → RangeFault mode us start added from at_class f rest d → RangeFault mode us start added from at_class f rest e → d ≡ e
  one_range f rest d e x y =
      let s = same_atom mode us start added x.a y.a x.w y.w (x.hyphen ∷ (x.v ++ x.more)) (y.hyphen ∷ (y.v ++ y.more)) (sym x.whole ∙ y.whole) x.low_is y.low_is in
      let text = s.units in
      let back : x.v ++ x.more ≡ y.v ++ y.more = cc text in
      let t = same_atom mode us start added x.b y.b x.v y.v x.more y.more back x.high_is y.high_is in
      x.fault
      ∙ ap (λ a. said_of f a x.b (length x.w) (length x.v)) s.atoms
      ∙ ap (λ b. said_of f y.a b (length x.w) (length x.v)) t.atoms
      ∙ ap (λ n. said_of f y.a y.b n (length x.v)) s.counts
      ∙ ap (said_of f y.a y.b (length y.w)) t.counts
      ∙ sym y.fault

  one_elsewhere : (s : State) (f g : ℕ) (d e : Diagnostic) → Other s f d → Other s g e → (f ≡ g) × (d ≡ e)
  one_elsewhere s _ _ d e (at_atom takes own c) (at_atom also more k) = (refl, one_escape_fault s.place s.rest d e c k)
  one_elsewhere s _ _ d e (at_atom takes own c) (after_range a w hyphen rest at union whole spelled dashed ends k) = absurd (no_atom_ends s.place s.rest d a w (hyphen ∷ rest) c whole spelled ends)
  one_elsewhere s _ _ d e (at_atom takes own c) (of_range at union r) = absurd (no_atom_ends s.place s.rest d r.a r.w (r.hyphen ∷ (r.v ++ r.more)) c r.whole r.low_is (λ sets. (r.ends sets).0))
  one_elsewhere s _ _ d e (after_range a w hyphen rest at union whole spelled dashed ends k) (at_atom takes own c) = absurd (no_atom_ends s.place s.rest e a w (hyphen ∷ rest) c whole spelled ends)
  one_elsewhere s _ _ d e (after_range a w hyphen rest at union whole spelled dashed ends c) (after_range b v other back at' union' whole' spelled' dashed' ends' k) =
      let same = same_atom mode us start added a b w v (hyphen ∷ rest) (other ∷ back) (sym whole ∙ whole') spelled spelled' in
      let text = same.units in
      let units : rest ≡ back = cc text in
      let places : s.place + length w + 1 ≡ s.place + length v + 1 = ap (λ n. s.place + n + 1) same.counts in
      (places, one_escape_fault (s.place + length v + 1) back d e (subst (λ f. EscapeFault f back d) places (subst (λ rest. EscapeFault (s.place + length w + 1) rest d) units c)) k)
  one_elsewhere s _ _ d e (after_range a w hyphen rest at union whole spelled dashed ends c) (of_range at' union' r) =
      let same = same_atom mode us start added a r.a w r.w (hyphen ∷ rest) (r.hyphen ∷ (r.v ++ r.more)) (sym whole ∙ r.whole) spelled r.low_is in
      let text = same.units in
      let there : rest ≡ r.v ++ r.more = cc text in
      absurd (no_atom_ends (s.place + length w + 1) rest d r.b r.v r.more c there r.high_is (λ sets. (r.ends sets).1))
  one_elsewhere s _ _ d e (of_range at union r) (at_atom takes own c) = absurd (no_atom_ends s.place s.rest e r.a r.w (r.hyphen ∷ (r.v ++ r.more)) c r.whole r.low_is (λ sets. (r.ends sets).0))
  one_elsewhere s _ _ d e (of_range at' union' r) (after_range a w hyphen rest at union whole spelled dashed ends c) =
      let same = same_atom mode us start added a r.a w r.w (hyphen ∷ rest) (r.hyphen ∷ (r.v ++ r.more)) (sym whole ∙ r.whole) spelled r.low_is in
      let text = same.units in
      let there : rest ≡ r.v ++ r.more = cc text in
      absurd (no_atom_ends (s.place + length w + 1) rest e r.b r.v r.more c there r.high_is (λ sets. (r.ends sets).1))
  one_elsewhere s _ _ d e (of_range at union r) (of_range at' union' q) = (refl, one_range s.place s.rest d e r q)

  -- what stands there
  atom_front : (s : State) (a : Atom) (w more : List CodePoint) → s.at ≡ fresh → s.rest ≡ w ++ more → SpellsAtom here a w more → front_at mode s.at (values s.rest) ≡ before_other
  atom_front s a w more at whole spelled =
      let b = atom_begins here a w more spelled in
      ap (λ us. front_at mode s.at (values us)) (whole ∙ ap (λ w. w ++ more) b.whole)
      ∙ front_other mode s.at b.unit.value (values (b.others ++ more)) at b.no_closer b.no_dash

  other_front : (s : State) (f : ℕ) (d : Diagnostic) → Other s f d → front_at mode s.at (values s.rest) ≡ before_other
  other_front s _ d (at_atom takes own c) = let b = backslash_first mode us start added s.place s.rest d c in ap (front_at mode s.at) b.1
  other_front s _ d (after_range a w hyphen rest at union whole spelled dashed ends c) = atom_front s a w (hyphen ∷ rest) at whole spelled
  other_front s _ d (of_range at union r) = atom_front s r.a r.w (r.hyphen ∷ (r.v ++ r.more)) at r.whole r.low_is

  abbrev front_of : (s : State) (f : ℕ) (d : Diagnostic) → Saying s f d → Front
  front_of s f d (elsewhere o) = before_other
  front_of s _ d (after_dash hyphen rest of_low sets whole is c) = before_dash
  front_of s _ _ (ampersand unit rest at whole is) = before_ampersand
  front_of s _ _ (closing is_nested begin opens begins closes whole) = before_closer

  front_is : (s : State) (f : ℕ) (d : Diagnostic) (c : Saying s f d) → front_at mode s.at (values s.rest) ≡ front_of s f d c
  front_is s f d (elsewhere o) = other_front s f d o
  front_is s _ d (after_dash hyphen rest of_low sets whole is c) =
      ap (λ us. front_at mode s.at (values us)) whole ∙ ap (λ c. front_at mode s.at (c ∷ values rest)) is ∙ cond-true (is_sets mode) _ _ sets
  front_is s _ _ (ampersand unit rest at whole is) =
      ap (λ us. front_at mode s.at (values us)) whole ∙ ap (λ c. front_at mode s.at (c ∷ values rest)) is ∙ ap (λ at. front_at mode at (38 ∷ values rest)) at
  front_is s _ _ (closing is_nested begin opens begins closes whole) = cond-true (starts 93 (values s.rest)) _ _ closes

  pub one_said : (s : State) (f g : ℕ) (d e : Diagnostic) → Saying s f d → Saying s g e → (f ≡ g) × (d ≡ e)
  one_said s f g d e x y = by f g d e x y (sym (front_is s f d x) ∙ front_is s g e y)
    where
      by : (f g : ℕ) (d e : Diagnostic) → (x : Saying s f d) → (y : Saying s g e) → front_of s f d x ≡ front_of s g e y → (f ≡ g) × (d ≡ e)
      by f g d e (elsewhere x) (elsewhere y) h = one_elsewhere s f g d e x y
      by f _ d e (elsewhere x) (after_dash hyphen rest of_low sets whole is c) h = absurd (let no : ⊥ = cc h in no)
      by f _ d _ (elsewhere x) (ampersand unit rest at whole is) h = absurd (let no : ⊥ = cc h in no)
      by f _ d _ (elsewhere x) (closing is_nested begin opens begins closes whole) h = absurd (let no : ⊥ = cc h in no)
      by _ g d e (after_dash hyphen rest of_low sets whole is c) (elsewhere y) h = absurd (let no : ⊥ = cc h in no)
      by _ _ d e (after_dash hyphen rest of_low sets whole is c) (after_dash other back of_low' sets' whole' is' k) h =
          let text : hyphen ∷ rest ≡ other ∷ back = sym whole ∙ whole' in
          let units : rest ≡ back = cc text in
          (refl, one_escape mode us start added (s.place + 1) back d e (subst (λ rest. IsEscapeCause mode us start added (s.place + 1) rest d) units c) k)
      by _ _ d _ (after_dash hyphen rest of_low sets whole is c) (ampersand unit back at whole' is') h = absurd (let no : ⊥ = cc h in no)
      by _ _ d _ (after_dash hyphen rest of_low sets whole is c) (closing is_nested begin opens begins closes whole') h = absurd (let no : ⊥ = cc h in no)
      by _ g _ e (ampersand unit rest at whole is) (elsewhere y) h = absurd (let no : ⊥ = cc h in no)
      by _ _ _ e (ampersand unit rest at whole is) (after_dash hyphen back of_low sets whole' is' c) h = absurd (let no : ⊥ = cc h in no)
      by _ _ _ _ (ampersand unit rest at whole is) (ampersand other back at' whole' is') h = (refl, refl)
      by _ _ _ _ (ampersand unit rest at whole is) (closing is_nested begin opens begins closes whole') h = absurd (let no : ⊥ = cc h in no)
      by _ g _ e (closing is_nested begin opens begins closes whole) (elsewhere y) h = absurd (let no : ⊥ = cc h in no)
      by _ _ _ e (closing is_nested begin opens begins closes whole) (after_dash hyphen rest of_low sets whole' is c) h = absurd (let no : ⊥ = cc h in no)
      by _ _ _ _ (closing is_nested begin opens begins closes whole) (ampersand unit rest at whole' is) h = absurd (let no : ⊥ = cc h in no)
      by _ _ _ _ (closing m f opens begins closes whole) (closing n g also begins' closes' whole') h =
          let same = one_opens s.tokens m n f g opens also in (
            refl,
            ap (λ m. of_negative m (span_between us start added f (s.place + 1))) same.0 ∙ ap (λ f. of_negative n (span_between us start added f (s.place + 1))) same.1,
          )
