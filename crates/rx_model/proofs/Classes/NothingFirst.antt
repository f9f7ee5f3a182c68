-- With `v` a refusal which says that nothing stands there that may is the first of its class, where no escape that may stand there is refused.
use Rattle.std.proofs.Common.{◌≡◌, ◌⊎◌, refl, ap, sym, ◌∙◌, subst, ℕ, ◌+◌, ◌==◌, true, false, is_some, List, ◌∷◌, ◌++◌, Some, length, inl, inr}
use Rattle.std.proofs.lemmas.Bool.{true≢false}
use Rattle.rx_base.specs.declared.diagnostic.Diagnostic.{Diagnostic}
use Rattle.rx_base.specs.declared.diagnostic.Diagnostic.TheVariants.{UnterminatedPattern}
use Rattle.rx_base.specs.declared.diagnostic.kinds.SetOperator.TheVariants.{Intersection}
use Rattle.rx_base.specs.declared.diagnostic.kinds.Unterminated.TheVariants as what
use Rattle.rx_ast.specs.declared.leaf.CharacterKind.{CharacterKind}
use Rattle.rx_units.specs.declared.code_point.CodePoint.{CodePoint}
use Rattle.rx_units.specs.Units.{values}
use Rattle.rx_model.specs.declared.mode.Mode.{Mode}
use Rattle.rx_model.specs.Classes.ClassRows.{ClassTokenRow, Place, SpellsAtom, SpellsInClass, outside, fresh, after_operator, in_strings}
use Rattle.rx_model.specs.Classes.ClassRuns.{Held, class_run_from_start, is_whole, takes_operand}
use Rattle.rx_model.specs.Classes.ClassTokens.{Atom, character, closer, item, low, strings, is_character}
use Rattle.rx_model.specs.Inputs.Environment.{Environment, is_sets}
use Rattle.rx_model.specs.FirstPass.Marks.{starts}
use Rattle.rx_model.specs.Refusals.ClassCauses.{EndsStrings, IsClassCause, NothingFollows, unterminated_strings}
use Rattle.rx_model.specs.Refusals.ClassPlaces.{IsStringPlace, begins_item}
use Rattle.rx_model.specs.Refusals.EscapeCauses.{IsEscapeCause, IsPropertyCause}
use Rattle.rx_model.specs.Refusals.Firsts.{IsFirstInClass}
use Rattle.rx_model.specs.Refusals.Reached.{span_between, class_environment}
use Rattle.rx_model.proofs.Classes.ClassFaults.{State, IsStuck, IsAfterLow, Nothing, at_atom, after_range, of_range, Said, elsewhere, after_dash, ampersand, closing, Fault, nothing, said, operand_there, stuck}
use Rattle.rx_model.proofs.Classes.ClassStates.{Fits, none_follows, opened_fits, union_more}
use Rattle.rx_model.proofs.Classes.ClassStops.{AtomFault, bad_escape, in_escape, in_property, dead_blocked, is_between, low_there}
use Rattle.rx_model.proofs.Classes.ClassEnds.{class_row_append}
use Rattle.rx_model.proofs.Classes.ClassWholes.{class_opened-append}
use Rattle.rx_model.proofs.Classes.OneFault.{one_nothing}
use Rattle.rx_model.proofs.Classes.OneInClass.{same_state}
use Rattle.rx_model.proofs.Reading.Splits.{starting_unit}
use Rattle.rx_model.proofs.Refusals.OnlyFirst.{only_is_first}

-- Neither a character escape nor a property escape is refused before these units.
abbrev pub NoneRefused : Mode → List CodePoint → Type 0
NoneRefused mode rest =
    (us : List CodePoint) (first added place : ℕ) (d : Diagnostic) → IsEscapeCause mode us first added place rest d ⊎ IsPropertyCause mode us first added place rest d → ⊥

module _ (mode : Mode) (us : List CodePoint) (start added from : ℕ) (at_class : List CodePoint) where
  abbrev here : Environment
  here = class_environment mode us

  -- Nothing that may follow stands where a reading has come to, and no escape is refused that may stand there.
  pub record IsSilent (s : State) : Type 0 where
    pub sets : is_sets mode ≡ true
    pub follows : NothingFollows here s.at s.inner.held s.rest
    pub none_refused : (begins_item s.at ≡ true → takes_operand s.inner.held ≡ true) → NoneRefused mode s.rest
    pub no_third : s.at ≡ after_operator Intersection → starts 38 (values s.rest) ≡ false
    pub no_end : IsAfterLow s → (hyphen : CodePoint) (rest : List CodePoint) → s.rest ≡ hyphen ∷ rest → hyphen.value ≡ 45 → (d : Diagnostic) → IsEscapeCause mode us start added (s.place + 1) rest d → ⊥

  -- no escape
  no_fault : (s : State) (f : ℕ) (d : Diagnostic) → is_sets mode ≡ true → NoneRefused mode s.rest → AtomFault mode us start added f s.rest d → ⊥
  no_fault s f _ sets none (bad_escape backslash w no_sets h is no_escape) = true≢false (sym sets ∙ no_sets)
  no_fault s f d sets none (in_escape c) = none us start added f d (inl c)
  no_fault s f d sets none (in_property c) = none us start added f d (inr c)

  -- A character, a `-` and a character begin a range.
  low_stands : (a b : Atom) (w v more : List CodePoint) (hyphen : CodePoint) → is_character a ≡ true → is_character b ≡ true → SpellsAtom here a w (hyphen ∷ (v ++ more)) → hyphen.value ≡ 45 → SpellsAtom here b v more →
      (k : CharacterKind) × (x : ℕ) × SpellsInClass here fresh (low k x) w (hyphen ∷ (v ++ more))
  low_stands (character k x) (character j y) w v more hyphen m n s h t = (
    k,
    x,
    low_there mode us start added x y w v more hyphen record {
      low_kind = k;
      low_is = s;
      hyphen_is = h;
      high_kind = j;
      high_is = t;
    },
  )
  low_stands (character k x) b w v more hyphen m n s h t = absurd (true≢false (sym n))
  low_stands a b w v more hyphen m n s h t = absurd (true≢false (sym m))

  -- A bracket that may close is where an item may stand after another.
  fresh_whole : (q : Place) (held : Held) → begins_item q ≡ true → Fits q held → is_whole held ≡ true → q ≡ fresh
  fresh_whole fresh held h f w = refl
  fresh_whole (after_operator o) held h f w = absurd (true≢false (sym w ∙ ap is_whole f))
  fresh_whole q held h f w = absurd (true≢false (sym h))

  -- A bracket that may close goes on with its closer.
  pub closer_follows : (s : State) → Fits s.at s.inner.held → begins_item s.at ≡ true → starts 93 (values s.rest) ≡ true → is_whole s.inner.held ≡ true → NothingFollows here s.at s.inner.held s.rest → ⊥
  closer_follows s fits begins shut whole none =
      let t = starting_unit 93 s.rest shut in
      let at = fresh_whole s.at s.inner.held begins fits whole in
      true≢false (sym whole ∙ none closer t.0 t.1 t.2 (subst (λ q. SpellsInClass here q closer t.0 t.1) (sym at) t.3))

  -- What is said of a place says that something stands there.
  no_said : (s : State) → Fits s.at s.inner.held → IsSilent s → (f : ℕ) (d : Diagnostic) → Said mode us start added from at_class s f d → ⊥
  no_said s fits i _ d (elsewhere (at_atom takes own c)) = no_fault s s.place d i.sets (i.none_refused takes) c
  no_said s fits i _ d (elsewhere (after_range a w hyphen rest at union whole spelled dashed ends c)) =
      let there = operand_there mode us start added from at_class (s.place + length w + 1) rest d a w hyphen i.sets spelled c in
      true≢false (sym (union_more s.inner.held union).0 ∙ i.follows (item a) w (hyphen ∷ rest) whole (subst (λ q. SpellsInClass here q (item a) w (hyphen ∷ rest)) (sym at) there))
  no_said s fits i _ d (elsewhere (of_range at union r)) =
      let ends = r.ends i.sets in
      let t = low_stands r.a r.b r.w r.v r.more r.hyphen ends.0 ends.1 r.low_is r.hyphen_is r.high_is in
      let may = union_more s.inner.held union in
      let ranges = may.1.1 in
      true≢false (ap is_some (sym ranges) ∙ i.follows (low t.0 t.1) r.w (r.hyphen ∷ (r.v ++ r.more)) r.whole (subst (λ q. SpellsInClass here q (low t.0 t.1) r.w (r.hyphen ∷ (r.v ++ r.more))) (sym at) t.2))
  no_said s fits i _ d (after_dash hyphen rest of_low sets whole is c) = i.no_end of_low hyphen rest whole is d c
  no_said s fits i _ _ (ampersand unit rest at whole is) = true≢false (ap (λ c. c == 38) (sym is) ∙ ap (λ rest. starts 38 (values rest)) (sym whole) ∙ i.no_third at)
  no_said s fits i _ _ (closing is_nested begin opens begins shut whole) = closer_follows s fits begins shut whole i.follows

  -- Where nothing is said of a place a refusal which says that nothing stands there is the first of the class.
  first_where_none : (s : State) → IsStuck here from at_class s → ((f : ℕ) (d : Diagnostic) → Said mode us start added from at_class s f d → ⊥) → (f : ℕ) (d : Diagnostic) → IsClassCause mode us start added from at_class f d → IsFirstInClass mode us start added from at_class d
  first_where_none s is_stuck none f d cause =
      only_is_first (IsClassCause mode us start added from at_class) f d cause (λ g e k.
      let x = says f d cause in
      let y = says g e k in
      (x.0 ∙ sym y.0, one_nothing mode us start added from at_class s d e x.1 y.1))
    where
      no_more : (f : ℕ) (d : Diagnostic) → Fault mode us start added from at_class s f d → (f ≡ s.place) × Nothing mode us start added from at_class s d
      no_more _ d (nothing none x) = (refl, x)
      no_more f d (said x) = absurd (none f d x)

      says : (f : ℕ) (d : Diagnostic) → IsClassCause mode us start added from at_class f d → (f ≡ s.place) × Nothing mode us start added from at_class s d
      says f d c =
          let x = stuck mode us start added from at_class f d c in
          no_more f d (subst (λ s. Fault mode us start added from at_class s f d) (same_state mode us start added from at_class x.state s x.is_stuck is_stuck) x.fault)

  pub silent_is_first : (s : State) → ClassTokenRow here s.tokens outside at_class s.at s.rest → class_run_from_start s.tokens ≡ Some (s.inner ∷ s.outer) → from + length at_class ≡ s.place + length s.rest → is_between s.at ≡ true →
      IsSilent s → (f : ℕ) (d : Diagnostic) → IsClassCause mode us start added from at_class f d → IsFirstInClass mode us start added from at_class d
  silent_is_first s row accepted place_is between silent =
      first_where_none s record {
        row = row;
        accepted = accepted;
        place_is = place_is;
        between = between;
        blocked = dead_blocked here s.at (s.inner ∷ s.outer) s.rest (λ t w more whole spelled. none_follows t s.inner s.outer (silent.follows t w more whole spelled));
      } (no_said s (opened_fits here s.tokens at_class s.at s.rest s.inner s.outer row accepted) silent)

  -- In class strings no more is said of a place than that an escape is refused there.
  none_in_strings : (s : State) → is_sets mode ≡ true → s.at ≡ in_strings → ((d : Diagnostic) → IsEscapeCause mode us start added s.place s.rest d → ⊥) → (f : ℕ) (d : Diagnostic) → Said mode us start added from at_class s f d → ⊥
  none_in_strings s sets at_is none _ d (elsewhere (at_atom takes own c)) = none d (own sets at_is)
  none_in_strings s sets at_is none _ d (elsewhere (after_range a w hyphen rest at union whole spelled dashed ends c)) = let no : fresh ≡ in_strings = sym at ∙ at_is in cc no
  none_in_strings s sets at_is none _ d (elsewhere (of_range at union r)) = let no : fresh ≡ in_strings = sym at ∙ at_is in cc no
  none_in_strings s sets at_is none _ d (after_dash hyphen rest of_low is_sets whole is c) = let no : fresh ≡ in_strings = sym of_low.at_is ∙ at_is in cc no
  none_in_strings s sets at_is none _ _ (ampersand unit rest at whole is) = let no : after_operator Intersection ≡ in_strings = sym at ∙ at_is in cc no
  none_in_strings s sets at_is none _ _ (closing is_nested begin opens begins shut whole) = true≢false (sym begins ∙ ap begins_item at_is)

  -- Class strings that do not end are the first refusal, where no escape is refused.
  pub unterminated_strings_first : is_sets mode ≡ true → (opener place : ℕ) (rest : List CodePoint) → IsStringPlace here from at_class opener place rest → EndsStrings here rest → ((d : Diagnostic) → IsEscapeCause mode us start added place rest d → ⊥) →
      IsFirstInClass mode us start added from at_class (UnterminatedPattern (span_between us start added opener place) what.ClassStringDisjunction)
  unterminated_strings_first sets opener place rest i ends none =
      let p = i.item_place in
      let s : State = record { tokens = p.tokens ++ (strings ∷ i.inside); at = in_strings; inner = i.inner; outer = i.outer; place = place; rest = rest } in
      let stands : IsStuck here from at_class s = record {
        row = class_row_append here p.tokens (strings ∷ i.inside) outside at_class p.at i.at_strings in_strings rest p.row i.row;
        accepted = class_opened-append p.tokens (strings ∷ i.inside) (p.inner ∷ p.outer) p.accepted ∙ i.accepted;
        place_is = i.place_is;
        between = refl;
        blocked = dead_blocked here in_strings (i.inner ∷ i.outer) rest (λ t w more whole spelled. absurd (ends t w more whole spelled));
      } in
      first_where_none s stands (none_in_strings s sets refl none) place _ (unterminated_strings opener place rest i ends)
