-- What is refused where the reading of a class is stuck.
use Rattle.std.proofs.Common.{◌≡◌, ◌≢◌, ◌⊎◌, refl, ap, ap₂, sym, ◌∙◌, subst, ℕ, ◌+◌, ◌==◌, ◌&&◌, Bool, true, false, not, is_some, Option, Some, None, List, [], ◌∷◌, ◌++◌, length, cond, arith, inl, inr, length-append}
use Rattle.std.specs.Prelude.{All}
use Rattle.std.proofs.lemmas.Bool.{cases_Bool, cond-false, cond-true, eqb-true, false_from_ne_true, true≢false}
use Rattle.rx_base.specs.declared.diagnostic.Diagnostic.{Diagnostic}
use Rattle.rx_base.specs.declared.diagnostic.Diagnostic.TheVariants.{UnterminatedPattern, CharacterClassRangeOutOfOrder, CharacterClassRangeDashNotSubtraction, CharacterClassRangeInvalidAtom, EmptyClassSetExpression, ClassIntersectionUnexpectedAmpersand, ClassSetExpressionInvalidCharacter}
use Rattle.rx_base.specs.declared.diagnostic.kinds.RangeKind.TheVariants as range_kind
use Rattle.rx_base.specs.declared.diagnostic.kinds.SetOperator.{SetOperator}
use Rattle.rx_base.specs.declared.diagnostic.kinds.SetOperator.TheVariants.{Intersection}
use Rattle.rx_base.specs.declared.diagnostic.kinds.Unterminated.TheVariants as what
use Rattle.rx_units.specs.declared.code_point.CodePoint.{CodePoint}
use Rattle.rx_units.specs.Units.{values}
use Rattle.rx_model.specs.declared.mode.Mode.{Mode}
use Rattle.rx_model.specs.declared.mode.Mode.TheVariants.{Unicode}
use Rattle.rx_model.specs.Refusals.ClassCauses as class_cause
use Rattle.rx_model.specs.Refusals.ClassCauses.{IsClassCause, IsNegativeWithStrings, NothingFollows, StandsRange, of_negative, unterminated}
use Rattle.rx_model.specs.Refusals.ClassPlaces.{BeginsBracket, IsAtomPlace, IsInBracket, IsItemPlace, IsOfStrings, IsOperandPlace, IsSecondPlace, IsStringPlace, begins_item, nested, of_class}
use Rattle.rx_model.specs.Classes.ClassRows.{next_place, following_item, ClassTokenRow, Place, SpellsAtom, SpellsBracket, SpellsInClass, after_operator, fresh, has_threes, in_strings, is_dashed, may_follow_operator, outside}
use Rattle.rx_model.specs.Classes.ClassRuns.{Bracket, Brackets, Held, empty, atom_may, atom_obeys, after_step, bracket_of, class_run_from_start, class_run, class_step, add_thing, is_union, is_whole, operand, operator_of, takes_operand, where_true, with_strings}
use Rattle.rx_model.specs.Classes.ClassTokens.{Atom, character, is_character, ClassToken, bracket, item, strings}
use Rattle.rx_model.specs.Inputs.Environment.{Environment, is_sets}
use Rattle.rx_model.specs.FirstPass.Marks.{starts}
use Rattle.rx_model.specs.Refusals.EscapeCauses.{IsEscapeCause}
use Rattle.rx_model.specs.Refusals.Reached.{span_between, class_environment}
use Rattle.rx_model.proofs.Classes.ClassEnds.{class_row_append}
use Rattle.rx_model.proofs.Classes.ClassStates.{Fits, none_follows, opened_fits, opened_union, operand_union, union_more}
use Rattle.rx_model.proofs.Classes.ClassStops.{AtomFault, bad_escape, in_escape, in_property, IsBlockedItem, IsDead, backslash_first, closer_dead, dash_dead, dead_blocked, ends_dead, fault_dead, fresh_union, is_between, item_between, no_item_there, range_blocked, second_dead, third_dead}
use Rattle.rx_model.proofs.Classes.ClassWholes.{class_opened-append}
use Rattle.rx_model.proofs.Reading.Prefixes.{first_in_class}
use Rattle.rx_model.proofs.Classes.ClassFronts.{bracket_follows, sets_is}
use Rattle.rx_model.proofs.Classes.OpenBrackets.{nested_run}

-- A reading of a class has come to a place, with these tokens and these open brackets.
pub record State : Type 0 where
  pub tokens : List ClassToken
  pub at : Place
  pub inner : Bracket
  pub outer : Brackets
  pub place : ℕ
  pub rest : List CodePoint

abbrev pub is_some_token : List ClassToken → Bool
is_some_token [] = false
is_some_token (t ∷ ts) = true

-- A character of a union stands before it.
pub record IsAfterLow (s : State) : Type 0 where
  pub before : List ClassToken
  pub atom : Atom
  pub tokens_are : s.tokens ≡ before ++ (item atom ∷ [])
  pub is_low : is_character atom ≡ true
  pub at_is : s.at ≡ fresh
  pub of_union : is_union s.inner.held ≡ true

-- The reading is stuck there.
pub record IsStuck (e : Environment) (from : ℕ) (at_class : List CodePoint) (s : State) : Type 0 where
  pub row : ClassTokenRow e s.tokens outside at_class s.at s.rest
  pub accepted : class_run_from_start s.tokens ≡ Some (s.inner ∷ s.outer)
  pub place_is : from + length at_class ≡ s.place + length s.rest
  pub between : is_between s.at ≡ true
  pub blocked : IsBlockedItem e s.at (s.inner ∷ s.outer) s.rest

module _ (mode : Mode) (us : List CodePoint) (start added from : ℕ) (at_class : List CodePoint) where
  abbrev here : Environment
  here = class_environment mode us

  abbrev pub EscapeFault : ℕ → List CodePoint → Diagnostic → Type 0
  EscapeFault = AtomFault mode us start added

  -- The innermost bracket opened after some of these tokens, at this place: the class's own, or a nested one.
  pub record Opens (tokens : List ClassToken) (is_nested : Bool) (begin : ℕ) : Type 0 where
    pub before : List ClassToken
    pub inside : List ClassToken
    pub at : Place
    pub at_bracket : List CodePoint
    pub inner : Bracket
    pub all : tokens ≡ before ++ inside
    pub nested_is : is_nested ≡ is_some_token before
    pub row : ClassTokenRow here before outside at_class at at_bracket
    pub alone : class_run_from_start inside ≡ Some (inner ∷ [])
    pub begin_is : from + length at_class ≡ begin + length at_bracket

  -- Class strings opened at this place, and characters and bars stand in them.
  pub record Strings (tokens : List ClassToken) (opener : ℕ) : Type 0 where
    pub before : List ClassToken
    pub inside : List ClassToken
    pub at : Place
    pub at_strings : List CodePoint
    pub all : tokens ≡ before ++ (strings ∷ inside)
    pub of_strings : All IsOfStrings inside
    pub row : ClassTokenRow here before outside at_class at at_strings
    pub opener_is : from + length at_class ≡ opener + length at_strings

  -- Nothing stands where something has to: the refusals that say no more.
  pub data Nothing (s : State) : Diagnostic → Type 0 where
    in_class : (is_nested : Bool) (begin : ℕ) → Opens s.tokens is_nested begin → begins_item s.at ≡ true → is_union s.inner.held ≡ true → (is_sets mode ≡ true → s.inner.held ≡ empty → s.rest ≡ []) → (is_sets mode ≡ false → s.rest ≡ [])
        → Nothing s (UnterminatedPattern (span_between us start added begin s.place) (unterminated is_nested))
    no_operand : begins_item s.at ≡ true → is_sets mode ≡ true → s.inner.held ≡ empty → s.rest ≢ [] → Nothing s (EmptyClassSetExpression (span_between us start added s.place s.place))
    no_operator : (operator : SetOperator) → begins_item s.at ≡ true → operator_of s.inner.held ≡ Some operator → (s.at ≡ after_operator operator → may_follow_operator operator (values s.rest) ≡ true)
        → Nothing s (ClassSetExpressionInvalidCharacter (span_between us start added s.place s.place) operator)
    in_class_strings : (opener : ℕ) → s.at ≡ in_strings → Strings s.tokens opener → Nothing s (UnterminatedPattern (span_between us start added opener s.place) what.ClassStringDisjunction)

  abbrev pub value_of : Atom → ℕ
  value_of (character k v) = v
  value_of q = 0

  -- what is said of a range
  abbrev pub range_fault : ℕ → Atom → Atom → ℕ → ℕ → Diagnostic
  range_fault f a b n m =
      cond (is_sets mode) (CharacterClassRangeOutOfOrder (span_between us start added f (f + n + 1 + m)) range_kind.ClassSet)
      (cond (is_character a && is_character b)
      (cond (value_of b == 45) (CharacterClassRangeDashNotSubtraction (span_between us start added (f + n) (f + n + 1 + m)))
      (CharacterClassRangeOutOfOrder (span_between us start added (f + n) (f + n + 1 + m)) range_kind.ClassAtom))
      (CharacterClassRangeInvalidAtom (span_between us start added f (f + n + 1 + m))))

  pub record RangeFault (f : ℕ) (rest : List CodePoint) (d : Diagnostic) : Type 0 where
    pub a : Atom
    pub b : Atom
    pub w : List CodePoint
    pub hyphen : CodePoint
    pub v : List CodePoint
    pub more : List CodePoint
    pub whole : rest ≡ w ++ (hyphen ∷ (v ++ more))
    pub low_is : SpellsAtom here a w (hyphen ∷ (v ++ more))
    pub hyphen_is : hyphen.value ≡ 45
    pub high_is : SpellsAtom here b v more
    pub ends : is_sets mode ≡ true → (is_character a ≡ true) × (is_character b ≡ true)
    pub fault : d ≡ range_fault f a b (length w) (length v)

  -- Refusals that say what stands there: of an escape that is to stand there, or after an atom and a `-`; of a range.
  pub data Elsewhere (s : State) : ℕ → Diagnostic → Type 0 where
    at_atom : {d : Diagnostic} → (begins_item s.at ≡ true → takes_operand s.inner.held ≡ true) → (is_sets mode ≡ true → s.at ≡ in_strings → IsEscapeCause mode us start added s.place s.rest d) → EscapeFault s.place s.rest d → Elsewhere s s.place d
    after_range : {d : Diagnostic} (a : Atom) (w : List CodePoint) (hyphen : CodePoint) (rest : List CodePoint) → s.at ≡ fresh → is_union s.inner.held ≡ true → s.rest ≡ w ++ (hyphen ∷ rest) → SpellsAtom here a w (hyphen ∷ rest)
        → is_dashed (values (hyphen ∷ rest)) ≡ true → (is_sets mode ≡ true → is_character a ≡ true) → EscapeFault (s.place + length w + 1) rest d → Elsewhere s (s.place + length w + 1) d
    of_range : {d : Diagnostic} → s.at ≡ fresh → is_union s.inner.held ≡ true → RangeFault s.place s.rest d → Elsewhere s s.place d

  -- The same before a `-` that is followed by an escape, a third `&`, or a closer.
  pub data Said (s : State) : ℕ → Diagnostic → Type 0 where
    elsewhere : {f : ℕ} {d : Diagnostic} → Elsewhere s f d → Said s f d
    after_dash : {d : Diagnostic} (hyphen : CodePoint) (rest : List CodePoint) → IsAfterLow s → is_sets mode ≡ true → s.rest ≡ hyphen ∷ rest → hyphen.value ≡ 45 → IsEscapeCause mode us start added (s.place + 1) rest d
        → Said s (s.place + 1) d
    ampersand : (unit : CodePoint) (rest : List CodePoint) → s.at ≡ after_operator Intersection → s.rest ≡ unit ∷ rest → unit.value ≡ 38
        → Said s s.place (ClassIntersectionUnexpectedAmpersand (span_between us start added s.place (s.place + 1)))
    closing : (is_nested : Bool) (begin : ℕ) → Opens s.tokens is_nested begin → begins_item s.at ≡ true → starts 93 (values s.rest) ≡ true → is_whole s.inner.held ≡ true
        → Said s s.place (of_negative is_nested (span_between us start added begin (s.place + 1)))

  -- What is refused where the reading is stuck, and at which place.
  pub data Fault (s : State) : ℕ → Diagnostic → Type 0 where
    nothing : {d : Diagnostic} → NothingFollows here s.at s.inner.held s.rest → Nothing s d → Fault s s.place d
    said : {f : ℕ} {d : Diagnostic} → Said s f d → Fault s f d

  -- Where a refusal of the class holds the reading is stuck, with this fault.
  pub record Stuck (f : ℕ) (d : Diagnostic) : Type 0 where
    pub state : State
    pub is_stuck : IsStuck here from at_class state
    pub fault : Fault state f d

  abbrev item_state : {place : ℕ} {rest : List CodePoint} → IsItemPlace here from at_class place rest → State
  item_state {place} {rest} i = record { tokens = i.tokens; at = i.at; inner = i.inner; outer = i.outer; place = place; rest = rest }

  item_stuck : (place : ℕ) (rest : List CodePoint) → (i : IsItemPlace here from at_class place rest) → IsBlockedItem here i.at (i.inner ∷ i.outer) rest → IsStuck here from at_class (item_state i)
  item_stuck place rest i blocked = record { row = i.row; accepted = i.accepted; place_is = i.place_is; between = item_between i.at i.begins; blocked = blocked }

  item_fits : (place : ℕ) (rest : List CodePoint) → (i : IsItemPlace here from at_class place rest) → Fits i.at i.inner.held
  item_fits place rest i = opened_fits here i.tokens at_class i.at rest i.inner i.outer i.row i.accepted

  item_union : (place : ℕ) (rest : List CodePoint) → (i : IsItemPlace here from at_class place rest) → is_sets mode ≡ false → is_union i.inner.held ≡ true
  item_union place rest i no_sets = opened_union here no_sets i.tokens at_class i.at rest i.inner i.outer i.row i.accepted

  item_fresh : (place : ℕ) (rest : List CodePoint) → (i : IsItemPlace here from at_class place rest) → is_union i.inner.held ≡ true → i.at ≡ fresh
  item_fresh place rest i u = fresh_union i.at i.inner.held i.begins (item_fits place rest i) u

  -- an item place, with this fault
  at_item : (place : ℕ) (rest : List CodePoint) (f : ℕ) (d : Diagnostic) → (i : IsItemPlace here from at_class place rest) → IsBlockedItem here i.at (i.inner ∷ i.outer) rest → Fault (item_state i) f d → Stuck f d
  at_item place rest f d i blocked fault = record { state = item_state i; is_stuck = item_stuck place rest i blocked; fault = fault }

  -- a place of the innermost bracket, with the brackets around it
  record InBracket (at : Place) (inner : Bracket) (place : ℕ) (rest : List CodePoint) (is_nested : Bool) (begin : ℕ) : Type 0 where
    tokens : List ClassToken
    outer : Brackets
    row : ClassTokenRow here tokens outside at_class at rest
    accepted : class_run_from_start tokens ≡ Some (inner ∷ outer)
    place_is : from + length at_class ≡ place + length rest
    opens : Opens tokens is_nested begin

  nested_bracket : (q : Place) (negative : Bool) (w more : List CodePoint) → begins_item q ≡ true → is_sets mode ≡ true → SpellsBracket negative w more → SpellsInClass here q (bracket negative) w more
  nested_bracket fresh negative w more begins sets s = (sets, s)
  nested_bracket (after_operator o) negative w more begins sets s = (sets, s, bracket_follows o negative w more s)
  nested_bracket q negative w more begins sets s = absurd (true≢false (sym begins))

  -- A row from a bracket is one of a nested class too.
  nested_row : (ts : List ClassToken) (q : Place) (us : List CodePoint) (r : Place) (rest : List CodePoint) (cs : Brackets) → begins_item q ≡ true → is_sets mode ≡ true → class_run_from_start ts ≡ Some cs → ClassTokenRow here ts outside us r rest → ClassTokenRow here ts q us r rest
  nested_row [] q us r rest cs begins sets h row = absurd (let no : ⊥ = cc h in no)
  nested_row ((bracket negative) ∷ ts) q us r rest cs begins sets h row = (row.0, row.1, row.2, nested_bracket q negative row.0 row.1 begins sets row.3, row.4)
  nested_row (t ∷ ts) q us r rest cs begins sets h row = absurd (let no : ⊥ = cc h in no)

  some_tokens : (ts : List ClassToken) (cs : Brackets) → class_run_from_start ts ≡ Some cs → true ≡ is_some_token ts
  some_tokens [] cs h = absurd (let no : ⊥ = cc h in no)
  some_tokens (t ∷ ts) cs h = refl

  in_bracket_by : (is_nested : Bool) (begin place : ℕ) (at_bracket rest : List CodePoint) → BeginsBracket here from at_class is_nested begin at_bracket → (i : IsItemPlace here begin at_bracket place rest) → i.outer ≡ [] →
      InBracket i.at i.inner place rest is_nested begin
  in_bracket_by _ _ place _ rest of_class i alone = record {
    tokens = i.tokens;
    outer = [];
    row = i.row;
    accepted = i.accepted ∙ ap (λ outer. Some (i.inner ∷ outer)) alone;
    place_is = i.place_is;
    opens = record {
      before = [];
      inside = i.tokens;
      at = outside;
      at_bracket = at_class;
      inner = i.inner;
      all = refl;
      nested_is = refl;
      row = (refl, refl);
      alone = i.accepted ∙ ap (λ outer. Some (i.inner ∷ outer)) alone;
      begin_is = refl;
    };
  }
  in_bracket_by _ begin place at_bracket rest (nested sets o) i alone =
      let p = o.item_place in
      let opened : class_run_from_start i.tokens ≡ Some (i.inner ∷ []) = i.accepted ∙ ap (λ outer. Some (i.inner ∷ outer)) alone in
      record {
        tokens = p.tokens ++ i.tokens;
        outer = p.inner ∷ p.outer;
        row = class_row_append here p.tokens i.tokens outside at_class p.at at_bracket i.at rest p.row (nested_row i.tokens p.at at_bracket i.at rest (i.inner ∷ []) p.begins sets opened i.row);
        accepted = class_opened-append p.tokens i.tokens (p.inner ∷ p.outer) p.accepted ∙ nested_run i.tokens p.inner i.inner p.outer o.takes opened;
        place_is = p.place_is ∙ i.place_is;
        opens = record {
          before = p.tokens;
          inside = i.tokens;
          at = p.at;
          at_bracket = at_bracket;
          inner = i.inner;
          all = refl;
          nested_is = some_tokens p.tokens (p.inner ∷ p.outer) p.accepted;
          row = p.row;
          alone = opened;
          begin_is = p.place_is;
        };
      }

  in_bracket : (is_nested : Bool) (begin place : ℕ) (rest : List CodePoint) → (i : IsInBracket here from at_class is_nested begin place rest) → InBracket i.item_place.at i.item_place.inner place rest is_nested begin
  in_bracket is_nested begin place rest i = in_bracket_by is_nested begin place i.at_bracket rest i.begins i.item_place i.innermost

  -- a place in a bracket where an item may stand
  abbrev state_in : (is_nested : Bool) (begin place : ℕ) (rest : List CodePoint) → IsInBracket here from at_class is_nested begin place rest → State
  state_in is_nested begin place rest i =
      let p = i.item_place in
      let r = in_bracket is_nested begin place rest i in record { tokens = r.tokens; at = p.at; inner = p.inner; outer = r.outer; place = place; rest = rest }

  -- is stuck where nothing that stands there leads on
  stuck_in : (is_nested : Bool) (begin place : ℕ) (rest : List CodePoint) → (i : IsInBracket here from at_class is_nested begin place rest) →
      ((outer : Brackets) → IsDead here i.item_place.at (i.item_place.inner ∷ outer) rest) → IsStuck here from at_class (state_in is_nested begin place rest i)
  stuck_in is_nested begin place rest i dead =
      let p = i.item_place in
      let r = in_bracket is_nested begin place rest i in
      record {
        row = r.row;
        accepted = r.accepted;
        place_is = r.place_is;
        between = item_between p.at p.begins;
        blocked = dead_blocked here p.at (p.inner ∷ r.outer) rest (dead r.outer);
      }

  nothing_dead : (at : Place) (inner : Bracket) (outer : Brackets) (rest : List CodePoint) → NothingFollows here at inner.held rest → IsDead here at (inner ∷ outer) rest
  nothing_dead at inner outer rest none t w more whole s = none_follows t inner outer (none t w more whole s)

  -- A negative bracket with strings may not close.
  before_closer : (at : Place) (inner : Bracket) (outer : Brackets) (rest : List CodePoint) → is_between at ≡ true → starts 93 (values rest) ≡ true → (inner.negative && inner.may) ≡ true → IsDead here at (inner ∷ outer) rest
  before_closer at inner outer [] between closes may = absurd (true≢false (sym closes))
  before_closer at inner outer (u ∷ rest) between closes may =
      closer_dead mode us start added at inner outer (u ∷ rest) (values rest) between (ap (λ c. c ∷ values rest) (eqb-true u.value 93 closes)) (never (is_whole inner.held) may)
    where
      never : (whole : Bool) → (inner.negative && inner.may) ≡ true → (whole && not (inner.negative && inner.may)) ≡ false
      never true h = ap not h
      never false h = refl

  -- A negative bracket that may contain strings is stuck before its closer.
  pub record Closing (is_nested : Bool) (begin place : ℕ) : Type 0 where
    pub state : State
    pub is_stuck : IsStuck here from at_class state
    pub place_is : state.place ≡ place
    pub opens : Opens state.tokens is_nested begin
    pub begins : begins_item state.at ≡ true
    pub closes : starts 93 (values state.rest) ≡ true
    pub whole : is_whole state.inner.held ≡ true

  pub negative_stuck : (is_nested : Bool) (begin place : ℕ) (rest : List CodePoint) → IsNegativeWithStrings here from at_class is_nested begin place rest → Closing is_nested begin place
  negative_stuck is_nested begin place rest n =
      let i = n.in_bracket in
      let p = i.item_place in
      record {
        state = state_in is_nested begin place rest i;
        is_stuck = stuck_in is_nested begin place rest i (λ outer. before_closer p.at p.inner outer rest (item_between p.at p.begins) n.closes n.may);
        place_is = refl;
        opens = (in_bracket is_nested begin place rest i).opens;
        begins = p.begins;
        closes = n.closes;
        whole = n.whole;
      }

  strings_stuck : (f : ℕ) (d : Diagnostic) (opener place : ℕ) (rest : List CodePoint) → (i : IsStringPlace here from at_class opener place rest) → IsDead here in_strings (i.inner ∷ i.outer) rest →
      ((s : State) → s.at ≡ in_strings → s.rest ≡ rest → s.place ≡ place → Strings s.tokens opener → Fault s f d) → Stuck f d
  strings_stuck f d opener place rest i dead fault =
      let p = i.item_place in
      let s : State = record { tokens = p.tokens ++ (strings ∷ i.inside); at = in_strings; inner = i.inner; outer = i.outer; place = place; rest = rest } in
      record {
        state = s;
        is_stuck = record {
          row = class_row_append here p.tokens (strings ∷ i.inside) outside at_class p.at i.at_strings in_strings rest p.row i.row;
          accepted = class_opened-append p.tokens (strings ∷ i.inside) (p.inner ∷ p.outer) p.accepted ∙ i.accepted;
          place_is = i.place_is;
          between = refl;
          blocked = dead_blocked here in_strings (i.inner ∷ i.outer) rest dead;
        };
        fault = fault s refl refl refl record {
          before = p.tokens;
          inside = i.inside;
          at = p.at;
          at_strings = i.at_strings;
          all = refl;
          of_strings = i.of_strings;
          row = p.row;
          opener_is = p.place_is;
        };
      }

  -- An operand more, in a bracket that may hold it.
  one_item : (a : Atom) (r : Bracket) (outer : Brackets) → atom_obeys a ≡ true → takes_operand r.held ≡ true → (c : Bracket) × (class_step (item a) (r ∷ outer) ≡ Some (c ∷ outer)) × (operand r.held ≡ Some c.held)
  one_item a r outer obeys takes =
      let g = held (operand r.held) takes in
      (g.0, ap (λ b. where_true b (add_thing r outer (atom_may a) (operand r.held))) obeys ∙ g.1, g.2)
    where
      held : (o : Option Held) → is_some o ≡ true → (c : Bracket) × (add_thing r outer (atom_may a) o ≡ Some (c ∷ outer)) × (o ≡ Some c.held)
      held None h = absurd (true≢false (sym h))
      held (Some k) h = (bracket_of r.negative k (with_strings r.held r.may (atom_may a)), refl, refl)

  -- With `v` an atom before a `-` and a refused escape is an operand.
  pub operand_there : (f : ℕ) (rest : List CodePoint) (d : Diagnostic) (a : Atom) (w : List CodePoint) (hyphen : CodePoint) → is_sets mode ≡ true → SpellsAtom here a w (hyphen ∷ rest) → EscapeFault f rest d →
      SpellsInClass here fresh (item a) w (hyphen ∷ rest)
  operand_there f rest d a w hyphen sets s c = (
    s,
    inr (inr record {
      sets = sets;
      none = λ is before.
          let whole = before.whole in
          let there : rest ≡ before.w ++ before.more = cc whole in
          true≢false (no_item_there mode us start added f rest d c (character before.kind before.value) before.w before.more there before.spelled).no_character;
    }),
  )

  after_operand : (a : Atom) (us : List CodePoint) → is_sets mode ≡ true → is_dashed (values us) ≡ true → next_place mode fresh (item a) us ≡ fresh
  after_operand a us sets dashed = ap₂ (λ dashed threes. following_item fresh (dashed && threes)) dashed (ap has_threes (sets_is mode sets))

  -- With `v` an escape that is refused is to end a range.
  second_in_sets : (f : ℕ) (rest : List CodePoint) (d : Diagnostic) → (i : IsSecondPlace here from at_class f rest) → is_sets mode ≡ true → IsEscapeCause mode us start added (i.first + length i.w + 1) rest d → (b : Bool) → atom_obeys i.atom ≡ b →
      Stuck (i.first + length i.w + 1) d
  second_in_sets f rest d i sets c false obeys =
      let p = i.item_place in
      let u = i.of_union sets in
      let at_fresh = item_fresh i.first (i.w ++ (i.hyphen ∷ rest)) p u.1 in
      let there = operand_there (i.first + length i.w + 1) rest d i.atom i.w i.hyphen sets i.spelled (in_escape c) in
      at_item i.first (i.w ++ (i.hyphen ∷ rest)) (i.first + length i.w + 1) d p
      (dead_blocked here p.at (p.inner ∷ p.outer) (i.w ++ (i.hyphen ∷ rest)) (λ t v more whole s.
      let same = first_in_class here fresh t (item i.atom) v more i.w (i.hyphen ∷ rest) (sym whole) (subst (λ q. SpellsInClass here q t v more) at_fresh s) there in
      ap (λ t. class_step t (p.inner ∷ p.outer)) same.0 ∙ ap (λ b. where_true b (add_thing p.inner p.outer (atom_may i.atom) (operand p.inner.held))) obeys))
      (said (elsewhere (after_range i.atom i.w i.hyphen rest at_fresh u.1 refl i.spelled i.dashed (λ sets. u.0) (in_escape c))))
  second_in_sets f rest d i sets c true obeys =
      let p = i.item_place in
      let u = i.of_union sets in
      let at_fresh = item_fresh i.first (i.w ++ (i.hyphen ∷ rest)) p u.1 in
      let grown = one_item i.atom p.inner p.outer obeys (union_more p.inner.held u.1).0 in
      let there = operand_there (i.first + length i.w + 1) rest d i.atom i.w i.hyphen sets i.spelled (in_escape c) in
      let row : ClassTokenRow here (item i.atom ∷ []) fresh (i.w ++ (i.hyphen ∷ rest)) fresh (i.hyphen ∷ rest) =
      (i.w, i.hyphen ∷ rest, refl, there, (after_operand i.atom (i.hyphen ∷ rest) sets i.dashed, refl)) in
      let b = backslash_first mode us start added (i.first + length i.w + 1) rest d (in_escape c) in
      record {
        state = record { tokens = p.tokens ++ (item i.atom ∷ []); at = fresh; inner = grown.0; outer = p.outer; place = i.first + length i.w; rest = i.hyphen ∷ rest };
        is_stuck = record {
          row = class_row_append here p.tokens (item i.atom ∷ []) outside at_class p.at (i.w ++ (i.hyphen ∷ rest)) fresh (i.hyphen ∷ rest) p.row
              (subst (λ q. ClassTokenRow here (item i.atom ∷ []) q (i.w ++ (i.hyphen ∷ rest)) fresh (i.hyphen ∷ rest)) (sym at_fresh) row);
          accepted = class_opened-append p.tokens (item i.atom ∷ []) (p.inner ∷ p.outer) p.accepted ∙ ap (λ o. after_step o (λ bs. class_run [] bs)) grown.1;
          place_is = omega (arith, p.place_is, length-append i.w (i.hyphen ∷ rest));
          between = refl;
          blocked = dead_blocked here fresh (grown.0 ∷ p.outer) (i.hyphen ∷ rest)
              (dash_dead mode us start added fresh grown.0 p.outer (i.hyphen ∷ rest) (values rest) refl sets (ap (λ c. c ∷ values rest) i.hyphen_is) (ap (starts 45) b.1));
        };
        fault = said (after_dash i.hyphen rest (record {
          before = p.tokens;
          atom = i.atom;
          tokens_are = refl;
          is_low = u.0;
          at_is = refl;
          of_union = operand_union p.inner.held grown.0.held u.1 grown.2;
        }) sets refl i.hyphen_is c);
      }

  -- With `v` none of a property is.
  second_stuck : (f : ℕ) (rest : List CodePoint) (d : Diagnostic) → (i : IsSecondPlace here from at_class f rest) → EscapeFault f rest d → (is_sets mode ≡ true → IsEscapeCause mode us start added f rest d) → Stuck f d
  second_stuck f rest d i c own = subst (λ f. Stuck f d) (sym i.place_is) (by (cases_Bool (is_sets mode)))
    where
      there : EscapeFault (i.first + length i.w + 1) rest d
      there = subst (λ f. EscapeFault f rest d) i.place_is c

      by : (is_sets mode ≡ true) ⊎ (is_sets mode ≡ false) → Stuck (i.first + length i.w + 1) d
      by (inl sets) = second_in_sets f rest d i sets (subst (λ f. IsEscapeCause mode us start added f rest d) i.place_is (own sets)) (atom_obeys i.atom) refl
      by (inr no_sets) =
          let p = i.item_place in
          let u = item_union i.first (i.w ++ (i.hyphen ∷ rest)) p no_sets in
          let at_fresh = item_fresh i.first (i.w ++ (i.hyphen ∷ rest)) p u in
          at_item i.first (i.w ++ (i.hyphen ∷ rest)) (i.first + length i.w + 1) d p
          (subst (λ q. IsBlockedItem here q (p.inner ∷ p.outer) (i.w ++ (i.hyphen ∷ rest))) (sym at_fresh)
          (dead_blocked here fresh (p.inner ∷ p.outer) (i.w ++ (i.hyphen ∷ rest))
          (second_dead mode us start added p.inner p.outer (i.first + length i.w + 1) d i.atom i.w i.hyphen rest no_sets i.spelled i.dashed there)))
          (said (elsewhere (after_range i.atom i.w i.hyphen rest at_fresh u refl i.spelled i.dashed (λ sets. absurd (true≢false (sym sets ∙ no_sets))) there)))

  operand_stuck : (f : ℕ) (rest : List CodePoint) (d : Diagnostic) → IsOperandPlace here from at_class f rest → EscapeFault f rest d → Stuck f d
  operand_stuck f rest d o c =
      let p = o.item_place in
      at_item f rest f d p (dead_blocked here p.at (p.inner ∷ p.outer) rest (fault_dead mode us start added p.at p.inner p.outer f rest d (item_between p.at p.begins) c)) (said (elsewhere (at_atom (λ begins. o.takes) (λ sets at_strings. absurd (true≢false (sym p.begins ∙ ap begins_item at_strings))) c)))

  atom_stuck : (f : ℕ) (rest : List CodePoint) (d : Diagnostic) → IsAtomPlace here from at_class f rest → EscapeFault f rest d → (is_sets mode ≡ true → IsEscapeCause mode us start added f rest d) → Stuck f d
  atom_stuck f rest d (inl o) c own = operand_stuck f rest d o c
  atom_stuck f rest d (inr (inl i)) c own = second_stuck f rest d i c own
  atom_stuck f rest d (inr (inr s)) c own =
      let i = s.1 in
      strings_stuck f d s.0 f rest i (fault_dead mode us start added in_strings i.inner i.outer f rest d refl c)
      (λ s at_strings rest_is place_is opens.
      subst (λ f. Fault s f d) place_is
      (said (elsewhere (at_atom (λ begins. absurd (true≢false (sym begins ∙ ap begins_item at_strings)))
      (λ sets at_strings. subst (λ f. IsEscapeCause mode us start added f s.rest d) (sym place_is) (subst (λ rest. IsEscapeCause mode us start added f rest d) (sym rest_is) (own sets)))
      (subst (λ f. EscapeFault f s.rest d) (sym place_is) (subst (λ rest. EscapeFault f rest d) (sym rest_is) c))))))

  -- a range that is refused
  range_stuck : (place : ℕ) (rest : List CodePoint) (d : Diagnostic) → (i : IsItemPlace here from at_class place rest) → is_union i.inner.held ≡ true → IsBlockedItem here fresh (i.inner ∷ i.outer) rest → RangeFault place rest d → Stuck place d
  range_stuck place rest d i u blocked fault =
      let at_fresh = item_fresh place rest i u in
      at_item place rest place d i (subst (λ q. IsBlockedItem here q (i.inner ∷ i.outer) rest) (sym at_fresh) blocked) (said (elsewhere (of_range at_fresh u fault)))

  range_there : (place : ℕ) (v x : ℕ) (w z more : List CodePoint) (hyphen : CodePoint) (d : Diagnostic) → (s : StandsRange here v w hyphen x z more) →
      d ≡ range_fault place (character s.low_kind v) (character s.high_kind x) (length w) (length z) → RangeFault place (w ++ (hyphen ∷ (z ++ more))) d
  range_there place v x w z more hyphen d s fault = record {
    a = character s.low_kind v;
    b = character s.high_kind x;
    w = w;
    hyphen = hyphen;
    v = z;
    more = more;
    whole = refl;
    low_is = s.low_is;
    hyphen_is = s.hyphen_is;
    high_is = s.high_is;
    ends = λ sets. (refl, refl);
    fault = fault;
  }

  ends_there : (place : ℕ) (a b : Atom) (w v more : List CodePoint) (hyphen : CodePoint) → mode ≡ Unicode → SpellsAtom here a w (hyphen ∷ (v ++ more)) → hyphen.value ≡ 45 → SpellsAtom here b v more → (is_character a && is_character b) ≡ false →
      RangeFault place (w ++ (hyphen ∷ (v ++ more))) (CharacterClassRangeInvalidAtom (span_between us start added place (place + length w + 1 + length v)))
  ends_there place a b w v more hyphen m s h t none = record {
    a = a;
    b = b;
    w = w;
    hyphen = hyphen;
    v = v;
    more = more;
    whole = refl;
    low_is = s;
    hyphen_is = h;
    high_is = t;
    ends = λ sets. absurd (true≢false (sym sets ∙ ap is_sets m));
    fault = sym (cond-false (is_sets mode) _ _ (ap is_sets m) ∙ cond-false (is_character a && is_character b) _ _ none);
  }

  pub stuck : (f : ℕ) (d : Diagnostic) → IsClassCause mode us start added from at_class f d → Stuck f d
  stuck _ _ (class_cause.unterminated_class is_nested begin place rest i union none goes ends) =
      let p = i.item_place in
      record {
        state = state_in is_nested begin place rest i;
        is_stuck = stuck_in is_nested begin place rest i (λ outer. nothing_dead p.at p.inner outer rest none);
        fault = nothing none (in_class is_nested begin (in_bracket is_nested begin place rest i).opens p.begins union goes ends);
      }
  stuck _ _ (class_cause.no_operand place rest p sets empties none some) =
      at_item place rest place _ p (dead_blocked here p.at (p.inner ∷ p.outer) rest (nothing_dead p.at p.inner p.outer rest none)) (nothing none (no_operand p.begins sets empties some))
  stuck _ _ (class_cause.third_ampersand place unit rest p after_it is) =
      at_item place (unit ∷ rest) place _ p
      (subst (λ q. IsBlockedItem here q (p.inner ∷ p.outer) (unit ∷ rest)) (sym after_it) (dead_blocked here (after_operator Intersection) (p.inner ∷ p.outer) (unit ∷ rest) (third_dead mode us start added p.inner p.outer unit rest is)))
      (said (ampersand unit rest after_it refl is))
  stuck _ _ (class_cause.no_operator operator place rest p is none third) =
      at_item place rest place _ p (dead_blocked here p.at (p.inner ∷ p.outer) rest (nothing_dead p.at p.inner p.outer rest none)) (nothing none (no_operator operator p.begins is third))
  stuck _ _ (class_cause.unterminated_strings opener place rest i ends) =
      strings_stuck place (UnterminatedPattern (span_between us start added opener place) what.ClassStringDisjunction) opener place rest i (λ t w more whole s. absurd (ends t w more whole s)) (λ s at_is rest_is place_is opens.
      subst (λ place. Fault s place (UnterminatedPattern (span_between us start added opener place) what.ClassStringDisjunction)) place_is
      (nothing (λ t w more whole k. absurd (ends t w more (sym rest_is ∙ whole) (subst (λ q. SpellsInClass here q t w more) at_is k))) (in_class_strings opener at_is opens)))
  stuck _ _ (class_cause.negative_strings is_nested begin place rest n) =
      let c = negative_stuck is_nested begin place rest n in
      record {
        state = c.state;
        is_stuck = c.is_stuck;
        fault =
            subst (λ place. Fault c.state place (of_negative is_nested (span_between us start added begin (place + 1)))) c.place_is
            (said (closing is_nested begin c.opens c.begins c.closes c.whole));
      }
  stuck _ _ (class_cause.range_out_of_order place low_value high_value w v more hyphen no_sets i s below other) =
      range_stuck place (w ++ (hyphen ∷ (v ++ more))) _ i (item_union place (w ++ (hyphen ∷ (v ++ more))) i no_sets) (range_blocked mode us start added i.inner i.outer low_value high_value w v more hyphen s below)
      (range_there place low_value high_value w v more hyphen _ s
      (sym (cond-false (is_sets mode) _ _ no_sets ∙ cond-false (high_value == 45) _ _ (false_from_ne_true (high_value == 45) (λ t. other (eqb-true high_value 45 t))))))
  stuck _ _ (class_cause.dash_out_of_order place low_value w v more hyphen no_sets i s below) =
      range_stuck place (w ++ (hyphen ∷ (v ++ more))) _ i (item_union place (w ++ (hyphen ∷ (v ++ more))) i no_sets) (range_blocked mode us start added i.inner i.outer low_value 45 w v more hyphen s below)
      (range_there place low_value 45 w v more hyphen _ s (sym (cond-false (is_sets mode) _ _ no_sets)))
  stuck _ _ (class_cause.set_range_out_of_order place low_value high_value w v more hyphen sets i union s below) =
      range_stuck place (w ++ (hyphen ∷ (v ++ more))) _ i union (range_blocked mode us start added i.inner i.outer low_value high_value w v more hyphen s below)
      (range_there place low_value high_value w v more hyphen _ s (sym (cond-true (is_sets mode) _ _ sets)))
  stuck _ _ (class_cause.invalid_range place a b w v more hyphen i m s h t none) =
      range_stuck place (w ++ (hyphen ∷ (v ++ more))) _ i (item_union place (w ++ (hyphen ∷ (v ++ more))) i (ap is_sets m))
      (dead_blocked here fresh (i.inner ∷ i.outer) (w ++ (hyphen ∷ (v ++ more))) (ends_dead mode us start added i.inner i.outer a b w v more hyphen m s h t none)) (ends_there place a b w v more hyphen m s h t none)
  stuck _ _ (class_cause.invalid_atom place backslash rest no_sets i h none) = atom_stuck place (backslash ∷ rest) _ i (bad_escape backslash rest no_sets refl h none) (λ sets. absurd (true≢false (sym sets ∙ no_sets)))
  stuck _ d (class_cause.escape_in_class place rest i c) = atom_stuck place rest d i (in_escape c) (λ sets. c)
  stuck _ d (class_cause.property_in_class place rest (inl o) c) = operand_stuck place rest d o (in_property c)
  stuck _ d (class_cause.property_in_class place rest (inr i) c) = second_stuck place rest d i.1 (in_property c) (λ sets. absurd (true≢false (sym sets ∙ i.0)))
