-- At each place of a class where an item may begin one leads on, the class ends free of early errors, or a refusal holds, if one does where nothing may follow.
use Rattle.std.proofs.Common.{◌≡◌, ◌⊎◌, refl, ap, ap₂, sym, ◌∙◌, subst, ℕ, zero, suc, ◌+◌, ◌<◌, ◌≤◌, ◌==◌, ◌&&◌, Bool, true, false, not, nat_le, is_some, Option, Some, None, List, [], ◌∷◌, ◌++◌, length, arith, inl, inr, length-append, append_assoc}
use Rattle.std.proofs.lemmas.Bool.{and_from, cases_Bool, eqb-true, le-leb, true≢false}
use Rattle.std.proofs.lemmas.Bool.Decides.{nat_tests}
use Rattle.std.proofs.lemmas.List.{map-append}
use Rattle.std.proofs.lemmas.List.Elements.{All-append, All-cons, All-nil}
use Rattle.std.proofs.Math.Bool.{and-false}
use Rattle.rx_base.specs.declared.diagnostic.Diagnostic.{Diagnostic}
use Rattle.rx_base.specs.declared.diagnostic.kinds.SetOperator.{SetOperator}
use Rattle.rx_ast.specs.ClassTree.{Class}
use Rattle.rx_ast.specs.declared.leaf.CharacterKind.{CharacterKind}
use Rattle.rx_ast.specs.declared.leaf.CharacterKind.TheVariants as kinds
use Rattle.rx_units.specs.declared.code_point.CodePoint.{CodePoint}
use Rattle.rx_units.specs.Units.{values}
use Rattle.rx_model.specs.declared.mode.Mode.{Mode}
use Rattle.rx_model.specs.declared.mode.Mode.TheVariants.{Legacy}
use Rattle.rx_model.specs.Classes.ClassFronts.{TokenRead, class_token_at}
use Rattle.rx_model.specs.Classes.ClassRows.{BeforeHigh, BeforeThird, ClassTokenRow, IsClass, Place, SpellsAtom, SpellsClassCharacter, SpellsInClass, StandsBefore, at_dash, at_high, at_second, at_third, next_place, following_item, after_operator, fresh, has_threes, in_strings, is_dashed, outside}
use Rattle.rx_model.specs.Classes.ClassRuns.{Bracket, Brackets, Held, empty, single, several, any_string, atom_may, atom_obeys, after_step, bracket_of, class_run, class_step, after_closer, add_operator, add_thing, is_union, is_whole, with_operator, may_close, may_follow, operand, with_range, takes_operand, where_may, where_true, with_strings}
use Rattle.rx_model.specs.Classes.ClassTokens.{Atom, ClassToken, bracket, character, closer, dash, escape, high, item, operator, letter, low, property, string_bar, strings, strings_end}
use Rattle.rx_model.specs.FirstPass.Marks.{starts}
use Rattle.rx_model.specs.Inputs.Environment.{Environment, is_sets, is_unicode}
use Rattle.rx_model.specs.Properties.PropertyEscapes as spelled
use Rattle.rx_model.specs.Properties.PropertyEscapes.{SpellsProperty}
use Rattle.rx_model.specs.Refusals.ClassCauses as class_cause
use Rattle.rx_model.specs.Refusals.ClassCauses.{IsClassCause, NothingFollows, StandsRange}
use Rattle.rx_model.specs.Refusals.ClassPlaces.{IsItemPlace, IsOfStrings, IsStringPlace, begins_item}
use Rattle.rx_model.specs.Refusals.EscapeCauses.{IsPropertyCause, negative_of_strings}
use Rattle.rx_model.specs.Refusals.Reached.{class_environment}
use Rattle.rx_model.specs.Trees.Early.{IsEarlyClass}
use Rattle.rx_model.proofs.Classes.ClassCloses.{closed_class}
use Rattle.rx_model.proofs.Classes.ClassFronts.{atom_some, after_first, after_one, class_token_found, class_token_is, single as one_unit, token_some, sets_is}
use Rattle.rx_model.proofs.Classes.ClassEnds.{class_row_append}
use Rattle.rx_model.proofs.Classes.ClassStates.{opened_union}
use Rattle.rx_model.proofs.Classes.ClassValues.{AreSmall, character_small, small_back}
use Rattle.rx_model.proofs.Classes.ClassWholes.{class_opened-append, class_run-append}
use Rattle.rx_model.proofs.Classes.OpenBrackets.{around_takes, innermost}
use Rattle.rx_model.proofs.Properties.PropertyRefusals.{lone_run}
use Rattle.rx_model.proofs.Properties.PropertyTables.{strings_word}
use Rattle.rx_model.proofs.Reading.Prefixes.{first_in_class}

threes_legacy : (mode : Mode) → has_threes mode ≡ true → (is_unicode mode ≡ false) × (is_sets mode ≡ false)
threes_legacy Legacy h = (refl, refl)
threes_legacy mode h = absurd (true≢false (sym h))

-- A range stands in a union alone; a union takes an operand and is one still.
pub ranged_union : (h k : Held) → with_range h ≡ Some k → is_union h ≡ true
ranged_union empty k e = refl
ranged_union single k e = refl
ranged_union several k e = refl
ranged_union held k e = absurd (let no : ⊥ = cc e in no)

union_on : (h : Held) → is_union h ≡ true → (k : Held) × (operand h ≡ Some k) × (is_union k ≡ true)
union_on empty u = (single, refl, refl)
union_on single u = (several, refl, refl)
union_on several u = (several, refl, refl)
union_on held u = absurd (true≢false (sym u))

-- one item more in the innermost bracket
abbrev item_in : Bracket → Held → Atom → Bracket
item_in r held a = bracket_of r.negative held (with_strings r.held r.may (atom_may a))

item_step : (a : Atom) (r : Bracket) (outer : Brackets) (held : Held) → atom_obeys a ≡ true → operand r.held ≡ Some held → class_step (item a) (r ∷ outer) ≡ Some (item_in r held a ∷ outer)
item_step a r outer held obeys e = ap (λ b. where_true b (add_thing r outer (atom_may a) (operand r.held))) obeys ∙ ap (add_thing r outer (atom_may a)) e

abbrev on : List ClassToken → Option Brackets → Option Brackets
on ts o = after_step o (λ bs. class_run ts bs)

three_run : (a b c : Atom) (r : Bracket) (outer : Brackets) → is_union r.held ≡ true → atom_obeys a ≡ true → atom_obeys b ≡ true → atom_obeys c ≡ true → (m : Bracket) × (class_run (item a ∷ item b ∷ item c ∷ []) (r ∷ outer) ≡ Some (m ∷ outer))
three_run a b c r outer union first second third =
    let h = union_on r.held union in
    let k = union_on h.0 h.2 in
    let l = union_on k.0 k.2 in
    let one = item_in r h.0 a in
    let two = item_in one k.0 b in
    (item_in two l.0 c, ap (on (item b ∷ item c ∷ [])) (item_step a r outer h.0 first h.1) ∙ ap (on (item c ∷ [])) (item_step b one outer k.0 second k.1) ∙ ap (on []) (item_step c two outer l.0 third l.1))

range_run : (k j : CharacterKind) (v x : ℕ) (r : Bracket) (outer : Brackets) (held : Held) → with_range r.held ≡ Some held → nat_le v x ≡ true → nat_le x 0x10FFFF ≡ true →
    (m : Bracket) × (class_run (low k v ∷ dash ∷ high j x ∷ []) (r ∷ outer) ≡ Some (m ∷ outer))
range_run k j v x r outer held e order small =
    let b : Bracket = record r { low_end = v } in (
      bracket_of r.negative held (with_strings r.held r.may false),
      ap (λ o. on (dash ∷ high j x ∷ []) (where_may o (b ∷ outer))) e
          ∙ ap (on []) (ap (λ t. where_true t (add_thing b outer false (with_range r.held))) (and_from (nat_le v x) (nat_le x 0x10FFFF) order small) ∙ ap (add_thing b outer false) e),
    )

module _ (mode : Mode) (us : List CodePoint) (start added from : ℕ) (at_class : List CodePoint) where
  abbrev pub here : Environment
  here = class_environment mode us

  abbrev pub Item : ℕ → List CodePoint → Type 0
  Item place rest = IsItemPlace here from at_class place rest

  abbrev pub Refused : Type 0
  Refused = (f : ℕ) × (d : Diagnostic) × IsClassCause mode us start added from at_class f d

  abbrev pub StandsClass : Type 0
  StandsClass = (c : Class) × (w : List CodePoint) × (rest : List CodePoint) × (at_class ≡ w ++ rest) × IsClass here c w rest × IsEarlyClass c

  -- Where nothing may follow a refusal holds.
  abbrev pub RefusesNothing : Type 0
  RefusesNothing = (place : ℕ) (rest : List CodePoint) (i : Item place rest) → NothingFollows here i.at i.inner.held rest → Refused

  -- what a token is where an item may begin
  data TokenView (q : Place) (w more : List CodePoint) : ClassToken → Type 0 where
    closes : values w ≡ 93 ∷ [] → TokenView q w more closer
    one : (a : Atom) → SpellsAtom here a w more → next_place mode q (item a) more ≡ fresh → TokenView q w more (item a)
    first : (a : Atom) → SpellsAtom here a w more → next_place mode q (item a) more ≡ at_second → BeforeThird here a more → TokenView q w more (item a)
    begins_range : (k : CharacterKind) (v : ℕ) → SpellsClassCharacter here k v w more → is_dashed (values more) ≡ true → BeforeHigh here more → TokenView q w more (low k v)
    opens : (negative : Bool) → TokenView q w more (bracket negative)
    opens_strings : TokenView q w more strings
    joins : (o : SetOperator) → TokenView q w more (operator o)

  fresh_view : (a : Atom) (w more : List CodePoint) → SpellsAtom here a w more → StandsBefore here a more → TokenView fresh w more (item a)
  fresh_view a w more s (inl d) = one a s (after_one here a more d)
  fresh_view a w more s (inr (inl t)) = first a s (after_first here a more t) t
  fresh_view a w more s (inr (inr n)) = one a s (ap (λ b. following_item fresh b) (ap (λ threes. is_dashed (values more) && threes) (ap has_threes (sets_is mode n.sets)) ∙ and-false (is_dashed (values more))))

  view : (q : Place) → begins_item q ≡ true → (t : ClassToken) (w more : List CodePoint) → SpellsInClass here q t w more → TokenView q w more t
  view fresh b closer w more s = closes s
  view fresh b (item a) w more s = fresh_view a w more s.0 s.1
  view fresh b (low k v) w more s = begins_range k v s.0 s.1 s.2
  view fresh b (bracket negative) w more s = opens negative
  view fresh b strings w more s = opens_strings
  view fresh b (operator o) w more s = joins o
  view (after_operator o) b (item a) w more s = one a s.1 refl
  view (after_operator o) b (bracket negative) w more s = opens negative
  view (after_operator o) b strings w more s = opens_strings
  view (after_operator o) b t w more s = absurd s.1
  view outside b t w more s = absurd (true≢false (sym b))
  view at_dash b t w more s = absurd (true≢false (sym b))
  view at_high b t w more s = absurd (true≢false (sym b))
  view at_second b t w more s = absurd (true≢false (sym b))
  view at_third b t w more s = absurd (true≢false (sym b))
  view in_strings b t w more s = absurd (true≢false (sym b))
  view q b t w more s = absurd s

  -- A negative property of strings is refused.
  property_refused : (place : ℕ) (name : List ℕ) (value : Option (List ℕ)) (w more : List CodePoint) → SpellsAtom here (property true true name value) w more → (d : Diagnostic) × IsPropertyCause mode us start added place (w ++ more) d
  property_refused place name value w more s = by s.spelled text_is
    where
      text_is : values (w ++ more) ≡ 92 ∷ 80 ∷ 123 ∷ (s.text ++ (125 ∷ values more))
      text_is = map-append (λ (u : CodePoint). u.value) w more ∙ ap (λ v. v ++ values more) s.whole ∙ ap (λ v. 92 ∷ 80 ∷ 123 ∷ v) (append_assoc s.text (125 ∷ []) (values more))

      by : {name : List ℕ} {value : Option (List ℕ)} {text : List ℕ} → SpellsProperty mode true name value text → values (w ++ more) ≡ 92 ∷ 80 ∷ 123 ∷ (text ++ (125 ∷ values more)) → (d : Diagnostic) × IsPropertyCause mode us start added place (w ++ more) d
      by (spelled.of_strings {name = name} sets no_category no_binary known) h =
          (_, negative_of_strings (name ++ (125 ∷ values more)) name (values more) sets h (lone_run name (values more) (strings_word name known)) no_category no_binary known)

  -- An atom obeys, but for such a property.
  character_obeys : (k : CharacterKind) (v : ℕ) (w more : List CodePoint) → SpellsAtom here (character k v) w more → AreSmall (w ++ more) → atom_obeys (character k v) ≡ true
  character_obeys k v w more s small = le-leb v 0x10FFFF (character_small here k v w more s small)

  atom_obeys_or : (a : Atom) (w more : List CodePoint) → SpellsAtom here a w more → AreSmall (w ++ more) → (atom_obeys a ≡ true) ⊎ ((place : ℕ) → (d : Diagnostic) × IsPropertyCause mode us start added place (w ++ more) d)
  atom_obeys_or (character k v) w more s small = inl (character_obeys k v w more s small)
  atom_obeys_or (escape k) w more s small = inl refl
  atom_obeys_or (property true true name value) w more s small = inr (λ place. property_refused place name value w more s)
  atom_obeys_or q w more s small = inl refl

  legacy_obeys : is_unicode mode ≡ false → (a : Atom) (w more : List CodePoint) → SpellsAtom here a w more → AreSmall (w ++ more) → atom_obeys a ≡ true
  legacy_obeys legacy (character k v) w more s small = character_obeys k v w more s small
  legacy_obeys legacy (escape k) w more s small = refl
  legacy_obeys legacy (property negative may name value) w more s small = absurd (true≢false (sym s.unicode ∙ legacy))

  -- the same place, before the same text
  abbrev pub same_place : {place : ℕ} {rest : List CodePoint} (i : Item place rest) (all : List CodePoint) → rest ≡ all → Item place all
  same_place {place} i all h = record {
    tokens = i.tokens;
    at = i.at;
    inner = i.inner;
    outer = i.outer;
    begins = i.begins;
    row = subst (ClassTokenRow here i.tokens outside at_class i.at) h i.row;
    accepted = i.accepted;
    place_is = i.place_is ∙ ap (λ us. place + length us) h;
  }

  further : {place : ℕ} {rest : List CodePoint} (i : Item place rest) (ts : List ClassToken) (q : Place) (w more : List CodePoint) (m : Bracket) (ms : Brackets) → rest ≡ w ++ more → begins_item q ≡ true → ClassTokenRow here ts i.at rest q more →
      class_run ts (i.inner ∷ i.outer) ≡ Some (m ∷ ms) → Item (place + length w) more
  further {place} {rest} i ts q w more m ms whole begins row run = record {
    tokens = i.tokens ++ ts;
    at = q;
    inner = m;
    outer = ms;
    begins = begins;
    row = class_row_append here i.tokens ts outside at_class i.at rest q more i.row row;
    accepted = class_opened-append i.tokens ts (i.inner ∷ i.outer) i.accepted ∙ run;
    place_is = omega (arith, i.place_is, ap length whole, length-append w more);
  }

  module _ (refuses : RefusesNothing) where
    -- from a further place a class stands, or a refusal holds
    abbrev Again : ℕ → Type 0
    Again n = (place : ℕ) (back : List CodePoint) → length back < n → AreSmall back → Item place back → StandsClass ⊎ Refused

    go_on : {place : ℕ} {rest : List CodePoint} (i : Item place rest) → AreSmall rest → Again (length rest) → (ts : List ClassToken) (q : Place) (w more : List CodePoint) (m : Bracket) (ms : Brackets) → rest ≡ w ++ more →
        begins_item q ≡ true → 0 < length w → ClassTokenRow here ts i.at rest q more → class_run ts (i.inner ∷ i.outer) ≡ Some (m ∷ ms) → StandsClass ⊎ Refused
    go_on {place} i small again ts q w more m ms whole begins some row run =
        again (place + length w) more (omega (arith, some, ap length whole, length-append w more)) (small_back w more (subst AreSmall whole small)) (further i ts q w more m ms whole begins row run)

    -- a token that stands where an item may begin
    module _ {place : ℕ} {rest : List CodePoint} (i : Item place rest) (small : AreSmall rest) (again : Again (length rest)) (t : ClassToken) (w more : List CodePoint) (whole : rest ≡ w ++ more) (s : SpellsInClass here i.at t w more) where
      -- It may not follow what the bracket holds: nothing may.
      token_stuck : may_follow i.inner.held t ≡ false → StandsClass ⊎ Refused
      token_stuck none = inr (refuses place rest i (λ r v back h k.
          let same = first_in_class here i.at r t v back w more (sym h ∙ whole) k s in ap (may_follow i.inner.held) same.0 ∙ none))

      one_on : (m : Bracket) (ms : Brackets) → begins_item (next_place mode i.at t more) ≡ true → class_step t (i.inner ∷ i.outer) ≡ Some (m ∷ ms) → StandsClass ⊎ Refused
      one_on m ms begins step =
          go_on i small again (t ∷ []) (next_place mode i.at t more) w more m ms whole begins (token_some here i.at t w more s) (w, more, whole, s, (refl, refl)) (ap (on []) step)

    module _ {place : ℕ} {rest : List CodePoint} (i : Item place rest) (small : AreSmall rest) (again : Again (length rest)) (w more : List CodePoint) (whole : rest ≡ w ++ more) where
      of_text : (a : Atom) → SpellsAtom here a w more → takes_operand i.inner.held ≡ true → (atom_obeys a ≡ true) ⊎ Refused
      of_text a s takes = elim (atom_obeys_or a w more s (subst AreSmall whole small)) [
        | inl o ↦ inl o
        | inr r ↦
            let c = r place in
            inr (place, c.0, class_cause.property_in_class place rest (inl (record { item_place = i; takes = takes })) (subst (λ us'. IsPropertyCause mode us start added place us' c.0) (sym whole) c.1))
      ]

      atom_on : (a : Atom) → SpellsInClass here i.at (item a) w more → SpellsAtom here a w more → next_place mode i.at (item a) more ≡ fresh → (o : Option Held) → operand i.inner.held ≡ o → StandsClass ⊎ Refused
      atom_on a s t fresh_is None e = token_stuck i small again (item a) w more whole s (ap is_some e)
      atom_on a s t fresh_is (Some held) e = elim (of_text a t (ap is_some e)) [
        | inl o ↦ one_on i small again (item a) w more whole s (item_in i.inner held a) i.outer (ap begins_item fresh_is) (item_step a i.inner i.outer held o e)
        | inr r ↦ inr r
      ]

      -- three items
      three_on : (a : Atom) → SpellsInClass here i.at (item a) w more → SpellsAtom here a w more → next_place mode i.at (item a) more ≡ at_second → BeforeThird here a more → StandsClass ⊎ Refused
      three_on a s t second_is b =
          let legacy = threes_legacy mode b.threes in
          let middle : Atom = character kinds.Symbol 45 in
          let after_first = small_back w more (subst AreSmall whole small) in
          let text : AreSmall (b.hyphen ∷ (b.w ++ b.more)) = subst AreSmall b.whole after_first in
          let u = opened_union here legacy.1 i.tokens at_class i.at rest i.inner i.outer i.row i.accepted in
          let run = three_run a middle b.third i.inner i.outer u (legacy_obeys legacy.0 a w more t (subst AreSmall whole small)) refl (legacy_obeys legacy.0 b.third b.w b.more b.spelled text.1) in
          let all = w ++ (b.hyphen ∷ b.w) in
          let joined : rest ≡ all ++ b.more = whole ∙ ap (λ v. w ++ v) b.whole ∙ sym (append_assoc w (b.hyphen ∷ b.w) b.more) in
          let others : ClassTokenRow here (item middle ∷ item b.third ∷ []) at_second more fresh b.more =
          (b.hyphen ∷ [], b.w ++ b.more, b.whole, (refl, ap (λ c. c ∷ []) b.hyphen_is), (b.w, b.more, refl, b.spelled, (refl, refl))) in
          go_on i small again (item a ∷ item middle ∷ item b.third ∷ []) fresh all b.more run.0 i.outer joined refl (omega (arith, atom_some here a w more t, length-append w (b.hyphen ∷ b.w)))
          (w, more, whole, s, subst (λ q. ClassTokenRow here (item middle ∷ item b.third ∷ []) q more fresh b.more) (sym second_is) others) run.1

      -- a range
      range_on : (k : CharacterKind) (v : ℕ) → SpellsInClass here i.at (low k v) w more → SpellsClassCharacter here k v w more → (b : BeforeHigh here more) → (o : Option Held) → with_range i.inner.held ≡ o → StandsClass ⊎ Refused
      range_on k v s t b None e = token_stuck i small again (low k v) w more whole s (ap is_some e)
      range_on k v s t b (Some held) e = elim (cases_Bool (nat_le v b.value)) [ inl o ↦ ordered o | inr o ↦ inr (disordered o) ]
        where
          joined : rest ≡ w ++ (b.hyphen ∷ (b.w ++ b.more))
          joined = whole ∙ ap (λ v. w ++ v) b.whole

          at : Item place (w ++ (b.hyphen ∷ (b.w ++ b.more)))
          at = same_place i (w ++ (b.hyphen ∷ (b.w ++ b.more))) joined

          text : AreSmall (b.hyphen ∷ (b.w ++ b.more))
          text = small_back w _ (subst AreSmall joined small)

          stands : StandsRange here v w b.hyphen b.value b.w b.more
          stands = record { low_kind = k; low_is = subst (SpellsClassCharacter here k v w) b.whole t; hyphen_is = b.hyphen_is; high_kind = b.kind; high_is = b.spelled }

          ordered : nat_le v b.value ≡ true → StandsClass ⊎ Refused
          ordered o =
              let run = range_run k b.kind v b.value i.inner i.outer held e o (le-leb b.value 0x10FFFF (character_small here b.kind b.value b.w b.more b.spelled text.1)) in
              let all = w ++ (b.hyphen ∷ b.w) in
              go_on i small again (low k v ∷ dash ∷ high b.kind b.value ∷ []) fresh all b.more run.0 i.outer (joined ∙ sym (append_assoc w (b.hyphen ∷ b.w) b.more)) refl
              (omega (arith, atom_some here (character k v) w more t, length-append w (b.hyphen ∷ b.w)))
              (w, more, whole, s, (b.hyphen ∷ [], b.w ++ b.more, b.whole, ap (λ c. c ∷ []) b.hyphen_is, (b.w, b.more, refl, b.spelled, (refl, refl)))) run.1

          below : nat_le v b.value ≡ false → b.value < v
          below o = grind (arith, nat_tests)

          disordered : nat_le v b.value ≡ false → Refused
          disordered o = elim (cases_Bool (is_sets mode)) [
            | inl sets ↦ (
              place,
              _,
              class_cause.set_range_out_of_order place v b.value w b.w b.more b.hyphen sets (same_place i (w ++ (b.hyphen ∷ (b.w ++ b.more))) joined) (ranged_union i.inner.held held e) stands (below o),
            )
            | inr no_sets ↦ elim (cases_Bool (b.value == 45)) [
              | inl h ↦
                  let same = eqb-true b.value 45 h in
                  (place, _, class_cause.dash_out_of_order place v w b.w b.more b.hyphen no_sets at (subst (λ x. StandsRange here v w b.hyphen x b.w b.more) same stands) (let l = below o in omega (arith, l, same)))
              | inr h ↦ (place, _, class_cause.range_out_of_order place v b.value w b.w b.more b.hyphen no_sets at stands (below o) (λ same. let no : ⊥ = grind (arith, nat_tests, same, h) in no))
            ]
          ]

      -- the end of a bracket
      closer_on : SpellsInClass here i.at closer w more → values w ≡ 93 ∷ [] → StandsClass ⊎ Refused
      closer_on s is = elim (cases_Bool (is_whole i.inner.held)) [
        | inr other ↦ token_stuck i small again closer w more whole s other
        | inl whole_is ↦ elim (cases_Bool (i.inner.negative && i.inner.may)) [ inl n ↦ inr (negative_there whole_is n) | inr n ↦ closes_bracket (and_from (is_whole i.inner.held) (not (i.inner.negative && i.inner.may)) whole_is (ap not n)) ]
      ]
        where
          negative_there : is_whole i.inner.held ≡ true → (i.inner.negative && i.inner.may) ≡ true → Refused
          negative_there whole_is n =
              let b = innermost here from at_class place rest i in
              let u = one_unit w 93 is in
              let first : starts 93 (values rest) ≡ true = ap (λ us. starts 93 (values us)) (whole ∙ ap (λ w. w ++ more) u.1) ∙ ap (λ c. c == 93) u.2 in (
                place,
                _,
                class_cause.negative_strings b.is_nested b.begin place rest record {
                  in_bracket = b.in_bracket;
                  closes = first;
                  whole = ap (λ r. is_whole r.held) b.inner_is ∙ whole_is;
                  may = ap (λ r. r.negative && r.may) b.inner_is ∙ n;
                },
              )

          closed_by : may_close i.inner ≡ true → (outer : Brackets) → i.outer ≡ outer → StandsClass ⊎ Refused
          closed_by close [] none =
              let row = class_row_append here i.tokens (closer ∷ []) outside at_class i.at rest fresh more i.row (w, more, whole, s, (refl, refl)) in
              let ended : class_step closer (i.inner ∷ i.outer) ≡ Some [] = ap₂ (after_closer i.inner.may) close none in
              let c = closed_class here (i.tokens ++ (closer ∷ [])) at_class more row (class_opened-append i.tokens (closer ∷ []) (i.inner ∷ i.outer) i.accepted ∙ ap (on []) ended) in
              inl (c.it, c.w, more, c.whole, c.spelled, c.early)
          closed_by close (r ∷ outer) some =
              let takes = around_takes i.tokens i.inner r outer (i.accepted ∙ ap (λ outer. Some (i.inner ∷ outer)) some) in
              held_by (operand r.held) refl takes
            where
              held_by : (o : Option Held) → operand r.held ≡ o → is_some (operand r.held) ≡ true → StandsClass ⊎ Refused
              held_by None e takes = absurd (true≢false (sym takes ∙ ap is_some e))
              held_by (Some held) e takes =
                  one_on i small again closer w more whole s (bracket_of r.negative held (with_strings r.held r.may i.inner.may)) outer refl (ap₂ (after_closer i.inner.may) close some ∙ ap (add_thing r outer i.inner.may) e)

          closes_bracket : may_close i.inner ≡ true → StandsClass ⊎ Refused
          closes_bracket close = closed_by close i.outer refl

      -- a bracket, and an operator
      bracket_on : (negative : Bool) → SpellsInClass here i.at (bracket negative) w more → (o : Option Held) → operand i.inner.held ≡ o → StandsClass ⊎ Refused
      bracket_on negative s None e = token_stuck i small again (bracket negative) w more whole s (ap is_some e)
      bracket_on negative s (Some held) e =
          one_on i small again (bracket negative) w more whole s (bracket_of negative empty false) (i.inner ∷ i.outer) refl (ap (λ o. where_may o (bracket_of negative empty false ∷ i.inner ∷ i.outer)) e)

      operator_on : (p : SetOperator) → SpellsInClass here i.at (operator p) w more → (o : Option Held) → with_operator p i.inner.held ≡ o → StandsClass ⊎ Refused
      operator_on p s None e = token_stuck i small again (operator p) w more whole s (ap is_some e)
      operator_on p s (Some held) e = one_on i small again (operator p) w more whole s (bracket_of i.inner.negative held i.inner.may) i.outer refl (ap (add_operator i.inner i.outer) e)

    -- A place in class strings, of a bracket that takes an operand.
    record InStrings (opener place : ℕ) (rest : List CodePoint) : Type 0 where
      it : IsStringPlace here from at_class opener place rest
      takes : takes_operand it.inner.held ≡ true

    -- Class strings from here on.
    module _ (k opener : ℕ) (again : Again k) {place : ℕ} {rest : List CodePoint} (p : InStrings opener place rest) (small : AreSmall rest) (shorter : length rest ≤ k)
        (again_in : (place : ℕ) (back : List CodePoint) → length back < length rest → AreSmall back → InStrings opener place back → StandsClass ⊎ Refused) where
      abbrev q : IsStringPlace here from at_class opener place rest
      q = p.it

      string_on : (t : ClassToken) (w more : List CodePoint) (m : Bracket) → IsOfStrings t → rest ≡ w ++ more → SpellsInClass here in_strings t w more → next_place mode in_strings t more ≡ in_strings → takes_operand m.held ≡ true →
          class_step t (q.inner ∷ q.outer) ≡ Some (m ∷ q.outer) → StandsClass ⊎ Refused
      string_on t w more m of whole s after_is takes step =
          again_in (place + length w) more (omega (arith, token_some here in_strings t w more s, ap length whole, length-append w more)) (small_back w more (subst AreSmall whole small)) (record {
            it = record {
              at_strings = q.at_strings;
              item_place = q.item_place;
              inside = q.inside ++ (t ∷ []);
              of_strings = All-append IsOfStrings q.inside (t ∷ []) q.of_strings (All-cons IsOfStrings t [] of (All-nil IsOfStrings));
              row = class_row_append here (strings ∷ q.inside) (t ∷ []) q.item_place.at q.at_strings in_strings rest in_strings more q.row (w, more, whole, s, (after_is, refl));
              inner = m;
              outer = q.outer;
              accepted = class_run-append (strings ∷ q.inside) (t ∷ []) (q.item_place.inner ∷ q.item_place.outer) (q.inner ∷ q.outer) q.accepted ∙ ap (on []) step;
              place_is = omega (arith, q.place_is, ap length whole, length-append w more);
            };
            takes = takes;
          })

      end_on : (w more : List CodePoint) → rest ≡ w ++ more → SpellsInClass here in_strings strings_end w more → (o : Option Held) → operand q.inner.held ≡ o → StandsClass ⊎ Refused
      end_on w more whole s None e = absurd (true≢false (sym p.takes ∙ ap is_some e))
      end_on w more whole s (Some held) e =
          let i = q.item_place in
          let ts : List ClassToken = strings ∷ (q.inside ++ (strings_end ∷ [])) in
          let row = class_row_append here (strings ∷ q.inside) (strings_end ∷ []) i.at q.at_strings in_strings rest fresh more q.row (w, more, whole, s, (refl, refl)) in
          let run = class_run-append (strings ∷ q.inside) (strings_end ∷ []) (i.inner ∷ i.outer) (q.inner ∷ q.outer) q.accepted ∙ ap (on []) (ap (add_thing q.inner q.outer (any_string q.inner)) e) in
          again (place + length w) more (omega (arith, token_some here in_strings strings_end w more s, ap length whole, length-append w more)) (small_back w more (subst AreSmall whole small)) (record {
            tokens = i.tokens ++ ts;
            at = fresh;
            inner = bracket_of q.inner.negative held (with_strings q.inner.held q.inner.may (any_string q.inner));
            outer = q.outer;
            begins = refl;
            row = class_row_append here i.tokens ts outside at_class i.at q.at_strings fresh more i.row row;
            accepted = class_opened-append i.tokens ts (i.inner ∷ i.outer) i.accepted ∙ run;
            place_is = omega (arith, q.place_is, ap length whole, length-append w more);
          })

      of_strings_on : (t : ClassToken) (w more : List CodePoint) → rest ≡ w ++ more → SpellsInClass here in_strings t w more → StandsClass ⊎ Refused
      of_strings_on (letter j v) w more whole s =
          string_on (letter j v) w more (record q.inner { count = q.inner.count + 1 }) tt whole s refl p.takes
          (ap (λ b. where_true b (Some (record q.inner { count = q.inner.count + 1 } ∷ q.outer))) (le-leb v 0x10FFFF (character_small here j v w more s.1 (subst AreSmall whole small))))
      of_strings_on string_bar w more whole s = string_on string_bar w more (record q.inner { count = 0; any = any_string q.inner }) tt whole s refl p.takes refl
      of_strings_on strings_end w more whole s = end_on w more whole s (operand q.inner.held) refl
      of_strings_on t w more whole s = absurd s.1

      strings_by : (r : TokenRead) → class_token_at here in_strings rest ≡ r → StandsClass ⊎ Refused
      strings_by None h =
          inr (
            place,
            _,
            class_cause.unterminated_strings opener place rest q (λ t w more whole s.
                let no : None ≡ Some (t, length w) = sym h ∙ ap (class_token_at here in_strings) whole ∙ class_token_is here in_strings t w more s in cc no),
          )
      strings_by (Some r) h = let f = class_token_found here in_strings rest r.0 r.1 h in of_strings_on r.0 f.w f.rest f.whole f.spelled

    strings_go : (n k opener place : ℕ) (rest : List CodePoint) → Again k → length rest ≤ n → length rest ≤ k → AreSmall rest → InStrings opener place rest → StandsClass ⊎ Refused
    strings_go zero k opener place rest again l h small p = strings_by k opener again p small h (λ place back less. absurd (omega (arith, less, l))) (class_token_at here in_strings rest) refl
    strings_go (suc n) k opener place rest again l h small p =
        strings_by k opener again p small h (λ place back less small p. strings_go n k opener place back again (omega (arith, less, l)) (omega (arith, less, h)) small p) (class_token_at here in_strings rest) refl

    strings_on : {place : ℕ} {rest : List CodePoint} (i : Item place rest) → AreSmall rest → Again (length rest) → (w more : List CodePoint) → rest ≡ w ++ more → SpellsInClass here i.at strings w more → (o : Option Held) → operand i.inner.held ≡ o →
        StandsClass ⊎ Refused
    strings_on i small again w more whole s None e = token_stuck i small again strings w more whole s (ap is_some e)
    strings_on {place} {rest} i small again w more whole s (Some held) e =
        strings_go (length more) (length rest) place (place + length w) more again (omega arith) (omega (arith, ap length whole, length-append w more)) (small_back w more (subst AreSmall whole small)) (record {
          it = record {
            at_strings = rest;
            item_place = i;
            inside = [];
            of_strings = All-nil IsOfStrings;
            row = (w, more, whole, s, (refl, refl));
            inner = record i.inner { count = 0; any = false };
            outer = i.outer;
            accepted = ap (λ o. on [] (where_may o (record i.inner { count = 0; any = false } ∷ i.outer))) e;
            place_is = omega (arith, i.place_is, ap length whole, length-append w more);
          };
          takes = ap is_some e;
        })

    -- A token that stands where an item may begin.
    token_on : {place : ℕ} {rest : List CodePoint} (i : Item place rest) → AreSmall rest → Again (length rest) → (t : ClassToken) (w more : List CodePoint) → rest ≡ w ++ more → SpellsInClass here i.at t w more → TokenView i.at w more t →
        StandsClass ⊎ Refused
    token_on i small again closer w more whole s (closes is) = closer_on i small again w more whole s is
    token_on i small again _ w more whole s (one a t is) = atom_on i small again w more whole a s t is (operand i.inner.held) refl
    token_on i small again _ w more whole s (first a t is b) = three_on i small again w more whole a s t is b
    token_on i small again _ w more whole s (begins_range k v t d b) = range_on i small again w more whole k v s t b (with_range i.inner.held) refl
    token_on i small again _ w more whole s (opens negative) = bracket_on i small again w more whole negative s (operand i.inner.held) refl
    token_on i small again _ w more whole s opens_strings = strings_on i small again w more whole s (operand i.inner.held) refl
    token_on i small again _ w more whole s (joins o) = operator_on i small again w more whole o s (with_operator o i.inner.held) refl

    item_by : (place : ℕ) (rest : List CodePoint) (i : Item place rest) → AreSmall rest → Again (length rest) → (r : TokenRead) → class_token_at here i.at rest ≡ r → StandsClass ⊎ Refused
    item_by place rest i small again None h =
        inr (refuses place rest i (λ t w more whole s.
        let no : None ≡ Some (t, length w) = sym h ∙ ap (class_token_at here i.at) whole ∙ class_token_is here i.at t w more s in absurd (let f : ⊥ = cc no in f)))
    item_by place rest i small again (Some r) h =
        let f = class_token_found here i.at rest r.0 r.1 h in
        token_on i small again r.0 f.w f.rest f.whole f.spelled (view i.at i.begins r.0 f.w f.rest f.spelled)

    goes : (n place : ℕ) (rest : List CodePoint) → length rest ≤ n → AreSmall rest → Item place rest → StandsClass ⊎ Refused
    goes zero place rest l small i = item_by place rest i small (λ place back less. absurd (omega (arith, less, l))) (class_token_at here i.at rest) refl
    goes (suc n) place rest l small i = item_by place rest i small (λ place back less small i. goes n place back (omega (arith, less, l)) small i) (class_token_at here i.at rest) refl

    -- A class free of early errors, or a refusal.
    pub class_or_refusal : (u : CodePoint) (text : List CodePoint) → at_class ≡ u ∷ text → u.value ≡ 91 → AreSmall text → StandsClass ⊎ Refused
    class_or_refusal u text at h small = by text at small
      where
        opened : (negative : Bool) (place : ℕ) (w following : List CodePoint) → at_class ≡ w ++ following → SpellsInClass here outside (bracket negative) w following → place ≡ from + length w → AreSmall following → StandsClass ⊎ Refused
        opened negative place w following whole s place_is small = goes (length following) place following (omega arith) small (record {
          tokens = bracket negative ∷ [];
          at = fresh;
          inner = bracket_of negative empty false;
          outer = [];
          begins = refl;
          row = (w, following, whole, s, (refl, refl));
          accepted = refl;
          place_is = omega (arith, place_is, ap length whole, length-append w following);
        })

        by : (text : List CodePoint) → at_class ≡ u ∷ text → AreSmall text → StandsClass ⊎ Refused
        by [] at small = opened false (from + 1) (u ∷ []) [] at (ap (λ c. c ∷ []) h, refl) (omega arith) tt
        by (v ∷ text) at small = elim (cases_Bool (v.value == 94)) [
          | inl c ↦ opened true (from + 2) (u ∷ v ∷ []) text at (ap₂ (λ a b. a ∷ b ∷ []) h (eqb-true v.value 94 c)) (omega arith) small.1
          | inr c ↦ opened false (from + 1) (u ∷ []) (v ∷ text) at (ap (λ c. c ∷ []) h, c) (omega arith) small
        ]
