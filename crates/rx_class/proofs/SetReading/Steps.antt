-- What a turn of the reader of a class with `v` adds to what was built.
use Rattle.std.proofs.Common.{◌≡◌, refl, sym, ap, ◌∙◌, subst, ℕ, ◌+◌, ◌<◌, Bool, true, false, Some, List, [], ◌∷◌, ◌++◌, length, arith, append_assoc}
use Rattle.rx_class.proofs.Common.{length-map, same_from_push, SetOperator, CodePoint, Cursor, move_on, offset_of, rest, values, empty, is_whole, with_operator, Atom, ClassEvents, ClassToken, bracket}
use Rattle.rx_class.proofs.Common.{closer, enter, item, leave, token, class_tokens_of, operator, operator_text, Environment, is_sets, starts, begins_item, tokens_append, ClassBuilder}
use Rattle.rx_class.proofs.Common.{builder_events, mirror_held, AddsToSets, IsInSets, IsOfSets, RefusesNoEnd, innermost_held, offset_in, place_of, IsWellBuilt}
use Rattle.rx_model.specs.Classes.ClassRows.{ClassRow, Place, SpellsBracket, SpellsInClass, next_place, outside, fresh}
use Rattle.rx_model.specs.Classes.ClassTokens.{is_character}
use Rattle.rx_class.specs.declared.sets.held.Held.{Held as HeldState}
use Rattle.rx_class.specs.SetReading.Fronts.{Begins, BeginsBracket}
use Rattle.rx_class.specs.SetReading.Progress.{bracket_text}
use Rattle.rx_class.proofs.ClassReading.Items.{rows_append}
use Rattle.rx_class.proofs.Keeping.{keeps_on, passes_keeps, passes_moved}
use Rattle.rx_class.proofs.Operators.{begins_cases, begins_place, operand_after, operator_leads, operator_no_item, operator_places, operator_spelled, some_operator, whole_fresh}

-- After another token than a character no range is begun.
pub last_no_character : (e : Environment) (r : Cursor) (before after : ClassBuilder) (more : ClassEvents) (ts : List ClassToken) (t : ClassToken) → builder_events after ≡ builder_events before ++ more →
    class_tokens_of more ≡ ts ++ (t ∷ []) → ((a : Atom) → t ≡ item a → is_character a ≡ true → ⊥) → RefusesNoEnd e r after
last_no_character e r before after more ts t events last other union xs a tokens is =
    let all : xs ++ (item a ∷ []) ≡ (class_tokens_of (builder_events before) ++ ts) ++ (t ∷ []) =
    sym tokens ∙ ap class_tokens_of events ∙ tokens_append (builder_events before) more ∙ ap (λ us. class_tokens_of (builder_events before) ++ us) last
    ∙ sym (append_assoc (class_tokens_of (builder_events before)) ts (t ∷ [])) in
    absurd (other a (sym (same_from_push xs (class_tokens_of (builder_events before) ++ ts) (item a) t all).1) is)

module _ (e : Environment) (added : ℕ) (old new : Cursor) (before after : ClassBuilder) where
  -- More events that lead on by some units.
  pub adds_by : (more : ClassEvents) (w left : List CodePoint) (q r : Place) → rest old ≡ w ++ left → 0 < length w → new ≡ move_on (length w) old → builder_events after ≡ builder_events before ++ more →
      place_of (innermost_held before) ≡ q → place_of (innermost_held after) ≡ r → ClassRow e (offset_in added old) more q old.place (w ++ left) r (old.place + length w) left → IsWellBuilt after → RefusesNoEnd e new after →
      AddsToSets e added old new before after
  adds_by more w left q r whole some moves events from to row well ends =
      let p = passes_moved old new w left whole some moves in
      let passes = p.0 in
      let place : new.place ≡ old.place + length w = ap (λ (r : Cursor). r.place) passes.moves in record {
        keeps = passes_keeps passes;
        goes_on = omega (arith, place, some);
        more = more;
        events = events;
        row = rw (p.1, place, whole, from, to) row;
        well = well;
        ends = ends;
      }

  -- one token more
  pub adds_token : (t : ClassToken) (w left : List CodePoint) (q : Place) → rest old ≡ w ++ left → 0 < length w → new ≡ move_on (length w) old → builder_events after ≡ builder_events before ++ (token t ∷ []) →
      place_of (innermost_held before) ≡ q → place_of (innermost_held after) ≡ next_place e.mode q t left → SpellsInClass e q t w left → IsWellBuilt after → ((a : Atom) → t ≡ item a → is_character a ≡ true → ⊥) → AddsToSets e added old new before after
  adds_token t w left q whole some moves events from to spelled well other =
      adds_by (token t ∷ []) w left q (next_place e.mode q t left) whole some moves events from to (w, left, refl, spelled, (refl, refl, refl)) well
      (last_no_character e new before after (token t ∷ []) [] t events refl other)

-- What was built so far goes on with more.
pub goes_on : {e : Environment} {added : ℕ} {from old new : Cursor} {before after : ClassBuilder} → IsInSets e added from old before → AddsToSets e added old new before after → IsInSets e added from new after
goes_on {e} {added} {from} {old} {new} {before} {after} h a = record {
  keeps = keeps_on h.keeps a.keeps;
  row =
      rw (a.events) (rows_append e (offset_in added from) (builder_events before) a.more outside from.place (rest from) (place_of (innermost_held before)) old.place (rest old) (place_of (innermost_held after)) new.place (rest new) h.row
      (subst (λ (r : Cursor). ClassRow e (offset_in added r) a.more (place_of (innermost_held before)) old.place (rest old) (place_of (innermost_held after)) new.place (rest new)) h.keeps.same a.row));
  well = a.well;
  ends = a.ends;
}

begins_some : (us : List CodePoint) (text : List ℕ) (b : Begins us text) → length b.w ≡ length text
begins_some us text b = sym (length-map b.w (λ (u : CodePoint). u.value)) ∙ ap length b.text_is

-- an operator
module _ (added : ℕ) (old new : Cursor) (before after : ClassBuilder) (held : HeldState) (with : innermost_held after ≡ mirror_held held) (well : IsWellBuilt after) (o : SetOperator) where
  pub operator_adds : Begins (rest old) (operator_text o) → with_operator o (innermost_held before) ≡ Some (mirror_held held) → builder_events after ≡ builder_events before ++ (token (operator o) ∷ []) → new ≡ move_on (length (operator_text o)) old →
      (e : Environment) → IsOfSets e old → AddsToSets e added old new before after
  operator_adds front by events moves e of =
      let places = operator_places o (innermost_held before) (mirror_held held) by in
      let n = begins_some (rest old) (operator_text o) front in
      adds_token e added old new before after (operator o) front.w front.rest fresh front.whole (omega (arith, n, some_operator o)) (moves ∙ ap (λ n. move_on n old) (sym n)) events places.0
      (ap place_of with ∙ places.1 ∙ sym (operator_leads o e.mode fresh front.rest)) (operator_spelled o e front.w front.rest of.sets front.text_is) well (operator_no_item o)

-- After an item, or an operator, a nested bracket may stand.
bracket_there : (e : Environment) (q : Place) (negative : Bool) (w left : List CodePoint) → begins_item q ≡ true → is_sets e.mode ≡ true → SpellsBracket negative w left → SpellsInClass e q (bracket negative) w left
bracket_there e q negative w left begins sets s =
    begins_cases (λ q. SpellsInClass e q (bracket negative) w left) (sets, s) (λ o. operand_after o e (bracket negative) w left sets s (λ is. no_ampersand negative s)) q begins
  where
    no_ampersand : (negative : Bool) → SpellsBracket negative w left → starts 38 (values w) ≡ false
    no_ampersand true s = ap (starts 38) s
    no_ampersand false s = ap (starts 38) s.0

bracket_count : (negative : Bool) (w left : List CodePoint) → SpellsBracket negative w left → length w ≡ length (bracket_text negative)
bracket_count true w left s = sym (length-map w (λ (u : CodePoint). u.value)) ∙ ap length s
bracket_count false w left s = sym (length-map w (λ (u : CodePoint). u.value)) ∙ ap length s.0

some_text : (negative : Bool) → 0 < length (bracket_text negative)
some_text true = omega arith
some_text false = omega arith

-- a bracket that opens, and one that closes
module _ (added : ℕ) (old new : Cursor) (before after : ClassBuilder) (well : IsWellBuilt after) where
  pub open_adds : (negative : Bool) (start count : ℕ) → BeginsBracket (rest old) negative → innermost_held after ≡ empty → builder_events after ≡ builder_events before ++ (enter start ∷ token (bracket negative) ∷ []) →
      start ≡ offset_of old + added → count ≡ length (bracket_text negative) → new ≡ move_on count old → (e : Environment) → IsOfSets e old → AddsToSets e added old new before after
  open_adds negative start count front with events at counts moves e of =
      let n = bracket_count negative front.w front.rest front.spelled in
      let q = place_of (innermost_held before) in
      adds_by e added old new before after (enter start ∷ token (bracket negative) ∷ []) front.w front.rest q fresh front.whole (omega (arith, n, some_text negative)) (moves ∙ ap (λ n. move_on n old) (counts ∙ sym n)) events refl (ap place_of with)
      (at, (front.w, front.rest, refl, bracket_there e q negative front.w front.rest (begins_place (innermost_held before)) of.sets front.spelled, (refl, refl, refl))) well
      (last_no_character e new before after (enter start ∷ token (bracket negative) ∷ []) [] (bracket negative) events refl (λ a same is. let no : ⊥ = cc same in no))

  pub close_adds : (end : ℕ) → Begins (rest old) (93 ∷ []) → is_whole (innermost_held before) ≡ true → is_whole (innermost_held after) ≡ true → builder_events after ≡ builder_events before ++ (token closer ∷ leave end ∷ []) →
      end ≡ offset_of new + added → new ≡ move_on 1 old → (e : Environment) → IsOfSets e old → AddsToSets e added old new before after
  close_adds end front whole held events at moves e of =
      let n = begins_some (rest old) (93 ∷ []) front in
      let moves_on : new ≡ move_on (length front.w) old = moves ∙ ap (λ n. move_on n old) (sym n) in
      let p = passes_moved old new front.w front.rest front.whole (omega (arith, n)) moves_on in
      let passes = p.0 in
      let there : end ≡ offset_in added old (old.place + length front.w) = at ∙ ap (λ (r : Cursor). offset_of r + added) passes.moves in
      adds_by e added old new before after (token closer ∷ leave end ∷ []) front.w front.rest fresh fresh front.whole (omega (arith, n)) moves_on events (whole_fresh (innermost_held before) whole) (whole_fresh (innermost_held after) held)
      (front.w, front.rest, refl, front.text_is, (there, (refl, refl, refl))) well
      (last_no_character e new before after (token closer ∷ leave end ∷ []) [] closer events refl (λ a same is. let no : ⊥ = cc same in no))
