-- A class with `v`, from its bracket to its end: what its turns add up to, and what is answered.
use Rattle.std.proofs.Common.{◌≡◌, refl, sym, ap, ◌∙◌, subst, ℕ, ◌+◌, ◌-◌, ◌<◌, Bool, true, MatchResult, Result, Ok, Err, Some, List, [], ◌∷◌, ◌++◌, length, min, arith, append_assoc, if◌then◌else◌}
use Rattle.rx_class.proofs.Common.{same_from_push, Fault, CharacterClass, no_member, mirror_class, CodePoint, Cursor, move_on, offset_of, rest, values, empty, IsFitting, IsFlagged, bracket, class_events}
use Rattle.rx_class.proofs.Common.{class_tokens_of, closer, enter, item, leave, token, IsEarlyClass, starts, Environment, IsFirstInClass, ClassBuilder, BeginsNoClass, GivesClass, GivesOneClass}
use Rattle.rx_class.proofs.Common.{builder_events, KeepsUnits, AddsToSets, GivesTurn, IsInSets, IsOfSets, adds, innermost_held, offset_in, place_of, IsWellBuilt}
use Rattle.rx_units.specs.Cursor.{begins}
use Rattle.rx_model.specs.Classes.ClassRows.{ClassRow, fresh, outside}
use Rattle.rx_class.specs.ClassReading.Answers as class_answer
use Rattle.rx_class.specs.SetReading.Progress.{ClosesSets, EndsSets, no_memory, refused}
use Rattle.rx_class.proofs.ClassReading.Ends.{IsInClass, begins_class, no_class_there}
use Rattle.rx_class.proofs.ClassReading.Items.{rows_append}
use Rattle.rx_class.proofs.Keeping.{Passes, keeps_on, passes_keeps, passes_moved}
use Rattle.rx_class.proofs.Operators.{whole_fresh}
use Rattle.rx_class.proofs.SetReading.Places.{row_units}
use Rattle.rx_class.proofs.SetReading.Refusals.{unit_next}

-- A reader that moves in a text stays in it.
pub kept_sets : {e : Environment} {from r : Cursor} → IsOfSets e from → KeepsUnits from r → IsOfSets e r
kept_sets {e} {from} {r} of keeps = subst (IsOfSets e) (sym keeps.same) record { sets = of.sets; text = of.text; within = keeps.within }

-- After its bracket the reader is in a class, of which nothing was read.
pub begins_sets : (e : Environment) (added : ℕ) (old mid new : Cursor) (negative : Bool) (start : ℕ) (b : ClassBuilder) → starts 91 (values (rest old)) ≡ true → mid ≡ move_on 1 old → negative ≡ begins (94 ∷ []) (rest mid) →
    new ≡ (if negative then move_on 1 mid else mid) → start ≡ offset_of old + added → builder_events b ≡ enter start ∷ token (bracket negative) ∷ [] → innermost_held b ≡ empty → IsWellBuilt b → IsInSets e added old new b
begins_sets e added old mid new negative start b stands moves says is at events held well = record {
  keeps = passes_keeps h.passes;
  row = rw (events, held) (at, (h.w, h.v ++ rest new, h.passes.whole ∙ append_assoc h.w h.v (rest new), h.opens, h.items.row));
  well = well;
  ends = λ union before a tokens character. absurd (let no : ⊥ = cc (same_from_push before [] (item a) (bracket negative) (sym tokens ∙ ap class_tokens_of events)).1 in no);
}
  where
    h : IsInClass e added old new negative no_member
    h = begins_class e added old mid new negative stands moves says is

-- What a turn adds leaves fewer units.
pub turn_adds : {e : Environment} {added : ℕ} {old new : Cursor} {before after : ClassBuilder} → GivesTurn e added old new before after (Ok tt) → AddsToSets e added old new before after
turn_adds (adds a) = a

pub fewer_left : {e : Environment} {added : ℕ} {old new : Cursor} {before after : ClassBuilder} → AddsToSets e added old new before after → length new.units - new.place < length old.units - old.place
fewer_left {e} {added} {old} {new} a =
    let keeps = a.keeps in
    omega (arith, a.goes_on, keeps.within, ap (λ (r : Cursor). length r.units) keeps.same)

module _ {e : Environment} {added : ℕ} {from r : Cursor} {b : ClassBuilder} (of : IsOfSets e from) (h : IsInSets e added from r b) where
  -- What is refused in the class is its first refusal.
  pub refuses_class : {new : Cursor} {after : ClassBuilder} {cause : Fault} → GivesTurn e added r new b after (Err cause) → GivesClass e added from new (Err cause)
  refuses_class {new} (refused {diagnostic} first keeps) =
      let is = subst (λ (r : Cursor). IsFirstInClass e.mode r.units r.first added from.place (rest from) diagnostic) h.keeps.same (first from h) in
      class_answer.refused is
      (subst (λ t. BeginsNoClass t (rest from)) (sym of.text) (no_class_there e.mode from.units from.first added from.place is.place (rest from) diagnostic is.holds))
      (keeps_on h.keeps keeps)
  refuses_class (no_memory keeps) = class_answer.no_memory (keeps_on h.keeps keeps)

  -- The class's own `]` is read: a class stands there.
  pub sets_give : (new : Cursor) (end : ℕ) (it : CharacterClass) → EndsSets r b → new ≡ move_on 1 r → end ≡ offset_of new + added → class_events (mirror_class it) ≡ builder_events b ++ (token closer ∷ leave end ∷ []) →
      IsFitting (mirror_class it) → IsFlagged (mirror_class it) → IsEarlyClass (mirror_class it) → GivesClass e added from new (Ok (Some it))
  sets_give new end it ends moves at events fitting flagged early =
      class_answer.some spelled.0 (rest new) spelled.1 record { shape = (fitting, flagged); row = rw (← spelled.1, ← spelled.2, events) row } early all
    where
      o : ℕ → ℕ
      o = offset_in added from

      u : (u : CodePoint) × (more : List CodePoint) × (rest r ≡ u ∷ more) × (u.value ≡ 93)
      u = unit_next 93 (rest r) ends.closer

      p : Passes r new (u.0 ∷ [])
      p = let q = passes_moved r new (u.0 ∷ []) u.1 u.2 (omega arith) moves in q.0

      keeps : KeepsUnits from new
      keeps = keeps_on h.keeps (passes_keeps p)

      place : new.place ≡ r.place + 1
      place = ap (λ (r : Cursor). r.place) p.moves

      end_is : end ≡ o (r.place + 1)
      end_is = at ∙ ap (λ n. n + added) (ap offset_of keeps.same) ∙ ap o place

      closes : ClassRow e o (token closer ∷ leave end ∷ []) (place_of (innermost_held b)) r.place (rest r) fresh new.place (rest new)
      closes =
          subst (λ q. ClassRow e o (token closer ∷ leave end ∷ []) q r.place (rest r) fresh new.place (rest new)) (sym (whole_fresh (innermost_held b) ends.whole))
          (u.0 ∷ [], rest new, p.whole, ap (λ c. c ∷ []) u.3, (end_is, (refl, sym place, refl)))

      row : ClassRow e o (builder_events b ++ (token closer ∷ leave end ∷ [])) outside from.place (rest from) fresh new.place (rest new)
      row = rows_append e o (builder_events b) (token closer ∷ leave end ∷ []) outside from.place (rest from) (place_of (innermost_held b)) r.place (rest r) fresh new.place (rest new) h.row closes

      spelled : (w : List CodePoint) × (rest from ≡ w ++ rest new) × (new.place ≡ from.place + length w)
      spelled = row_units e o (builder_events b ++ (token closer ∷ leave end ∷ [])) outside from.place (rest from) fresh new.place (rest new) row

      all : new ≡ move_on (length spelled.0) from
      all = keeps.same ∙ ap (λ place. record from { place = place }) (let k : new.place ≡ min (from.place + length spelled.0) (length from.units) = omega (arith, spelled.2, keeps.within) in k)

  -- Whatever is answered at the class's own `]`.
  pub sets_given : (new : Cursor) (given : Result CharacterClass Fault) → EndsSets r b → MatchResult given (ClosesSets added r new b) (λ cause. GivesTurn e added r new b b (Err cause)) → GivesOneClass e added from new given
  sets_given new (Ok it) ends closes = sets_give new _ it ends closes.moves refl closes.events closes.fitting closes.flagged closes.early
  sets_given new (Err cause) ends gives = refuses_class gives
